use Rattle.std.proofs.Common.{◌≡◌, take}
use Rattle.explain_heard.specs.Judged.{all_judged}
use Rattle.explain_heard.proofs.judging.judge_all.Given as goal

abbrev pub invariant-loop-one : goal.invariant-loop-one
invariant-loop-one l = l.judged.items ≡ all_judged l.side l.delays (take l.one-index l.heard)
