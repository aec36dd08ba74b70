use Rattle.std.proofs.Common.{◌≡◌, None, take}
use Rattle.std.specs.List.{find}
use Rattle.explain_model.specs.SilentReasons.{gives_prb}
use Rattle.explain_records.proofs.given.giver_of.Given as goal

abbrev pub invariant-loop-r : goal.invariant-loop-r
invariant-loop-r l = find (gives_prb l.key l.prb) (take l.r-index l.given) ≡ None
