use Rattle.std.proofs.Common.{◌≡◌, filter, take}
use Rattle.explain_model.specs.SilentReasons.{last_of}
use Rattle.explain_model.specs.Keys.{beginning_key, same_symbol}
use Rattle.explain_records.proofs.headers.last_begun.Given as goal

abbrev pub invariant-loop-r : goal.invariant-loop-r
invariant-loop-r l = l.last ≡ last_of (filter (λ r. same_symbol (beginning_key r) l.key) (take l.r-index l.begun))
