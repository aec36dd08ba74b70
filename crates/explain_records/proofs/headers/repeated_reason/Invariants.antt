use Rattle.std.proofs.Common.{◌≡◌, None, take}
use Rattle.std.specs.List.{find}
use Rattle.explain_model.specs.Keys.{repeated_key, same_symbol}
use Rattle.explain_records.proofs.headers.repeated_reason.Given as goal

abbrev pub invariant-loop-r : goal.invariant-loop-r
invariant-loop-r l = find (λ r. same_symbol (repeated_key r) l.key) (take l.r-index l.repeated) ≡ None
