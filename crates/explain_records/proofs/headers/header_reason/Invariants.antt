use Rattle.std.proofs.Common.{◌≡◌, None, take}
use Rattle.std.specs.List.{find}
use Rattle.explain_model.specs.Keys.{header_key, same_symbol}
use Rattle.explain_records.proofs.headers.header_reason.Given as goal

abbrev pub invariant-loop-r : goal.invariant-loop-r
invariant-loop-r l = find (λ r. same_symbol (header_key r) l.key) (take l.r-index l.headers) ≡ None
