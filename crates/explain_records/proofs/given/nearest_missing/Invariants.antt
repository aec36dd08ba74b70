use Rattle.std.proofs.Common.{◌≡◌, filter, take}
use Rattle.explain_model.specs.Commanded.{nearest}
use Rattle.explain_model.specs.SilentReasons.{misses_prb}
use Rattle.explain_records.proofs.given.nearest_missing.Given as goal

abbrev pub invariant-loop-r : goal.invariant-loop-r
invariant-loop-r l = l.nearest ≡ nearest (λ r. r.distance) (filter (misses_prb l.key l.prb) (take l.r-index l.given))
