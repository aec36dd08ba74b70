use Rattle.std.proofs.Common.{◌≡◌, ◌-◌, drop}
use Rattle.plan_model.specs.Dense.{first_near}
use Rattle.plan_model.proofs.dense.dense_in.Given as goal

abbrev pub invariant-loop-k : goal.invariant-loop-k
invariant-loop-k l = first_near l.distance.0 l.k (drop (l.k - 256) l.sendings) (drop l.k l.sendings) ≡ first_near l.distance.0 256 l.sendings (drop 256 l.sendings)
