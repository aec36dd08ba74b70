use Rattle.std.proofs.Common.{◌≡◌}
use Rattle.std.specs.Prelude.{◌==◌}
use Rattle.explain_units.specs.Blocks.{giver_of}
use Rattle.explain_model.specs.Judged.{passing}
use Rattle.explain_units.proofs.blocks.Blocks.fresh_count.Given as goal

abbrev pub invariant-loop-k : goal.invariant-loop-k
invariant-loop-k l = l.fresh ≡ passing l.given.first l.k (λ prb. giver_of l.self l.given.id l.given.slot l.given.symbol prb == 0)
