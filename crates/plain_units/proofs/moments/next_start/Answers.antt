use Rattle.std.proofs.Common.{subst}
use Rattle.std.specs.Prelude.{All, List}
use Rattle.std.proofs.lemmas.List.{take_all}
use Rattle.plain_units.specs.ClaimedStarts.{IsNotMissed, OfEachSymbol}
use Rattle.unit_model.specs.declared.allocations.Allocation.{Allocation}
use Rattle.plain_units.proofs.StartLaws.{one_allocation_more}
use Rattle.plain_units.proofs.moments.next_start.Goals as goal

pub loop-a-preserved : goal.loop-a-preserved
loop-a-preserved c = (
  c.nearest_of-next.ensures.low,
  one_allocation_more c.args.from.0 c.args.down c.loop-a.next c.nearest_of-next.result c.args.accepted.now c.loop-a.a-index c.a-item.result c.loop-a-test.true c.nearest_of-next.ensures.others
      c.loop-a.invariant.1 (subst (OfEachSymbol (IsNotMissed c.args.from.0 c.nearest_of-next.result) c.args.down) c.a-item.is c.nearest_of-next.ensures.starts),
)

pub returns-clause-first : goal.returns-clause-first
returns-clause-first c =
    subst (λ (xs : List Allocation). All (OfEachSymbol (IsNotMissed c.args.from.0 c.loop-a.next) c.args.down) xs)
    (take_all c.loop-a.a-index c.args.accepted.now c.loop-a-test.false) c.loop-a.invariant.1
