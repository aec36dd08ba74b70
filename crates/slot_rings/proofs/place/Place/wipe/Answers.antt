use Rattle.std.proofs.Common.{ap, arith, List, length}
use Rattle.unit_model.specs.declared.allocations.Allocation.{Allocation}
use Rattle.slot_rings.proofs.RowLemmas.{rows_none}
use Rattle.slot_rings.proofs.place.Place.wipe.Goals as goal

pub invariant_of-self : goal.invariant_of-self
invariant_of-self c =
    let i = c.self.inside in
    let v = c.self.invariant in (
      omega (arith, v.0, c.wipe.ensures.capacity),
      omega (arith, v.1, c.wipe-2.ensures.capacity),
      omega (arith, v.2, c.wipe-3.ensures.cells),
      omega (arith, v.3, c.clear.ensures.capacity),
      omega (arith, ap (λ (l : List Allocation). length l) c.clear.ensures.items),
      rows_none i.prbs c.wipe.new.list.items c.wipe.ensures.blank,
      rows_none i.prbs c.wipe-2.new.list.items c.wipe-2.ensures.blank,
      record { each = λ k out. c.wipe.ensures.blank k },
      record { each = λ k out. c.wipe-2.ensures.blank k },
      record { each = λ k out. c.wipe-3.ensures.none k },
    )
