-- The places of cells: this project's profile of a shared cell.
use Rattle.std.specs.Prelude.{Bool, ◌==◌, ◌&&◌}
use Rattle.std.specs.Ordering.{nat_cmp, int_cmp, int_eq, on, then_cmp}
use Rattle.std.specs.declared.cmp.Ordering.{Ordering}
use Rattle.air_source.specs.declared.events.AirCell.{AirCell}
use Rattle.shared_cell.specs.declared.places.CellPlace.{CellPlace}
use Rattle.shared_cell.specs.declared.values.Mixed.{Mixed}

-- where a cell is
abbrev pub place_of : AirCell → CellPlace
place_of c = record { frame = c.slot.frame; subframe = c.slot.subframe; slot = c.slot.slot; symbol = c.symbol; id = c.id; prb = c.prb }

-- where a combined cell is
abbrev pub place_in : Mixed → CellPlace
place_in m = record { frame = m.slot.frame; subframe = m.slot.subframe; slot = m.slot.slot; symbol = m.symbol; id = m.id; prb = m.prb }

-- the same endpoint, slot, symbol and PRB
abbrev pub is_same : CellPlace → CellPlace → Bool
is_same p q = int_eq p.frame q.frame && ((p.subframe == q.subframe) && ((p.slot == q.slot) && ((p.symbol == q.symbol) && ((p.id == q.id) && (p.prb == q.prb)))))

-- a cell is at the place
abbrev pub is_at : CellPlace → AirCell → Bool
is_at p c = is_same p (place_of c)

-- a combined cell is at the place
abbrev pub is_mixed_at : CellPlace → Mixed → Bool
is_mixed_at p m = is_same p (place_in m)

-- the order of places: by their slots, symbols, endpoints' ids and PRBs
abbrev pub place_cmp : CellPlace → CellPlace → Ordering
place_cmp = then_cmp (on (λ p. p.frame) int_cmp)
    (then_cmp (on (λ p. p.subframe) nat_cmp)
    (then_cmp (on (λ p. p.slot) nat_cmp)
    (then_cmp (on (λ p. p.symbol) nat_cmp)
    (then_cmp (on (λ p. p.id) nat_cmp)
    (on (λ p. p.prb) nat_cmp)))))
