-- The combined cell whose turn it is has the cell's place.
use Rattle.std.proofs.Common.{arith, ◌≡◌, ◌<◌, ◌∙◌, ap, sym, length}
use Rattle.shared_cell.specs.declared.places.CellPlace.{CellPlace}
use Rattle.shared_cell.specs.declared.values.Mixed.{Mixed}
use Rattle.shared_cell.specs.Finding.{index_of}
use Rattle.shared_cell.specs.Places.{place_in, place_of}
use Rattle.shared_cell.proofs.Same.{same_is}
use Rattle.shared_cell.proofs.mixing.Mixer.put.Goals as goal

pub join-requires : goal.join-requires
join-requires c =
    let items = c.self.inside.mixed.items in
    let k = c.self.inside.turn in
    let seen = c.index.result.now in
    let less : k < length items = omega (arith, c.self.inside.mixed.ok.0, c.len.ensures, c.if-turn-len.true) in
    let same : c.place_of-place.result ≡ place_in seen = same_is c.place_of-place.result (place_in seen) (sym c.is_at.ensures ∙ c.if-is_at.true) in
    ap (index_of (place_of c.args.c.now)) (sym c.self.view_is)
    ∙ ap (λ (p : CellPlace). index_of p items) (sym c.place_of-place.ensures ∙ same ∙ ap (λ (m : Mixed). place_in m) c.index.ensures)
    ∙ c.self.invariant.finds.apart k seen less
