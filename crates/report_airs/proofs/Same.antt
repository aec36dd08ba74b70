-- When two symbols are the same.
use Rattle.std.proofs.Common.{◌≡◌, true, ◌==◌}
use Rattle.std.specs.Cmp.{first_so, second_so}
use Rattle.std.specs.Ordering.{int_eq}
use Rattle.std.proofs.lemmas.Bool.{eqb-true}
use Rattle.fh_base.proofs.Orders.{same_z}
use Rattle.report_airs.specs.declared.places.SymbolPlace.{SymbolPlace}
use Rattle.report_airs.specs.Places.{same_place}
use Rattle.air_source.proofs.Sides.{side_same}

-- the same symbol is one symbol
pub same_is : (p q : SymbolPlace) → same_place p q ≡ true → p ≡ q
same_is p q h =
    let symbol = eqb-true p.symbol q.symbol (second_so _ (p.symbol == q.symbol) h) in
    let h1 = first_so _ (p.symbol == q.symbol) h in
    let slot = eqb-true p.slot.slot q.slot.slot (second_so _ (p.slot.slot == q.slot.slot) h1) in
    let h2 = first_so _ (p.slot.slot == q.slot.slot) h1 in
    let subframe = eqb-true p.slot.subframe q.slot.subframe (second_so _ (p.slot.subframe == q.slot.subframe) h2) in
    let h3 = first_so _ (p.slot.subframe == q.slot.subframe) h2 in
    let frame = same_z p.slot.frame q.slot.frame (second_so _ (int_eq p.slot.frame q.slot.frame) h3) in
    let h4 = first_so _ (int_eq p.slot.frame q.slot.frame) h3 in
    let id = eqb-true p.id q.id (second_so _ (p.id == q.id) h4) in
    let h5 = first_so _ (p.id == q.id) h4 in
    let at = same_z p.at.0 q.at.0 (second_so _ (int_eq p.at.0 q.at.0) h5) in
    let side = side_same p.side q.side (first_so _ (int_eq p.at.0 q.at.0) h5) in
    λ i. record { side = side i; at = record { 0 = at i }; id = id i; slot = record { frame = frame i; subframe = subframe i; slot = slot i }; symbol = symbol i }
