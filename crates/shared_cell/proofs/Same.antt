-- When two places are the same, and what the map's order says of it.
use Rattle.std.proofs.Common.{◌≡◌, ℤ, Bool, true, false, ◌==◌, refl, sym, ◌∙◌, arith, subst}
use Rattle.std.specs.Cmp.{both_tied, first_so, second_so}
use Rattle.std.specs.Ordering.{int_cmp, int_eq, is_eq}
use Rattle.std.proofs.lemmas.Bool.Decides.{nat_tests}
use Rattle.std.proofs.lemmas.Int.{ints}
use Rattle.std.proofs.lemmas.Bool.{eq-eqb, eqb-true}
use Rattle.fh_base.proofs.Orders.{int_own, same_z}
use Rattle.shared_cell.specs.declared.places.CellPlace.{CellPlace}
use Rattle.shared_cell.specs.Places.{is_same, place_cmp}
use Rattle.fh_base.proofs.CommonLemmas.{nat_equal}

eq_int : (x y : ℤ) → is_eq (int_cmp x y) ≡ int_eq x y
eq_int x y = grind (arith, ints, nat_tests)

-- places compare equal exactly where they are the same
pub is_eq-place_cmp : (p q : CellPlace) → is_eq (place_cmp p q) ≡ is_same p q
is_eq-place_cmp p q =
    sym (both_tied _ _ _ _ (sym (eq_int p.frame q.frame))
    (both_tied _ _ _ _ (sym (nat_equal p.subframe q.subframe))
    (both_tied _ _ _ _ (sym (nat_equal p.slot q.slot))
    (both_tied _ _ _ _ (sym (nat_equal p.symbol q.symbol)) (both_tied _ _ _ _ (sym (nat_equal p.id q.id)) (sym (nat_equal p.prb q.prb)))))))

-- the same place is one place
pub same_is : (p q : CellPlace) → is_same p q ≡ true → p ≡ q
same_is p q h =
    let frame = same_z p.frame q.frame (first_so _ _ h) in
    let h1 = second_so (int_eq p.frame q.frame) _ h in
    let subframe = eqb-true p.subframe q.subframe (first_so _ _ h1) in
    let h2 = second_so (p.subframe == q.subframe) _ h1 in
    let slot = eqb-true p.slot q.slot (first_so _ _ h2) in
    let h3 = second_so (p.slot == q.slot) _ h2 in
    let symbol = eqb-true p.symbol q.symbol (first_so _ _ h3) in
    let h4 = second_so (p.symbol == q.symbol) _ h3 in
    let id = eqb-true p.id q.id (first_so _ _ h4) in
    let prb = eqb-true p.prb q.prb (second_so (p.id == q.id) _ h4) in
    λ i. record { frame = frame i; subframe = subframe i; slot = slot i; symbol = symbol i; id = id i; prb = prb i }

pub same_itself : (p : CellPlace) → is_same p p ≡ true
same_itself p =
    rw (int_own p.frame, eq-eqb p.subframe p.subframe refl, eq-eqb p.slot p.slot refl, eq-eqb p.symbol p.symbol refl, eq-eqb p.id p.id refl, eq-eqb p.prb p.prb refl) refl

-- read the other way round
pub same_turned : (p q : CellPlace) → is_same p q ≡ is_same q p
same_turned p q = go (is_same p q) (is_same q p) refl refl
  where
    go : (a b : Bool) → is_same p q ≡ a → is_same q p ≡ b → is_same p q ≡ is_same q p
    go true b e f = subst (λ (r : CellPlace). is_same p r ≡ is_same r p) (same_is p q e) refl
    go false true e f = subst (λ (r : CellPlace). is_same r q ≡ is_same q r) (same_is q p f) refl
    go false false e f = e ∙ sym f
