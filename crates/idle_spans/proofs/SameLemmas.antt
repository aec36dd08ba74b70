-- When a symbol is the one with a number.
use Rattle.std.proofs.Common.{◌≡◌, ℕ, ℤ, pos, ◌+◌, ◌*◌, ◌<◌, ◌≤◌, ◌≤ℤ◌, inl, inr, true, false, eqb, refl, sym, ap, subst, ◌∙◌, arith, length}
use Rattle.std.proofs.lemmas.Bool.{and_parts, eqb-true, eq-eqb, ne_eqb, cases_eq, false_from_ne_true}
use Rattle.std.proofs.lemmas.Bool.Decides.{Decides-int_eq}
use Rattle.std.proofs.lemmas.Int.{ints}
use Rattle.fh_base.proofs.Orders.{int_own}
use Rattle.fh_base.specs.declared.numerology.Numerology.{Numerology}
use Rattle.idle_spans.specs.declared.places.Place.{Place}
use Rattle.idle_spans.specs.Symbols.{frame_symbols, symbol_at, symbol_count, number_in_frame}
use Rattle.idle_spans.specs.Silence.{same_symbol}
use Rattle.idle_spans.specs.Places.{IsSymbol}
use Rattle.idle_spans.specs.Tables.{RowValue, IsRow, row_symbol}
use Rattle.idle_spans.proofs.NumberLemmas.{symbol_is, number_is, symbol_proper, frame_at, frames_within, index_below}

-- ---- one symbol or two

pub same_own : (p : Place) → same_symbol p.slot p.symbol p ≡ true
same_own p =
    let f = int_own p.slot.frame in
    let g = eq-eqb p.slot.subframe p.slot.subframe refl in
    let h = eq-eqb p.slot.slot p.slot.slot refl in
    let s = eq-eqb p.symbol p.symbol refl in rw (f, g, h, s) refl

place_parts : (p q : Place) → p.slot.frame ≡ q.slot.frame → p.slot.subframe ≡ q.slot.subframe → p.slot.slot ≡ q.slot.slot → p.symbol ≡ q.symbol → p ≡ q
place_parts p q f g h s =
    ap (λ (x : ℤ). let r : Place = record { slot = record { frame = x; subframe = p.slot.subframe; slot = p.slot.slot }; symbol = p.symbol } in r) f
    ∙ ap (λ (x : ℕ). let r : Place = record { slot = record { frame = q.slot.frame; subframe = x; slot = p.slot.slot }; symbol = p.symbol } in r) g
    ∙ ap (λ (x : ℕ). let r : Place = record { slot = record { frame = q.slot.frame; subframe = q.slot.subframe; slot = x }; symbol = p.symbol } in r) h
    ∙ ap (λ (x : ℕ). let r : Place = record { slot = q.slot; symbol = x } in r) s

same_is : (p q : Place) → same_symbol p.slot p.symbol q ≡ true → p ≡ q
same_is p q is =
    let a = and_parts _ _ is in
    let b = and_parts _ _ a.1 in
    let c = and_parts _ _ b.1 in
    place_parts p q ((Decides-int_eq p.slot.frame q.slot.frame).0 a.0) (eqb-true _ _ b.0) (eqb-true _ _ c.0) (eqb-true _ _ c.1)

-- ---- the symbols of a table

-- a proper symbol is the one with its number alone
pub found_at : (n : Numerology) (first f i k : ℕ) (p : Place) → IsSymbol n p → p.slot.frame ≡ pos (first + f) → i ≡ f * frame_symbols n + number_in_frame n p
    → same_symbol p.slot p.symbol (symbol_at n first k) ≡ eqb i k
found_at n first f i k p is frame i_is = elim (cases_eq k i) [
  | inl same ↦
      let there : symbol_at n first k ≡ p = symbol_is n first f k p is frame (same ∙ i_is) in
      ap (λ (q : Place). same_symbol p.slot p.symbol q) there ∙ same_own p ∙ sym (eq-eqb i k (sym same))
  | inr other ↦
      false_from_ne_true _ (λ e. other (number_is n first f k p frame (same_is p (symbol_at n first k) e) ∙ sym i_is))
      ∙ sym (ne_eqb i k (λ e. other (sym e)))
]

-- no symbol is one that the endpoint has not
pub improper_at : (n : Numerology) (first k : ℕ) (p : Place) → (IsSymbol n p → ⊥) → same_symbol p.slot p.symbol (symbol_at n first k) ≡ false
improper_at n first k p improper =
    false_from_ne_true _ (λ e. improper (subst (λ (q : Place). IsSymbol n q) (sym (same_is p (symbol_at n first k) e)) (symbol_proper n first k)))

-- nor one of another frame
frame_within : (a b f : ℕ) (z : ℤ) → z ≡ pos (a + f) → a + f ≤ b → (pos a ≤ℤ z) × (z ≤ℤ pos b)
frame_within a b f z is within = (omega (arith, ints), omega (arith, ints))

pub outside_at : (r : RowValue) (k : ℕ) (p : Place) → IsRow r → k < length r.marks → ((pos r.first ≤ℤ p.slot.frame) × (p.slot.frame ≤ℤ pos r.last) → ⊥)
    → same_symbol p.slot p.symbol (row_symbol r k) ≡ false
outside_at r k p is below outside =
    let n = r.endpoint.numerology in
    let counted : k < symbol_count n r.first r.last = subst (λ (x : ℕ). k < x) is.size below in
    false_from_ne_true _ (λ e. outside (
    frame_within r.first r.last _ p.slot.frame
    (ap (λ (q : Place). q.slot.frame) (same_is p (row_symbol r k) e) ∙ frame_at n r.first k)
    (frames_within n k r.first r.last is.frames.order counted)))

frame_bound : (first f last : ℕ) (z : ℤ) → z ≡ pos (first + f) → z ≤ℤ pos last → first + f ≤ last
frame_bound first f last z is high = omega (arith, ints)

-- the number of a proper symbol is one of the table's
pub index_seen : (r s : RowValue) (f i : ℕ) (p : Place) → r ≡ s → IsRow r → IsSymbol r.endpoint.numerology p → p.slot.frame ≡ pos (r.first + f) → p.slot.frame ≤ℤ pos s.last
    → i ≡ f * frame_symbols r.endpoint.numerology + number_in_frame r.endpoint.numerology p → i < length s.marks
index_seen r s f i p same is proper frame high i_is =
    let high_too : p.slot.frame ≤ℤ pos r.last = subst (λ (x : RowValue). p.slot.frame ≤ℤ pos x.last) (sym same) high in
    let below = index_below r.endpoint.numerology r.first r.last f p proper (frame_bound r.first f r.last p.slot.frame frame high_too) in
    let counted : i < length r.marks = subst (λ (x : ℕ). i < x) (sym is.size) (subst (λ (x : ℕ). x < symbol_count r.endpoint.numerology r.first r.last) (sym i_is) below) in
    subst (λ (x : RowValue). i < length x.marks) same counted
