-- Which symbols are after a place.
use Rattle.std.proofs.Common.{◌≡◌, ℕ, ℤ, pos, ◌+◌, ◌*◌, ◌/◌, ◌%◌, ◌<◌, ◌≤◌, ◌<ℤ◌, ◌⊎◌, inl, inr, ◌↔◌, min, refl, sym, ap, subst, ◌∙◌, arith, length}
use Rattle.std.proofs.lemmas.Int.{ints}
use Rattle.std.proofs.lemmas.Nat.{div-add-mod', mod_below}
use Rattle.idle_spans.specs.declared.places.Place.{Place}
use Rattle.idle_spans.specs.Symbols.{frame_symbols, number_in_frame, ComesAfter}
use Rattle.idle_spans.specs.Tables.{RowValue, IsRow, row_symbol}
use Rattle.idle_spans.proofs.NumberLemmas.{number_at, frame_at, frame_few, frames_within, after_number}

earlier_frame : (z w : ℤ) (first q : ℕ) → z <ℤ pos first → w ≡ pos (first + q) → z <ℤ w
earlier_frame z w first q less is = omega (arith, ints)

-- all symbols follow a place before the frames
pub before_all : (r : RowValue) (p : Place) (k : ℕ) → p.slot.frame <ℤ pos r.first → (0 ≤ k) ↔ ComesAfter r.endpoint.numerology p (row_symbol r k)
before_all r p k less = (
  λ _. inl (earlier_frame _ _ r.first _ less (frame_at r.endpoint.numerology r.first k)),
  λ _. omega arith,
)

later_frame : (z w : ℤ) (last f : ℕ) (A : Type 0) → pos last <ℤ z → w ≡ pos f → f ≤ last → (z <ℤ w) ⊎ ((z ≡ w) × A) → ⊥
later_frame z w last f A more is within (inl before) = omega (arith, ints)
later_frame z w last f A more is within (inr same) = let e = same.0 in omega (arith, ints)

-- no symbol follows a place after the frames
pub behind_all : (r : RowValue) (p : Place) (k len : ℕ) → IsRow r → k < length r.marks → len ≡ length r.marks → pos r.last <ℤ p.slot.frame
    → (len ≤ k) ↔ ComesAfter r.endpoint.numerology p (row_symbol r k)
behind_all r p k len is below len_is more = (
  λ over. absurd (omega arith),
  λ later. absurd (later_frame _ _ r.last _ _ more (frame_at r.endpoint.numerology r.first k)
      (frames_within r.endpoint.numerology k r.first r.last is.frames.order (subst (λ (x : ℕ). k < x) is.size below)) later),
)

same_order : (first f q : ℕ) (z w : ℤ) (a b c d : ℕ) → z ≡ pos (first + f) → w ≡ pos (first + q) → a ≡ c → b ≡ d
    → ((f < q) ⊎ ((f ≡ q) × (c < d))) ↔ ((z <ℤ w) ⊎ ((z ≡ w) × (a < b)))
same_order first f q z w a b c d z_is w_is a_is b_is = (there, back)
  where
    there : (f < q) ⊎ ((f ≡ q) × (c < d)) → (z <ℤ w) ⊎ ((z ≡ w) × (a < b))
    there (inl less) = inl (omega (arith, ints))
    there (inr same) = let e = same.0 in let less = same.1 in inr (omega (arith, ints), omega arith)

    back : (z <ℤ w) ⊎ ((z ≡ w) × (a < b)) → (f < q) ⊎ ((f ≡ q) × (c < d))
    back (inl less) = inl (omega (arith, ints))
    back (inr same) = let e = same.0 in let less = same.1 in inr (omega (arith, ints), omega arith)

-- of a place in the frames its number tells
pub among_all : (r : RowValue) (p : Place) (k f e x m : ℕ) → p.slot.frame ≡ pos (r.first + f) → e ≡ frame_symbols r.endpoint.numerology → x ≡ number_in_frame r.endpoint.numerology p → m ≡ f * e + min (x + 1) e
    → (m ≤ k) ↔ ComesAfter r.endpoint.numerology p (row_symbol r k)
among_all r p k f e x m frame e_is x_is m_is =
    let n = r.endpoint.numerology in
    let split : k / frame_symbols n * frame_symbols n + k % frame_symbols n ≡ k = div-add-mod' k (frame_symbols n) in
    let below : k % frame_symbols n < frame_symbols n = mod_below k (frame_symbols n) (frame_few n).0 in
    let order = after_number (frame_symbols n) f (number_in_frame n p) (k / frame_symbols n) (k % frame_symbols n) below in
    let same = same_order r.first f (k / frame_symbols n) p.slot.frame (row_symbol r k).slot.frame (number_in_frame n p) (number_in_frame n (row_symbol r k)) (number_in_frame n p) (k % frame_symbols n)
    frame (frame_at n r.first k) refl (number_at n r.first k) in
    let made : m ≡ f * frame_symbols n + min (number_in_frame n p + 1) (frame_symbols n) =
    m_is ∙ ap (λ (y : ℕ). f * y + min (x + 1) y) e_is ∙ ap (λ (y : ℕ). f * frame_symbols n + min (y + 1) (frame_symbols n)) x_is in (
      λ h. same.0 (order.0 (let h' : f * frame_symbols n + min (number_in_frame n p + 1) (frame_symbols n) ≤ k = subst (λ (y : ℕ). y ≤ k) made h in subst (λ (y : ℕ). f * frame_symbols n + min (number_in_frame n p + 1) (frame_symbols n) ≤ y) (sym split) h')),
      λ later. subst (λ (y : ℕ). y ≤ k) (sym made) (subst (λ (y : ℕ). f * frame_symbols n + min (number_in_frame n p + 1) (frame_symbols n) ≤ y) split (order.1 (same.1 later))),
    )
