-- Lines in the order of the numbers of their frames.
use Rattle.std.proofs.Common.{◌≡◌, ℕ, zero, suc, ◌+◌, ◌<◌, ◌≤◌, List, [], ◌∷◌, length, get_or, refl, ap, sym, ◌∙◌, arith, Some, None, inl, inr}
use Rattle.std.specs.Prelude.{slice_get}
use Rattle.std.specs.List.{AllAdjacentBelow}
use Rattle.std.specs.List.Sorted.{IsNonDecreasingBy, IsPartitionPoint}
use Rattle.std.proofs.lemmas.Bool.{cases_lt, eq-eqb, ne_eqb}
use Rattle.air_source.specs.declared.events.Side.{Side}
use Rattle.fh_document.specs.declared.delivered.TrafficClass.{TrafficClass}
use Rattle.fh_document.specs.declared.delivered.Delivery.{Delivery}
use Rattle.fh_document.specs.Delivered.{number_of, frame_number}
use Rattle.frame_ways.specs.Copies.{line_of}
use Rattle.frame_ways.proofs.Lines.{same_test}
use Rattle.frame_ways.proofs.RowLemmas.{at_place, none_past}

abbrev pub NotFalling : List Delivery → ℕ → Type 0
NotFalling ds at = AllAdjacentBelow (λ x y. frame_number x ≤ frame_number y) ds at

-- ---- halving

abbrev pub AllLower : List Delivery → ℕ → ℕ → Type 0
AllLower ds n low = (k : ℕ) (d : Delivery) → k < low → frame_number (get_or ds k d) < n

abbrev pub NoneLower : List Delivery → ℕ → ℕ → Type 0
NoneLower ds n high = (k : ℕ) (d : Delivery) → high ≤ k → k < length ds → n ≤ frame_number (get_or ds k d)

pub lower_below : (ds : List Delivery) (n number middle : ℕ) → IsNonDecreasingBy frame_number ds → ((d : Delivery) → number ≡ frame_number (get_or ds middle d)) → middle < length ds → number < n
    → AllLower ds n (middle + 1)
lower_below ds n number middle up is within lt k d low =
    let here = is d in
    let le = up k middle d (omega arith) within in
    omega (arith, here, le, lt)

pub none_lower : (ds : List Delivery) (n number middle : ℕ) → IsNonDecreasingBy frame_number ds → ((d : Delivery) → number ≡ frame_number (get_or ds middle d)) → n ≤ number
    → NoneLower ds n middle
none_lower ds n number middle up is le k d high within =
    let here = is d in
    let more = up middle k d high within in
    omega (arith, here, le, more)

-- ---- the first line

abbrev pub IsPlace : List Delivery → ℕ → ℕ → Type 0
IsPlace ds n at = IsPartitionPoint (λ d. frame_number d < n) (λ d. n ≤ frame_number d) ds at

module _ (side : Side) (class : TrafficClass) (k : ℕ) where
  abbrev number : ℕ
  number = number_of side class k

  other : (d : Delivery) (ds : List Delivery) → (frame_number d ≡ number → ⊥) → line_of (d ∷ ds) side class k ≡ line_of ds side class k
  other d ds apart = let is = sym (same_test side class k d) ∙ ne_eqb (frame_number d) number apart in rw is refl

  first_line : (ds : List Delivery) (at : ℕ) (d : Delivery) → AllLower ds number at → slice_get ds at ≡ Some d → frame_number d ≡ number → Some d ≡ line_of ds side class k
  first_line [] at d low got is = absurd (cc got)
  first_line (x ∷ ds) zero d low got is =
      let here : x ≡ d = cc got in
      let said = sym (same_test side class k x) ∙ eq-eqb (frame_number x) number (ap frame_number here ∙ is) in
      rw said (sym got)
  first_line (x ∷ ds) (suc at) d low got is =
      let lt = low 0 x (omega arith) in
      first_line ds at d (λ j e below. low (suc j) e (omega arith)) got is ∙ sym (other x ds (λ same. omega (arith, same, lt)))

  none_said : (ds : List Delivery) (e : Delivery) → ((j : ℕ) → j < length ds → frame_number (get_or ds j e) ≡ number → ⊥) → None ≡ line_of ds side class k
  none_said [] e apart = refl
  none_said (x ∷ ds) e apart = none_said ds e (λ j lt. apart (suc j) (omega arith)) ∙ sym (other x ds (apart 0 (omega arith)))

  module _ (ds : List Delivery) (at : ℕ) (place : IsPlace ds number at) where
    pub line_at : (d : Delivery) → slice_get ds at ≡ Some d → frame_number d ≡ number → Some d ≡ line_of ds side class k
    line_at d got is = first_line ds at d (λ j e lt. place.0 j e (omega arith) lt) got is

    pub none_behind : None ≡ slice_get ds at → None ≡ line_of ds side class k
    none_behind past =
        let e : Delivery = record { side = side; class = class; k = k; copies = [] } in
        none_said ds e (λ j lt is. elim (cases_lt j at) [
          | inl low ↦ (let less = place.0 j e (omega arith) low in omega (arith, less, is))
          | inr le ↦ none_past ds at (omega (arith, le, lt)) past
        ])

    pub none_there : IsNonDecreasingBy frame_number ds → (d : Delivery) → slice_get ds at ≡ Some d → (frame_number d ≡ number → ⊥) → None ≡ line_of ds side class k
    none_there up d got apart =
        let here = at_place ds at d got in
        let least = place.1 at d (omega arith) here.0 in
        none_said ds d (λ j lt is. elim (cases_lt j at) [
          | inl low ↦ (let less = place.0 j d (omega arith) low in omega (arith, less, is))
          | inr le ↦ (let more = up at j d le lt in apart (ap frame_number (sym here.1) ∙ (omega (arith, least, more, is))))
        ])
