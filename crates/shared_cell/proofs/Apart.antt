-- Each combined cell is the first at its place, through each change of the list.
use Rattle.std.proofs.Common.{◌≡◌, ℕ, suc, zero, ◌<◌, Bool, true, false, cond, inl, inr, List, [], ◌∷◌, ◌++◌, length, get_or, set, length-set, Option, Some, None, refl, ap, sym, ◌∙◌, arith, subst}
use Rattle.std.specs.Option.{option_map}
use Rattle.std.proofs.lemmas.Bool.{cases_eq}
use Rattle.std.proofs.lemmas.List.{get_or-set_same, get_or-set_other, length_push}
use Rattle.shared_cell.specs.declared.places.CellPlace.{CellPlace}
use Rattle.shared_cell.specs.declared.values.Mixed.{Mixed}
use Rattle.shared_cell.specs.Places.{is_mixed_at, place_in}
use Rattle.shared_cell.specs.Finding.{AreApart, index_of}
use Rattle.shared_cell.proofs.Found.{index_of-push, index_of-set}
use Rattle.shared_cell.proofs.Same.{same_itself}

-- a combined cell is replaced by one of its place
pub apart_set : (ms : List Mixed) (k : ℕ) (m d : Mixed) → place_in m ≡ place_in (get_or ms k d) → AreApart ms → AreApart (set ms k m)
apart_set ms k m d at apart j e within =
    let inside : j < length ms = subst (λ (n : ℕ). j < n) (length-set ms k m) within in
    index_of-set (place_in (get_or (set ms k m) j e)) ms k m d at
    ∙ elim (cases_eq j k) [
      | inl same ↦
          let here : k < length ms = subst (λ (n : ℕ). n < length ms) same inside in
          let is : place_in (get_or (set ms k m) j e) ≡ place_in (get_or ms k d) =
          ap (λ (n : ℕ). place_in (get_or (set ms k m) n e)) same ∙ ap (λ (x : Mixed). place_in x) (get_or-set_same ms k m e here) ∙ at in
          ap (λ (p : CellPlace). index_of p ms) is ∙ apart k d here ∙ ap (λ (n : ℕ). Some n) (sym same)
      | inr other ↦
          ap (λ (x : Mixed). index_of (place_in x) ms) (get_or-set_other ms k j m e other) ∙ apart j e inside
    ]

-- a place that was found is found where it was, with one more at the end
still_found : (q : CellPlace) (m : Mixed) (ms : List Mixed) (j : ℕ) → index_of q ms ≡ Some j → index_of q (ms ++ m ∷ []) ≡ Some j
still_found q m [] j h = cc
still_found q m (x ∷ xs) j h = go (is_mixed_at q x) (index_of q xs) h (λ i. still_found q m xs i)
  where
    go : (b : Bool) (o : Option ℕ) → cond b (Some 0) (option_map suc o) ≡ Some j → ((i : ℕ) → o ≡ Some i → index_of q (xs ++ m ∷ []) ≡ Some i)
        → cond b (Some 0) (option_map suc (index_of q (xs ++ m ∷ []))) ≡ Some j
    go true o h rest = h
    go false None h rest = cc
    go false (Some i) h rest = ap (option_map suc) (rest i refl) ∙ h

before_last : (ms : List Mixed) (m e : Mixed) (j : ℕ) → j < length ms → get_or (ms ++ m ∷ []) j e ≡ get_or ms j e
before_last [] m e j within = absurd (omega (arith, within))
before_last (x ∷ xs) m e zero within = refl
before_last (x ∷ xs) m e (suc j) within = before_last xs m e j (omega (arith, within))

last_is : (ms : List Mixed) (m e : Mixed) → get_or (ms ++ m ∷ []) (length ms) e ≡ m
last_is [] m e = refl
last_is (x ∷ xs) m e = last_is xs m e

-- a combined cell of a new place is added at the end
pub apart_pushed : (ms : List Mixed) (m : Mixed) → AreApart ms → index_of (place_in m) ms ≡ None → AreApart (ms ++ m ∷ [])
apart_pushed ms m apart new j e within = elim (cases_eq j (length ms)) [
  | inl same ↦
      let is : get_or (ms ++ m ∷ []) j e ≡ m = ap (λ (n : ℕ). get_or (ms ++ m ∷ []) n e) same ∙ last_is ms m e in
      ap (λ (x : Mixed). index_of (place_in x) (ms ++ m ∷ [])) is
      ∙ index_of-push (place_in m) m ms new
      ∙ ap (λ (b : Bool). cond b (Some (length ms)) None) (same_itself (place_in m))
      ∙ ap (λ (n : ℕ). Some n) (sym same)
  | inr other ↦
      let inside : j < length ms = omega (arith, length_push ms m, within, other) in
      ap (λ (x : Mixed). index_of (place_in x) (ms ++ m ∷ [])) (before_last ms m e j inside)
      ∙ still_found (place_in (get_or ms j e)) m ms j (apart j e inside)
]
