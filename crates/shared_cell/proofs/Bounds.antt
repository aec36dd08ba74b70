-- The bounds of sums of samples of 32 bits.
use Rattle.std.proofs.Common.{◌≡◌, ℕ, ◌<◌, ◌≤◌, ◌+◌, List, get_or, set, length, sym, subst, arith, inl, inr}
use Rattle.std.proofs.lemmas.Int.{ints}
use Rattle.std.proofs.lemmas.Bool.{cases_eq}
use Rattle.std.proofs.lemmas.List.{get_or-set_same, get_or-set_other}
use Rattle.shared_cell.specs.declared.values.Sum.{Sum}
use Rattle.shared_cell.specs.Joined.{IsWithin, no_sum}

-- of one sample more the bounds are no narrower
pub within_more : (n : ℕ) (s : Sum) → IsWithin n s → IsWithin (n + 1) s
within_more n s w = record {
  i_low = omega (arith, ints, w.i_low);
  i_high = omega (arith, ints, w.i_high);
  q_low = omega (arith, ints, w.q_low);
  q_high = omega (arith, ints, w.q_high);
}

-- a sum of so many samples has at most one sample more
abbrev pub IsNext : Sum → Sum → Type 0
IsNext s t = (n : ℕ) → IsWithin n s → IsWithin (n + 1) t

-- the sums before index i have at most one sample more than those at the start
abbrev pub AreNext : List Sum → List Sum → ℕ → Type 0
AreNext old sums i = (n k : ℕ) → k < i → IsWithin n (get_or old k no_sum) → IsWithin (n + 1) (get_or sums k no_sum)

-- the sums from index i on are those at the start
abbrev pub AreLeft : List Sum → List Sum → ℕ → Type 0
AreLeft old sums i = (k : ℕ) → i ≤ k → get_or sums k no_sum ≡ get_or old k no_sum

-- so also where the next sum stays
pub next_kept : (old sums new : List Sum) (i : ℕ) → AreNext old sums i → AreLeft old sums i → new ≡ sums → AreNext old new (i + 1)
next_kept old sums new i next left is n k lt w =
    subst (λ (xs : List Sum). IsWithin (n + 1) (get_or xs k no_sum)) (sym is)
    (elim (cases_eq k i) [
      | inl e ↦ subst (λ (s : Sum). IsWithin (n + 1) s) (sym (left k (omega arith))) (within_more n (get_or old k no_sum) w)
      | inr other ↦ next n k (omega (arith, lt, other)) w
    ])

-- and where it is replaced
pub next_set : (old sums new : List Sum) (i : ℕ) (s : Sum) → i < length sums → AreNext old sums i → AreLeft old sums i → IsNext (get_or sums i no_sum) s
    → new ≡ set sums i s → AreNext old new (i + 1)
next_set old sums new i s within next left one is n k lt w =
    subst (λ (xs : List Sum). IsWithin (n + 1) (get_or xs k no_sum)) (sym is)
    (elim (cases_eq k i) [
      | inl e ↦
          let here : IsWithin n (get_or sums i no_sum) =
          subst (λ (s : Sum). IsWithin n s) (sym (left i (omega arith))) (subst (λ j. IsWithin n (get_or old j no_sum)) e w) in
          subst (λ j. IsWithin (n + 1) (get_or (set sums i s) j no_sum)) (sym e)
          (subst (λ (t : Sum). IsWithin (n + 1) t) (sym (get_or-set_same sums i s no_sum within)) (one n here))
      | inr other ↦
          subst (λ (t : Sum). IsWithin (n + 1) t) (sym (get_or-set_other sums i k s no_sum other)) (next n k (omega (arith, lt, other)) w)
    ])
