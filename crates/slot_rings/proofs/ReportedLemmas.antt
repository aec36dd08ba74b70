-- The cells of a symbol in their place's lists, and those in use set as reported.
use Rattle.std.proofs.Common.{◌≡◌, ◌≢◌, ℕ, ◌+◌, ◌-◌, ◌<◌, ◌≤◌, inl, inr, Bool, true, false, List, length, take, drop, min, get_or, refl, ap, sym, subst, ◌∙◌, arith}
use Rattle.std.specs.Prelude.{◌||◌}
use Rattle.std.proofs.lemmas.Bool.{cases_Bool, cases_eq, cases_lt}
use Rattle.std.proofs.lemmas.Bool.Decides.{nat_tests}
use Rattle.std.proofs.lemmas.List.{get_or-drop, get_or_past, take_rest}
use Rattle.unit_model.specs.Claims.{is_from}
use Rattle.fh_base.proofs.Orders.{both_ways}
use Rattle.slot_rings.specs.Places.{claim_in, is_in_use, is_reported, no_claims, unreported}
use Rattle.slot_rings.specs.declared.claims.CellClaims.{CellClaims}
use Rattle.slot_rings.proofs.JudgeLemmas.{from_above, from_below}
use Rattle.slot_rings.proofs.RunLemmas.{behind_all, not_before, not_last}
use Rattle.slot_rings.proofs.SpanLemmas.{never_used}
use Rattle.unit_model.proofs.ClaimLemmas.{is_in as from_in, starts_before as from_low, from_within as from_high}

-- what a list has from one number on
pub items_behind : {A : Type 0} (xs : List A) (from start k : ℕ) (blank : A) → start ≡ min from (length xs)
    → get_or (take (length xs - start) (drop start xs)) k blank ≡ get_or xs (from + k) blank
items_behind xs from start k blank is = ap (λ l. get_or l k blank) (take_rest xs start) ∙ get_or-drop start xs k blank ∙ elim (cases_lt (length xs) from) [
  | inl past ↦ get_or_past xs (start + k) blank (omega (arith, is, past)) ∙ sym (get_or_past xs (from + k) blank (omega (arith, past)))
  | inr within ↦ let at : start + k ≡ from + k = omega (arith, is, within) in ap (λ (j : ℕ). get_or xs j blank) at
]

true_or : (a b : Bool) → a ≡ true → (a || b) ≡ true
true_or a b e = rw e refl

-- ---- one cell more

module _ (old mid new : ℕ → Bool) (uses : ℕ → Bool) (from k : ℕ)
    (same : (i : ℕ) → is_from from k i ≡ false → mid i ≡ old i)
    (others : (i : ℕ) → i ≢ from + k → new i ≡ mid i) where
  pub reported_just : ((j : ℕ) → j < k → mid (from + j) ≡ (old (from + j) || uses (from + j)))
      → new (from + k) ≡ (mid (from + k) || uses (from + k))
      → (j : ℕ) → j < k + 1 → new (from + j) ≡ (old (from + j) || uses (from + j))
  reported_just here step j below = elim (cases_eq j k) [
    | inl e ↦
        subst (λ (x : ℕ). new (from + x) ≡ (old (from + x) || uses (from + x))) (sym e)
        (step ∙ ap (λ (b : Bool). b || uses (from + k)) (same (from + k) (behind_all from k)))
    | inr ne ↦ others (from + j) (λ e. ne (omega (arith, e))) ∙ here j (omega (arith, ne))
  ]

  pub reported_others : (i : ℕ) → is_from from (k + 1) i ≡ false → new i ≡ old i
  reported_others i h = others i (not_last from k i h) ∙ same i (not_before from k i h)

-- ---- what is reported stays reported

pub still_reported : (old new : ℕ → Bool) (uses : ℕ → Bool) (from count : ℕ)
    → ((k : ℕ) → k < count → new (from + k) ≡ (old (from + k) || uses (from + k)))
    → ((i : ℕ) → is_from from count i ≡ false → new i ≡ old i)
    → (i : ℕ) → old i ≡ true → new i ≡ true
still_reported old new uses from count here others i was = elim (cases_Bool (is_from from count i)) [
  | inr outside ↦ others i outside ∙ was
  | inl inside ↦
      let low = from_low from count i inside in
      let high = from_high from count i inside in
      let at : from + (i - from) ≡ i = omega (arith, low) in
      subst (λ (j : ℕ). old j ≡ true → new j ≡ true) at
      (λ was. here (i - from) (omega (arith, low, high)) ∙ true_or (old (from + (i - from))) (uses (from + (i - from))) was) was
]

-- ---- of a cell without claims nothing is

blank_flag : (m : CellClaims) → unreported m ≡ no_claims → m.reported ≡ false → m ≡ no_claims
blank_flag m is none = ap (λ (b : Bool). record m { reported = b }) none ∙ is

pub blank_reported : (old new : List CellClaims) (from count k : ℕ)
    → ((j : ℕ) → j < count → is_reported new (from + j) ≡ (is_reported old (from + j) || is_in_use (claim_in (get_or old (from + j) no_claims))))
    → ((i : ℕ) → is_from from count i ≡ false → is_reported new i ≡ is_reported old i)
    → ((i : ℕ) → unreported (get_or new i no_claims) ≡ unreported (get_or old i no_claims))
    → get_or old k no_claims ≡ no_claims → get_or new k no_claims ≡ no_claims
blank_reported old new from count k here others claims blank = blank_flag (get_or new k no_claims) (claims k ∙ ap unreported blank) (elim (cases_Bool (is_from from count k)) [
  | inr outside ↦ others k outside ∙ ap (λ (m : CellClaims). m.reported) blank
  | inl inside ↦
      let low = from_low from count k inside in
      let at : from + (k - from) ≡ k = omega (arith, low) in
      subst (λ (j : ℕ). get_or old j no_claims ≡ no_claims → is_reported new j ≡ false) at
      (λ none. here (k - from) (omega (arith, low, from_high from count k inside)) ∙ ap (λ (m : CellClaims). m.reported || is_in_use (claim_in m)) none ∙ never_used) blank
])

-- a PRB after the first so many is none of them
pub prb_behind : (count n : ℕ) → count ≤ n → is_from 0 count n ≡ false
prb_behind count n h = grind (arith, nat_tests)

-- ---- of a symbol whose claims are within a span

or_none : (b u : Bool) → u ≡ false → b ≡ (b || u)
or_none true u e = refl
or_none false u e = sym e

module _ (old new : ℕ → Bool) (uses : ℕ → Bool) (from first end count : ℕ) (order : first ≤ end) (within : end ≤ count)
    (here : (k : ℕ) → k < end - first → new (from + first + k) ≡ (old (from + first + k) || uses (from + first + k)))
    (others : (i : ℕ) → is_from (from + first) (end - first) i ≡ false → new i ≡ old i) where
  pub span_here : ((k : ℕ) → k < count → (first ≤ k → end ≤ k) → uses (from + k) ≡ false)
      → (k : ℕ) → k < count → new (from + k) ≡ (old (from + k) || uses (from + k))
  span_here none k below = elim (cases_lt k first) [
    | inl before ↦
        others (from + k) (from_below (from + first) (end - first) (from + k) (omega (arith, before)))
        ∙ or_none (old (from + k)) (uses (from + k)) (none k below (λ after. absurd (omega (arith, before, after))))
    | inr after ↦ elim (cases_lt k end) [
      | inl inside ↦
          let at : from + first + (k - first) ≡ from + k = omega (arith, after) in
          subst (λ (j : ℕ). new j ≡ (old j || uses j)) at (here (k - first) (omega (arith, after, inside)))
      | inr past ↦
          others (from + k) (from_above (from + first) (end - first) (from + k) (omega (arith, order, past)))
          ∙ or_none (old (from + k)) (uses (from + k)) (none k below (λ low. omega (arith, past)))
    ]
  ]

  pub span_others : (i : ℕ) → is_from from count i ≡ false → new i ≡ old i
  span_others i out = others i (elim (cases_lt i from) [
    | inl before ↦ from_below (from + first) (end - first) i (omega (arith, before))
    | inr low ↦ elim (cases_lt i (from + count)) [
      | inl high ↦ absurd (both_ways (is_from from count i) (from_in from count i (omega (arith, low)) high) out)
      | inr past ↦ from_above (from + first) (end - first) i (omega (arith, past, order, within))
    ]
  ])
