-- The cells of an allocation, symbol by symbol and PRB by PRB.
use Rattle.std.proofs.Common.{◌≡◌, ◌≢◌, ℕ, ◌+◌, ◌-◌, ◌*◌, ◌<◌, ◌≤◌, inl, inr, Bool, true, false, ◌&&◌, ◌==◌, nat_lt, if◌then◌else◌, List, get_or, refl, ap, sym, ◌∙◌, subst, arith, Option, Some}
use Rattle.std.proofs.lemmas.Bool.{cases_eq, cases_lt, ltb-false, le-ltb, lt-leb, and_left, and_right}
use Rattle.std.proofs.lemmas.Nat.{mul-le}
use Rattle.fh_base.proofs.Orders.{both_ways}
use Rattle.fh_base.specs.Carrier.{is_outside}
use Rattle.unit_model.specs.Claims.{first_prb, prb_count, cell_of, every_cell, some_cell, in_mask, is_from, is_claimed, is_overlapped, claim_of}
use Rattle.fh_base.specs.Lists.{every, some}
use Rattle.unit_model.specs.declared.allocations.Allocation.{Allocation}
use Rattle.unit_model.specs.declared.cells.Cell.{Cell}
use Rattle.unit_model.specs.declared.cells.Claim.{Claim}
use Rattle.slot_rings.specs.Places.{claim_in, claims_in, no_claims}
use Rattle.slot_rings.specs.Verdicts.{repeats_by, overlaps_by}
use Rattle.slot_rings.specs.declared.claims.CellClaims.{CellClaims}
use Rattle.slot_rings.proofs.RangeLemmas.{every_not, some_from}
use Rattle.unit_model.proofs.ClaimLemmas.{is_in as from_in, every_same, some_same, claimed_same, overlapped_same, every_one as every_from, some_one, some_not as some_at}

pub repeats_found : (claims : Cell → ℕ → Option Claim) (a : Allocation)
    → ((y : ℕ) → a.symbol ≤ y → y < a.symbol + a.num_symbol
    → every (first_prb a) (prb_count a) (λ n. is_claimed a.section a.mask (claims (cell_of a y n))) ≡ true)
    → true ≡ repeats_by claims a
unfolding every_cell
repeats_found claims a all = sym (every_from a.symbol a.num_symbol _ all)

pub repeats_not : (claims : Cell → ℕ → Option Claim) (a : Allocation) (y : ℕ) → a.symbol ≤ y → y < a.symbol + a.num_symbol
    → every (first_prb a) (prb_count a) (λ n. is_claimed a.section a.mask (claims (cell_of a y n))) ≡ false
    → false ≡ repeats_by claims a
unfolding every_cell
repeats_not claims a y low high is = sym (every_not a.symbol a.num_symbol
    (λ y. every (first_prb a) (prb_count a) (λ n. is_claimed a.section a.mask (claims (cell_of a y n)))) y low high is)

pub overlaps_none : (claims : Cell → ℕ → Option Claim) (a : Allocation)
    → ((y : ℕ) → a.symbol ≤ y → y < a.symbol + a.num_symbol
    → some (first_prb a) (prb_count a) (λ n. is_overlapped a.section a.mask (claims (cell_of a y n))) ≡ false)
    → false ≡ overlaps_by claims a
unfolding some_cell
overlaps_none claims a all = sym (some_from a.symbol a.num_symbol _ all)

pub overlaps_found : (claims : Cell → ℕ → Option Claim) (a : Allocation) (y : ℕ) → a.symbol ≤ y → y < a.symbol + a.num_symbol
    → some (first_prb a) (prb_count a) (λ n. is_overlapped a.section a.mask (claims (cell_of a y n))) ≡ true
    → true ≡ overlaps_by claims a
unfolding some_cell
overlaps_found claims a y low high is = sym (some_one a.symbol a.num_symbol
    (λ y. some (first_prb a) (prb_count a) (λ n. is_overlapped a.section a.mask (claims (cell_of a y n)))) y low high is)

pub free_at : (claims : Cell → ℕ → Option Claim) (a : Allocation) (y n : ℕ) → overlaps_by claims a ≡ false
    → a.symbol ≤ y → y < a.symbol + a.num_symbol → first_prb a ≤ n → n < first_prb a + prb_count a
    → is_overlapped a.section a.mask (claims (cell_of a y n)) ≡ false
unfolding some_cell
free_at claims a y n free low high left right =
    some_at (first_prb a) (prb_count a) (λ n. is_overlapped a.section a.mask (claims (cell_of a y n))) n
    (some_at a.symbol a.num_symbol (λ y. some (first_prb a) (prb_count a) (λ n. is_overlapped a.section a.mask (claims (cell_of a y n)))) y free low high)
    left right

pub repeats_same : (f g : Cell → ℕ → Option Claim) (a : Allocation) → ((y n re : ℕ) → f (cell_of a y n) re ≡ g (cell_of a y n) re) → repeats_by f a ≡ repeats_by g a
unfolding every_cell
repeats_same f g a same = every_same a.symbol a.num_symbol _ _ (λ y low high. every_same (first_prb a) (prb_count a) _ _
    (λ n left right. claimed_same a.section a.mask _ _ (λ re below. same y n re)))

pub overlaps_same : (f g : Cell → ℕ → Option Claim) (a : Allocation) → ((y n re : ℕ) → f (cell_of a y n) re ≡ g (cell_of a y n) re) → overlaps_by f a ≡ overlaps_by g a
unfolding some_cell
overlaps_same f g a same = some_same a.symbol a.num_symbol _ _ (λ y low high. some_same (first_prb a) (prb_count a) _ _
    (λ n left right. overlapped_same a.section a.mask _ _ (λ re below. same y n re)))

-- ---- numbers of cells

pub from_below : (f c n : ℕ) → n < f → is_from f c n ≡ false
from_below f c n below = and_left _ _ (lt-leb f n below)

pub from_above : (f c n : ℕ) → f + c ≤ n → is_from f c n ≡ false
from_above f c n above = and_right _ _ (le-ltb n (f + c) above)

-- whether a number is one of the first ones or of the second, by its own place
same_from : (f c n g d m : ℕ) → (f ≤ n → n < f + c → (g ≤ m) × (m < g + d)) → (g ≤ m → m < g + d → (f ≤ n) × (n < f + c)) → is_from f c n ≡ is_from g d m
same_from f c n g d m there back = elim (cases_lt m g) [
  | inl below ↦ out (from_below g d m below) (λ a b. let t = there a b in omega (arith, t.0, below))
  | inr low ↦ elim (cases_lt m (g + d)) [
    | inl high ↦ let t = back low high in from_in f c n t.0 t.1 ∙ sym (from_in g d m low high)
    | inr above ↦ out (from_above g d m above) (λ a b. let t = there a b in omega (arith, t.1, above))
  ]
]
  where
    out : is_from g d m ≡ false → (f ≤ n → n < f + c → ⊥) → is_from f c n ≡ is_from g d m
    out e gone = elim (cases_lt n f) [
      | inl below ↦ from_below f c n below ∙ sym e
      | inr low ↦ elim (cases_lt n (f + c)) [
        | inl high ↦ absurd (gone low high)
        | inr above ↦ from_above f c n above ∙ sym e
      ]
    ]

-- PRBs of one symbol are the cells from a number on
pub in_row : (base f c n : ℕ) → is_from (base + f) c (base + n) ≡ is_from f c n
in_row base f c n = same_from (base + f) c (base + n) f c n (λ a b. (omega arith, omega arith)) (λ a b. (omega arith, omega arith))

-- and no cells of another symbol
pub in_other_row : (y z p f c n : ℕ) → f + c ≤ p → n < p → (z ≡ y → ⊥) → is_from (y * p + f) c (z * p + n) ≡ false
in_other_row y z p f c n fits below ne = elim (cases_lt z y) [
  | inl less ↦ let rows = mul-le (z + 1) p y p (omega arith) (omega arith) in from_below (y * p + f) c (z * p + n) (omega (arith, rows))
  | inr more ↦ let rows = mul-le (y + 1) p z p (omega (arith, ne)) (omega arith) in from_above (y * p + f) c (z * p + n) (omega (arith, rows))
]

pub cell_apart : (y z p m n : ℕ) → m < p → n < p → y * p + m ≡ z * p + n → (y ≡ z) × (m ≡ n)
cell_apart y z p m n left right e = elim (cases_eq y z) [
  | inl same ↦ (same, let r = ap (λ (k : ℕ). k * p) same in omega (arith, e, r))
  | inr ne ↦ elim (cases_lt y z) [
    | inl less ↦ let rows = mul-le (y + 1) p z p (omega arith) (omega arith) in absurd (omega (arith, rows, e))
    | inr more ↦ let rows = mul-le (z + 1) p y p (omega (arith, ne)) (omega arith) in absurd (omega (arith, rows, e))
  ]
]

pub inside : (a : Allocation) → is_outside a.endpoint.prbs a.start_prb a.num_prb ≡ false → first_prb a + prb_count a ≤ a.endpoint.prbs
inside a h = go (a.num_prb == 0) refl
  where
    go : (b : Bool) → (a.num_prb == 0) ≡ b → first_prb a + prb_count a ≤ a.endpoint.prbs
    go true e = rw e (omega arith)
    go false e = let g : nat_lt a.endpoint.prbs (a.start_prb + a.num_prb) ≡ false = rw e at h in rw e (ltb-false _ _ g)

-- ---- claims of one symbol after those of the ones before

pub not_yet : (s y : ℕ) → s ≤ y → is_from s (y - s) y ≡ false
not_yet s y low = from_above s (y - s) y (omega arith)

pub none_yet : (s z : ℕ) → is_from s (s - s) z ≡ false
none_yet s z = elim (cases_lt z s) [
  | inl below ↦ from_below s (s - s) z below
  | inr past ↦ from_above s (s - s) z (omega (arith, past))
]

now : (s y : ℕ) → s ≤ y → is_from s (y + 1 - s) y ≡ true
now s y low = from_in s (y + 1 - s) y low (omega arith)

not_now : (s y z : ℕ) → s ≤ y → (z ≡ y → ⊥) → is_from s (y + 1 - s) z ≡ is_from s (y - s) z
not_now s y z low ne = same_from s (y + 1 - s) z s (y - s) z (λ a b. (a, omega (arith, ne))) (λ a b. (a, omega arith))

abbrev Chosen : Bool → Option Claim → Option Claim → Option Claim
Chosen b x y = if b then x else y

pub row_claimed : (s y z p f c n : ℕ) (m : Bool) (claim old mid new : Option Claim) → s ≤ y → f + c ≤ p → n < p
    → new ≡ Chosen (is_from (y * p + f) c (z * p + n) && m) claim mid
    → mid ≡ Chosen ((is_from s (y - s) z && is_from f c n) && m) claim old
    → new ≡ Chosen ((is_from s (y + 1 - s) z && is_from f c n) && m) claim old
row_claimed s y z p f c n m claim old mid new low fits below new_is mid_is = elim (cases_eq z y) [
  | inl e ↦
      let here : is_from (y * p + f) c (z * p + n) ≡ is_from f c n = subst (λ (k : ℕ). is_from (y * p + f) c (k * p + n) ≡ is_from f c n) (sym e) (in_row (y * p) f c n) in
      let before : is_from s (y - s) z ≡ false = subst (λ (k : ℕ). is_from s (y - s) k ≡ false) (sym e) (not_yet s y low) in
      let after : is_from s (y + 1 - s) z ≡ true = subst (λ (k : ℕ). is_from s (y + 1 - s) k ≡ true) (sym e) (now s y low) in
      let mid_old : mid ≡ old = rw before at mid_is in
      rw after (rw (here, mid_old) at new_is)
  | inr ne ↦
      let away = in_other_row y z p f c n fits below ne in
      let same = not_now s y z low ne in
      let new_mid : new ≡ mid = rw away at new_is in
      rw same (new_mid ∙ mid_is)
]

-- one cell more
pub cell_claimed : (s y z : ℕ) (m : Bool) (claim old mid new : Option Claim) → s ≤ y → (z ≡ y → new ≡ Chosen m claim mid) → (z ≢ y → new ≡ mid)
    → mid ≡ Chosen (is_from s (y - s) z && m) claim old → new ≡ Chosen (is_from s (y + 1 - s) z && m) claim old
cell_claimed s y z m claim old mid new low here others mid_is = elim (cases_eq z y) [
  | inl e ↦
      let before : is_from s (y - s) z ≡ false = subst (λ (k : ℕ). is_from s (y - s) k ≡ false) (sym e) (not_yet s y low) in
      let after : is_from s (y + 1 - s) z ≡ true = subst (λ (k : ℕ). is_from s (y + 1 - s) k ≡ true) (sym e) (now s y low) in
      let mid_old : mid ≡ old = rw before at mid_is in
      rw after (rw mid_old at (here e))
  | inr ne ↦ let same = not_now s y z low ne in rw same (others ne ∙ mid_is)
]

pub cell_kept : {A : Type 0} (s y z : ℕ) (old mid new : A) → s ≤ y → (z ≢ y → new ≡ mid) → (is_from s (y - s) z ≡ false → mid ≡ old)
    → is_from s (y + 1 - s) z ≡ false → new ≡ old
cell_kept s y z old mid new low others kept out = elim (cases_eq z y) [
  | inl e ↦ absurd (both_ways (is_from s (y + 1 - s) y) (now s y low) (ap (is_from s (y + 1 - s)) (sym e) ∙ out))
  | inr ne ↦ others ne ∙ kept (sym (not_now s y z low ne) ∙ out)
]

-- cell k of the row of symbol y is as it was, and nothing clashes there
pub row_free : (a : Allocation) (y k : ℕ) (old mid : List CellClaims)
    → is_outside a.endpoint.prbs a.start_prb a.num_prb ≡ false
    → overlaps_by (claims_in a.endpoint.prbs old) a ≡ false
    → a.symbol ≤ y → y < a.symbol + a.num_symbol
    → y * a.endpoint.prbs + first_prb a ≤ k → k < y * a.endpoint.prbs + first_prb a + prb_count a
    → ((z n re : ℕ) → n < a.endpoint.prbs → re < 12 → claim_in (get_or mid (z * a.endpoint.prbs + n) no_claims) re
    ≡ Chosen ((is_from a.symbol (y - a.symbol) z && is_from (first_prb a) (prb_count a) n) && in_mask a.mask re) (Some (claim_of a)) (claim_in (get_or old (z * a.endpoint.prbs + n) no_claims) re))
    → is_overlapped a.section a.mask (claim_in (get_or mid k no_claims)) ≡ false
row_free a y k old mid h free low high left right each =
    let fits = inside a h in
    let at : y * a.endpoint.prbs + (k - y * a.endpoint.prbs) ≡ k = omega (arith, left) in
    let there = not_yet a.symbol y low in
    let same : is_overlapped a.section a.mask (claim_in (get_or mid (y * a.endpoint.prbs + (k - y * a.endpoint.prbs)) no_claims))
    ≡ is_overlapped a.section a.mask (claim_in (get_or old (y * a.endpoint.prbs + (k - y * a.endpoint.prbs)) no_claims)) =
    overlapped_same a.section a.mask _ _ (λ re below. rw there at (each y (k - y * a.endpoint.prbs) re (omega (arith, fits, left, right)) below)) in
    subst (λ (j : ℕ). is_overlapped a.section a.mask (claim_in (get_or mid j no_claims)) ≡ false) at
    (same ∙ free_at (claims_in a.endpoint.prbs old) a y (k - y * a.endpoint.prbs) free low high (omega (arith, left)) (omega (arith, left, right)))
