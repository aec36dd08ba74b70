-- What two allocations share, and what is claimed where allocations do not clash.
use Rattle.std.proofs.Common.{◌≡◌, ℕ, ◌<◌, inl, inr, Bool, true, false, not, ◌&&◌, ◌||◌, ◌==◌, if◌then◌else◌, List, [], ◌∷◌, Option, Some, None, refl, ap, sym, ◌∙◌, true≢false, arith}
use Rattle.std.proofs.lemmas.Bool.{cases_Bool, or_cases, and_parts, and_from, or_left, or_right, eq-eqb, eqb-true, false_from_ne_true}
use Rattle.fh_base.specs.Lists.{every}
use Rattle.unit_model.specs.Claims.{same_slot, same_way, is_from, first_prb, prb_count, in_mask, names, claim_of, claim_at, cell_of, every_cell, is_under, is_claimed, repeats, overlaps}
use Rattle.unit_model.specs.declared.allocations.Allocation.{Allocation}
use Rattle.unit_model.specs.declared.cells.Cell.{Cell}
use Rattle.unit_model.specs.declared.cells.Claim.{Claim}
use Rattle.plan_model.specs.Validity.{ranges_meet, share_cell, share_bit, clash, IsProper}
use Rattle.plan_model.proofs.RangeLemmas.{found, meet_swap}
use Rattle.plan_model.proofs.SlotLemmas.{eqb_swap}
use Rattle.plan_model.proofs.ClashLemmas.{same_from, covers_own, bit_of, name_one, cell_at_start, overlap_of}
use Rattle.unit_model.proofs.ClaimLemmas.{same_way_is as ways_equal, same_slot_is as slots_equal, is_in as is_from_in, every_at, every_one, some_one}
use Rattle.fh_base.specs.Members.{IsIn}

-- ---- tests are symmetric

share_swap : (a b : Allocation) → share_cell a b ≡ true → share_cell b a ≡ true
share_swap a b h =
    let p = and_parts (a.ep == b.ep) _ h in
    let q = and_parts (same_way a.down b.down) _ p.1 in
    let r = and_parts (same_slot a.slot b.slot) _ q.1 in
    let s = and_parts (ranges_meet a.symbol a.num_symbol b.symbol b.num_symbol) _ r.1 in
    same_from b a (sym (eqb-true a.ep b.ep p.0)) (sym (ways_equal a.down b.down q.0)) (sym (slots_equal a.slot b.slot r.0))
    (meet_swap a.symbol a.num_symbol b.symbol b.num_symbol s.0) (meet_swap (first_prb a) (prb_count a) (first_prb b) (prb_count b) s.1)

bit_swap : (m n : ℕ) → share_bit m n ≡ true → share_bit n m ≡ true
bit_swap m n h =
    let f = found 0 12 (λ k. in_mask m k && in_mask n k) h in
    let p = and_parts (in_mask m f.k) (in_mask n f.k) f.is in
    some_one 0 12 (λ k. in_mask n k && in_mask m k) f.k f.low f.high (and_from _ _ p.1 p.0)

pub clash_swap : (a b : Allocation) → clash a b ≡ true → clash b a ≡ true
clash_swap a b h =
    let p = and_parts (share_cell a b) _ h in
    and_from (share_cell b a) _ (share_swap a b p.0) (elim (or_cases (share_bit a.mask b.mask) _ p.1) [
      | inl bits ↦ or_left (share_bit b.mask a.mask) _ (bit_swap a.mask b.mask bits)
      | inr other ↦ or_right (share_bit b.mask a.mask) _ (ap not (eqb_swap b.section a.section) ∙ other)
    ])

-- one clashes with itself
pub own_clash : (a : Allocation) → IsProper a → clash a a ≡ true
own_clash a p =
    let re = bit_of a p in
    let s = p.symbols in
    let n = p.prbs in
    let below = re.high in
    let covered = covers_own a a.symbol (first_prb a) (is_from_in a.symbol a.num_symbol a.symbol (omega arith) (omega arith)) (is_from_in (first_prb a) (prb_count a) (first_prb a) (omega arith) (omega arith)) in
    let it : names a (cell_of a a.symbol (first_prb a)) re.k ≡ true = and_from _ _ covered re.is in
    name_one a a (cell_of a a.symbol (first_prb a)) re.k (omega arith) it it

-- ---- claims

-- two of these that clash are one
abbrev pub IsClear : List Allocation → Type 0
IsClear ls = (a b : Allocation) → IsIn a ls → IsIn b ls → clash a b ≡ true → a ≡ b

pub clear_rest : (a : Allocation) (ls : List Allocation) → IsClear (a ∷ ls) → IsClear ls
clear_rest a ls h x y m n c = h x y (inr m) (inr n) c

-- among allocations that do not clash, the claim is that of the one that names the element
pub own_claim : (ls : List Allocation) (b : Allocation) (cell : Cell) (re : ℕ) → IsClear ls → re < 12 → IsIn b ls → names b cell re ≡ true
    → claim_at ls cell re ≡ Some (claim_of b)
unfolding claim_at
own_claim [] b cell re clear below m is = absurd m
own_claim (c ∷ ls) b cell re clear below m is = elim (cases_Bool (names c cell re)) [
  | inl both ↦
      let same = clear c b (inl refl) m (name_one c b cell re below both is) in
      ap (λ (t : Bool). let o : Option Claim = if t then Some (claim_of c) else claim_at ls cell re in o) both ∙ ap (λ (x : Allocation). Some (claim_of x)) same
  | inr other ↦ elim m [
    | inl here ↦ absurd (true≢false (sym is ∙ ap (λ (x : Allocation). names x cell re) here ∙ other))
    | inr there ↦ ap (λ (t : Bool). let o : Option Claim = if t then Some (claim_of c) else claim_at ls cell re in o) other
        ∙ own_claim ls b cell re (clear_rest c ls clear) below there is
  ]
]

-- and there is none where none names it
pub no_claim : (ls : List Allocation) (cell : Cell) (re : ℕ) → ((b : Allocation) → IsIn b ls → names b cell re ≡ false) → claim_at ls cell re ≡ None
unfolding claim_at
no_claim [] cell re h = refl
no_claim (c ∷ ls) cell re h =
    ap (λ (t : Bool). let o : Option Claim = if t then Some (claim_of c) else claim_at ls cell re in o) (h c (inl refl)) ∙ no_claim ls cell re (λ b m. h b (inr m))

pub data Named (ls : List Allocation) (cell : Cell) (re : ℕ) : Type 0 where
  named_by : (b : Allocation) → IsIn b ls → names b cell re ≡ true → Named ls cell re
  unnamed : ((b : Allocation) → IsIn b ls → names b cell re ≡ false) → Named ls cell re

pub find_named : (ls : List Allocation) (cell : Cell) (re : ℕ) → Named ls cell re
find_named [] cell re = unnamed (λ b m. absurd m)
find_named (c ∷ ls) cell re = elim (cases_Bool (names c cell re)) [
  | inl is ↦ named_by c (inl refl) is
  | inr other ↦ elim (find_named ls cell re) [
    | named_by b m is ↦ named_by b (inr m) is
    | unnamed none ↦ unnamed (λ b m. elim m [ inl here ↦ (ap (λ (x : Allocation). names x cell re) here ∙ other) | inr there ↦ none b there ])
  ]
]

-- the same allocations in any order, and however often, claim the same
pub claims_same : (xs ys : List Allocation) (cell : Cell) (re : ℕ) → IsClear ys → re < 12 → ((b : Allocation) → IsIn b xs → IsIn b ys)
    → ((b : Allocation) → IsIn b ys → IsIn b xs) → claim_at xs cell re ≡ claim_at ys cell re
claims_same xs ys cell re clear below to from =
    let clear_xs : IsClear xs = λ a b m n c. clear a b (to a m) (to b n) c in
    elim (find_named ys cell re) [
      | named_by b m is ↦ own_claim xs b cell re clear_xs below (from b m) is ∙ sym (own_claim ys b cell re clear below m is)
      | unnamed none ↦ no_claim xs cell re (λ b m. none b (to b m)) ∙ sym (no_claim ys cell re none)
    ]

-- ---- tests over cells

all_cells : (a : Allocation) (p : Cell → Bool)
    → ((y n : ℕ) → is_from a.symbol a.num_symbol y ≡ true → is_from (first_prb a) (prb_count a) n ≡ true → p (cell_of a y n) ≡ true) → every_cell a p ≡ true
unfolding every_cell
all_cells a p h =
    every_one a.symbol a.num_symbol (λ y. every (first_prb a) (prb_count a) (λ n. p (cell_of a y n))) (λ y yl yh.
    every_one (first_prb a) (prb_count a) (λ n. p (cell_of a y n)) (λ n nl nh.
    h y n (is_from_in a.symbol a.num_symbol y yl yh) (is_from_in (first_prb a) (prb_count a) n nl nh)))

-- ---- the two tests

-- an allocation that is there repeats
pub is_repeat : (ls : List Allocation) (a : Allocation) → IsClear ls → IsIn a ls → repeats ls a ≡ true
unfolding repeats
is_repeat ls a clear m =
    all_cells a (λ cell. is_claimed a.section a.mask (claim_at ls cell)) (λ y n in_y in_n.
    every_one 0 12 (λ re. not (in_mask a.mask re) || is_under a.section (claim_at ls (cell_of a y n) re)) (λ re low high.
    elim (cases_Bool (in_mask a.mask re)) [
      | inl bit ↦
          let claim = own_claim ls a (cell_of a y n) re clear (omega arith) m (and_from _ _ (covers_own a y n in_y in_n) bit) in
          or_right (not (in_mask a.mask re)) _ (ap (λ (o : Option Claim). is_under a.section o) claim ∙ eq-eqb a.section a.section refl)
      | inr clear_bit ↦ or_left (not (in_mask a.mask re)) _ (ap not clear_bit)
    ]))

under_named : (m : Bool) (o : Option Claim) (id : ℕ) → m ≡ true → (not m || is_under id o) ≡ true → o ≡ None → ⊥
under_named true o id e h none = true≢false (sym h ∙ ap (λ (x : Option Claim). is_under id x) none)
under_named false o id e h none = true≢false (sym e)

-- one that clashes with none does not
pub no_repeat : (ls : List Allocation) (a : Allocation) → IsProper a → ((b : Allocation) → IsIn b ls → clash a b ≡ false) → repeats ls a ≡ false
unfolding repeats
no_repeat ls a p none = elim (cases_Bool (every_cell a (λ cell. is_claimed a.section a.mask (claim_at ls cell)))) [
  | inr is ↦ is
  | inl h ↦
      let cell = cell_of a a.symbol (first_prb a) in
      let s = p.symbols in
      let n = p.prbs in
      let re = bit_of a p in
      let below = re.high in
      let all = cell_at_start a (λ cell. is_claimed a.section a.mask (claim_at ls cell)) p h in
      let here = every_at 0 12 (λ k. not (in_mask a.mask k) || is_under a.section (claim_at ls cell k)) re.k all re.low re.high in
      let covered = covers_own a a.symbol (first_prb a) (is_from_in a.symbol a.num_symbol a.symbol (omega arith) (omega arith)) (is_from_in (first_prb a) (prb_count a) (first_prb a) (omega arith) (omega arith)) in
      let it : names a cell re.k ≡ true = and_from _ _ covered re.is in
      absurd (under_named (in_mask a.mask re.k) (claim_at ls cell re.k) a.section re.is here (no_claim ls cell re.k (λ b m. elim (cases_Bool (names b cell re.k)) [
        | inr other ↦ other
        | inl both ↦ absurd (true≢false (sym (name_one a b cell re.k (omega arith) it both) ∙ none b m))
      ])))
]

pub no_overlap : (ls : List Allocation) (a : Allocation) → ((b : Allocation) → IsIn b ls → clash a b ≡ false) → overlaps ls a ≡ false
no_overlap ls a none = false_from_ne_true (overlaps ls a) (λ h. let w = overlap_of ls a h in true≢false (sym w.2 ∙ none w.0 w.1))
