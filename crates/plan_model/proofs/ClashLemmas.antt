-- What two allocations share, and of which the claim of an element is.
use Rattle.std.proofs.Common.{◌≡◌, ℕ, zero, suc, ◌-◌, ◌<◌, ◌^◌, inl, inr, Bool, true, false, not, ◌&&◌, ◌||◌, ◌==◌, is_some, if◌then◌else◌, List, [], ◌∷◌, Option, Some, None, refl, ap, sym, ◌∙◌, subst, true≢false, arith}
use Rattle.std.specs.Int.{bit_at}
use Rattle.std.proofs.lemmas.Bool.{cases_Bool, or_cases, and_parts, and_from, or_left, or_right, eq-eqb}
use Rattle.std.proofs.lemmas.Nat.Bits.{bit_at-lt, bit_at-zero, same_from_bits_below}
use Rattle.fh_base.specs.Lists.{every, some}
use Rattle.unit_model.specs.Claims.{same_slot, same_way, is_from, first_prb, prb_count, covers, in_mask, names, claim_of, claim_at, cell_of, every_cell, some_cell, is_other, is_overlapped, overlaps}
use Rattle.unit_model.specs.declared.allocations.Allocation.{Allocation}
use Rattle.unit_model.specs.declared.cells.Cell.{Cell}
use Rattle.unit_model.specs.declared.cells.Claim.{Claim}
use Rattle.plan_model.specs.Validity.{IsProper, ranges_meet, share_cell, share_bit, clash}
use Rattle.plan_model.proofs.RangeLemmas.{Found, found, meet_from}
use Rattle.plan_model.proofs.SlotLemmas.{eqb_swap}
use Rattle.unit_model.proofs.ClaimLemmas.{is_in as is_from_in, way_self as way_own, slot_self as slot_own, every_at, some_one, some_not, covers_is}
use Rattle.fh_base.proofs.Options.{some_is}
use Rattle.fh_base.specs.Members.{IsIn}

-- ---- a cell that both cover

pub same_from : (a b : Allocation) → a.ep ≡ b.ep → a.down ≡ b.down → a.slot ≡ b.slot → ranges_meet a.symbol a.num_symbol b.symbol b.num_symbol ≡ true
    → ranges_meet (first_prb a) (prb_count a) (first_prb b) (prb_count b) ≡ true → share_cell a b ≡ true
same_from a b ep way slot symbols prbs =
    and_from (a.ep == b.ep) _ (eq-eqb a.ep b.ep ep) (and_from (same_way a.down b.down) _ (ap (λ t. same_way a.down t) (sym way) ∙ way_own a.down)
    (and_from (same_slot a.slot b.slot) _ (ap (λ t. same_slot a.slot t) (sym slot) ∙ slot_own a.slot) (and_from _ _ symbols prbs)))

pub both_cover : (a b : Allocation) (cell : Cell) → covers a cell ≡ true → covers b cell ≡ true → share_cell a b ≡ true
both_cover a b cell p q =
    let x = covers_is a cell p in
    let y = covers_is b cell q in
    same_from a b (x.ep ∙ sym y.ep) (x.down ∙ sym y.down) (x.slot ∙ sym y.slot)
    (meet_from a.symbol a.num_symbol b.symbol b.num_symbol cell.symbol x.symbol y.symbol)
    (meet_from (first_prb a) (prb_count a) (first_prb b) (prb_count b) cell.prb x.prb y.prb)

-- a cell of the one
pub covers_own : (a : Allocation) (y n : ℕ) → is_from a.symbol a.num_symbol y ≡ true → is_from (first_prb a) (prb_count a) n ≡ true → covers a (cell_of a y n) ≡ true
covers_own a y n p q = and_from (a.ep == a.ep) _ (eq-eqb a.ep a.ep refl) (and_from (same_way a.down a.down) _ (way_own a.down)
    (and_from (same_slot a.slot a.slot) _ (slot_own a.slot) (and_from _ _ p q)))

-- ---- masks

none_is : (m i : ℕ) → (bit_at m i == 1) ≡ false → bit_at m i ≡ 0
none_is m i h = small (bit_at m i) (bit_at-lt m i) h
  where
    small : (x : ℕ) → x < 2 → (x == 1) ≡ false → x ≡ 0
    small zero l e = refl
    small (suc zero) l e = cc
    small (suc (suc x)) l e = absurd (omega arith)

-- a mask of 12 bits that is not 0 has one of them
has_bit : (m : ℕ) → 0 < m → m < 2 ^ 12 → some 0 12 (in_mask m) ≡ true
has_bit m more few = elim (cases_Bool (some 0 12 (in_mask m))) [
  | inl is ↦ is
  | inr none ↦
      let zero_is : m ≡ 0 = same_from_bits_below 12 m 0 few (omega arith) (λ i below.
      let there : 11 - (11 - i) ≡ i = omega arith in
      let e = some_not 0 12 (in_mask m) (11 - i) none (omega arith) (omega arith) in
      none_is m i (subst (λ (j : ℕ). (bit_at m j == 1) ≡ false) there e) ∙ sym (bit_at-zero i)) in
      absurd (omega (arith, zero_is))
]

pub bit_of : (a : Allocation) → IsProper a → Found 0 12 (in_mask a.mask)
bit_of a p = found 0 12 (in_mask a.mask) (has_bit a.mask p.mask p.twelve)

-- two that name one element clash
pub name_one : (a b : Allocation) (cell : Cell) (re : ℕ) → re < 12 → names a cell re ≡ true → names b cell re ≡ true → clash a b ≡ true
name_one a b cell re below p q =
    let x = and_parts (covers a cell) _ p in
    let y = and_parts (covers b cell) _ q in
    and_from (share_cell a b) _ (both_cover a b cell x.0 y.0)
    (or_left (share_bit a.mask b.mask) _ (some_one 0 12 (λ k. in_mask a.mask k && in_mask b.mask k) re (omega arith) (omega arith) (and_from _ _ x.1 y.1)))

-- ---- claims

-- what is claimed is claimed by one of them
pub record Claimed (earlier : List Allocation) (cell : Cell) (re : ℕ) (c : Claim) : Type 0 where
  pub b : Allocation
  pub there : IsIn b earlier
  pub names_it : names b cell re ≡ true
  pub is : c ≡ claim_of b

pub claimed : (earlier : List Allocation) (cell : Cell) (re : ℕ) (c : Claim) → claim_at earlier cell re ≡ Some c → Claimed earlier cell re c
unfolding claim_at
claimed [] cell re c h = absurd (cc)
claimed (b ∷ earlier) cell re c h = go (names b cell re) refl h (claimed earlier cell re c)
  where
    go : (t : Bool) → names b cell re ≡ t → (let o : Option Claim = if t then Some (claim_of b) else claim_at earlier cell re in o) ≡ Some c
        → (claim_at earlier cell re ≡ Some c → Claimed earlier cell re c) → Claimed (b ∷ earlier) cell re c
    go true e g before = record { b = b; there = inl refl; names_it = e; is = sym (some_is _ _ g) }
    go false e g before = let w = before g in record { b = w.b; there = inr w.there; names_it = w.names_it; is = w.is }

-- an element that overlaps is one of an allocation that clashes
by_claim : (earlier : List Allocation) (a : Allocation) (cell : Cell) (re : ℕ) (o : Option Claim) → re < 12 → covers a cell ≡ true → claim_at earlier cell re ≡ o
    → ((in_mask a.mask re && is_some o) || is_other a.section o) ≡ true → (b : Allocation) × IsIn b earlier × (clash a b ≡ true)
by_claim earlier a cell re None below c e h = absurd (none (in_mask a.mask re) h)
  where
    none : (t : Bool) → ((t && false) || false) ≡ true → ⊥
    none true g = true≢false (sym g)
    none false g = true≢false (sym g)
by_claim earlier a cell re (Some c) below covers_it e h =
    let w = claimed earlier cell re c e in
    let n = and_parts (covers w.b cell) _ w.names_it in
    let id : c.id ≡ w.b.section = ap (λ (x : Claim). x.id) w.is in (
      w.b,
      w.there,
      and_from (share_cell a w.b) _ (both_cover a w.b cell covers_it n.0) (elim (or_cases (in_mask a.mask re && true) _ h) [
        | inl bit ↦ or_left (share_bit a.mask w.b.mask) _ (some_one 0 12 (λ k. in_mask a.mask k && in_mask w.b.mask k) re (omega arith) (omega arith) (and_from _ _ (and_parts (in_mask a.mask re) true bit).0 n.1))
        | inr other ↦ or_right (share_bit a.mask w.b.mask) _ (ap not (eqb_swap a.section w.b.section) ∙ ap (λ i. not (i == a.section)) (sym id) ∙ other)
      ]),
    )

-- ---- tests over cells

pub record FoundCell (a : Allocation) (p : Cell → Bool) : Type 0 where
  pub y : ℕ
  pub n : ℕ
  pub in_y : is_from a.symbol a.num_symbol y ≡ true
  pub in_n : is_from (first_prb a) (prb_count a) n ≡ true
  pub is : p (cell_of a y n) ≡ true

found_cell : (a : Allocation) (p : Cell → Bool) → some_cell a p ≡ true → FoundCell a p
unfolding some_cell
found_cell a p h =
    let y = found a.symbol a.num_symbol (λ y. some (first_prb a) (prb_count a) (λ n. p (cell_of a y n))) h in
    let n = found (first_prb a) (prb_count a) (λ n. p (cell_of a y.k n)) y.is in
    record { y = y.k; n = n.k; in_y = is_from_in a.symbol a.num_symbol y.k y.low y.high; in_n = is_from_in (first_prb a) (prb_count a) n.k n.low n.high; is = n.is }

pub cell_at_start : (a : Allocation) (p : Cell → Bool) → IsProper a → every_cell a p ≡ true → p (cell_of a a.symbol (first_prb a)) ≡ true
unfolding every_cell
cell_at_start a p proper h =
    let s = proper.symbols in
    let n = proper.prbs in
    every_at (first_prb a) (prb_count a) (λ n. p (cell_of a a.symbol n)) (first_prb a)
    (every_at a.symbol a.num_symbol (λ y. every (first_prb a) (prb_count a) (λ n. p (cell_of a y n))) a.symbol h (omega arith) (omega arith)) (omega arith) (omega arith)

-- where an element overlaps, one of them clashes
pub overlap_of : (ls : List Allocation) (a : Allocation) → overlaps ls a ≡ true → (b : Allocation) × IsIn b ls × (clash a b ≡ true)
unfolding overlaps
overlap_of ls a h =
    let f = found_cell a (λ cell. is_overlapped a.section a.mask (claim_at ls cell)) h in
    let cell = cell_of a f.y f.n in
    let re = found 0 12 (λ k. (in_mask a.mask k && is_some (claim_at ls cell k)) || is_other a.section (claim_at ls cell k)) f.is in
    let below = re.high in
    by_claim ls a cell re.k (claim_at ls cell re.k) (omega arith) (covers_own a f.y f.n f.in_y f.in_n) refl re.is
