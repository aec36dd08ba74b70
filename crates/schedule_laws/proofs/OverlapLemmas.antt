-- What two lines share, what earlier lines that do not clash claim, and the tests of one line after the other.
use Rattle.std.proofs.Common.{◌≡◌, ℕ, ◌+◌, ◌<◌, ◌≤◌, inl, inr, Bool, true, false, not, ◌&&◌, ◌||◌, ◌==◌, is_some, if◌then◌else◌, List, [], ◌∷◌, Option, Some, None, refl, ap, sym, ◌∙◌, true≢false, arith}
use Rattle.std.specs.List.{list_any}
use Rattle.std.proofs.lemmas.Bool.{or_cases, and_parts, and_from, or_left, or_right, eq-eqb, eqb-true}
use Rattle.std.specs.Cmp.{both_ways}
use Rattle.fh_base.specs.Lists.{some}
use Rattle.unit_model.specs.declared.allocations.Allocation.{Allocation}
use Rattle.unit_model.specs.declared.cells.Cell.{Cell}
use Rattle.unit_model.specs.declared.cells.Claim.{Claim}
use Rattle.unit_model.specs.Claims.{same_slot, same_way, first_prb, prb_count, covers, in_mask, claim_at, cell_of, some_cell, is_under, is_other, is_claimed, is_overlapped, repeats, overlaps}
use Rattle.plan_model.specs.Validity.{ranges_meet, share_cell, share_bit, clash, IsProper, why_claimed}
use Rattle.plan_model.proofs.ScheduleClashLemmas.{IsClear, clash_swap, own_claim}
use Rattle.plan_model.proofs.RangeLemmas.{found, common}
use Rattle.plan_model.proofs.SlotLemmas.{eqb_swap}
use Rattle.plan_model.proofs.ClashLemmas.{bit_of, cell_at_start, overlap_of}
use Rattle.schedule_laws.specs.SlotTests.{AreProper, AreClear, why_judged}
use Rattle.unit_model.proofs.ClaimLemmas.{same_way_is as way_is, same_slot_is as slot_is, way_self as way_own, slot_self as slot_own, every_at, some_one}
use Rattle.unit_model.specs.Commands.{is_full}
use Rattle.plan_model.specs.declared.refusals.PlanWhy.{PlanWhy}
use Rattle.plan_model.specs.declared.refusals.PlanWhy.TheVariants.{Overlap, TooManySections}
use Rattle.fh_base.proofs.MemberLemmas.{all_in, any_in, among}

-- ---- a cell that both cover

-- is one of the other
pub record Shared (a b : Allocation) : Type 0 where
  pub y : ℕ
  pub n : ℕ
  pub y_low : a.symbol ≤ y
  pub y_high : y < a.symbol + a.num_symbol
  pub n_low : first_prb a ≤ n
  pub n_high : n < first_prb a + prb_count a
  pub other : covers b (cell_of a y n) ≡ true

pub shared : (a b : Allocation) → IsProper a → IsProper b → share_cell a b ≡ true → Shared a b
shared a b pa pb h =
    let p = and_parts (a.ep == b.ep) _ h in
    let q = and_parts (same_way a.down b.down) _ p.1 in
    let r = and_parts (same_slot a.slot b.slot) _ q.1 in
    let s = and_parts (ranges_meet a.symbol a.num_symbol b.symbol b.num_symbol) _ r.1 in
    let y = common a.symbol a.num_symbol b.symbol b.num_symbol pa.symbols pb.symbols s.0 in
    let n = common (first_prb a) (prb_count a) (first_prb b) (prb_count b) pa.prbs pb.prbs s.1 in
    let way = way_is a.down b.down q.0 in
    let slot = slot_is a.slot b.slot r.0 in
    record {
      y = y.k;
      n = n.k;
      y_low = y.low;
      y_high = y.high;
      n_low = n.low;
      n_high = n.high;
      other = and_from (b.ep == a.ep) _ (eq-eqb b.ep a.ep (sym (eqb-true a.ep b.ep p.0)))
          (and_from (same_way b.down a.down) _ (ap (λ t. same_way b.down t) way ∙ way_own b.down)
          (and_from (same_slot b.slot a.slot) _ (ap (λ t. same_slot b.slot t) slot ∙ slot_own b.slot) (and_from _ _ y.other n.other)));
    }

-- ---- claims

-- among lines of which none clashes with one before it, two that clash are one
clear_is : (ls : List Allocation) → AreClear ls → IsClear ls
clear_is [] clear a b m n h = absurd m
clear_is (c ∷ ls) clear a b m n h = elim m [
  | inl a_here ↦ elim n [
    | inl b_here ↦ a_here ∙ sym b_here
    | inr b_there ↦ absurd (true≢false (sym (any_in (clash c) b ls b_there (ap (λ (x : Allocation). clash x b) (sym a_here) ∙ h)) ∙ clear.0))
  ]
  | inr a_there ↦ elim n [
    | inl b_here ↦ absurd (true≢false (sym (any_in (clash c) a ls a_there (clash_swap a c (ap (clash a) (sym b_here) ∙ h))) ∙ clear.0))
    | inr b_there ↦ clear_is ls clear.1 a b a_there b_there h
  ]
]

-- ---- tests over cells

one_cell : (a : Allocation) (p : Cell → Bool) (y n : ℕ) → a.symbol ≤ y → y < a.symbol + a.num_symbol → first_prb a ≤ n → n < first_prb a + prb_count a
    → p (cell_of a y n) ≡ true → some_cell a p ≡ true
unfolding some_cell
one_cell a p y n yl yh nl nh is =
    some_one a.symbol a.num_symbol (λ z. some (first_prb a) (prb_count a) (λ k. p (cell_of a z k))) y yl yh (some_one (first_prb a) (prb_count a) (λ k. p (cell_of a y k)) n nl nh is)

-- ---- the three steps

under_some : (id : ℕ) (o : Option Claim) → is_under id o ≡ true → is_some o ≡ true
under_some id None h = cc
under_some id (Some c) h = refl

named : (m u : Bool) → m ≡ true → (not m || u) ≡ true → u ≡ true
named true u e h = h
named false u e h = cc

-- a repeat is an overlap
pub repeat_overlaps : (earlier : List Allocation) (a : Allocation) → IsProper a → repeats earlier a ≡ true → overlaps earlier a ≡ true
unfolding repeats overlaps
repeat_overlaps earlier a p h =
    let cell = cell_of a a.symbol (first_prb a) in
    let re = bit_of a p in
    let all = cell_at_start a (λ cell. is_claimed a.section a.mask (claim_at earlier cell)) p h in
    let here = every_at 0 12 (λ k. not (in_mask a.mask k) || is_under a.section (claim_at earlier cell k)) re.k all re.low re.high in
    let under = named (in_mask a.mask re.k) (is_under a.section (claim_at earlier cell re.k)) re.is here in
    let there = and_from (in_mask a.mask re.k) (is_some (claim_at earlier cell re.k)) re.is (under_some a.section (claim_at earlier cell re.k) under) in
    let s = p.symbols in
    let n = p.prbs in
    one_cell a (λ cell. is_overlapped a.section a.mask (claim_at earlier cell)) a.symbol (first_prb a) (omega arith) (omega arith) (omega arith) (omega arith)
    (some_one 0 12 (λ k. (in_mask a.mask k && is_some (claim_at earlier cell k)) || is_other a.section (claim_at earlier cell k)) re.k re.low re.high
    (or_left (in_mask a.mask re.k && is_some (claim_at earlier cell re.k)) _ there))

-- an element that overlaps is one of a line that clashes
pub overlap_clashes : (earlier : List Allocation) (a : Allocation) → overlaps earlier a ≡ true → list_any (clash a) earlier ≡ true
overlap_clashes earlier a h = let w = overlap_of earlier a h in any_in (clash a) w.0 earlier w.1 w.2

-- a line that clashes claims an element that overlaps
pub clash_overlaps : (earlier : List Allocation) (a : Allocation) → AreProper earlier → AreClear earlier → IsProper a → list_any (clash a) earlier ≡ true → overlaps earlier a ≡ true
unfolding overlaps
clash_overlaps earlier a ps clear p h =
    let m = among (clash a) earlier h in
    let pb = all_in IsProper earlier m.x ps m.there in
    let c = and_parts (share_cell a m.x) _ m.is in
    let s = shared a m.x p pb c.0 in
    let cell = cell_of a s.y s.n in
    one_cell a (λ cell. is_overlapped a.section a.mask (claim_at earlier cell)) s.y s.n s.y_low s.y_high s.n_low s.n_high (elim (or_cases (share_bit a.mask m.x.mask) _ c.1) [
      | inl bits ↦
          let re = found 0 12 (λ k. in_mask a.mask k && in_mask m.x.mask k) bits in
          let below = re.high in
          let both = and_parts (in_mask a.mask re.k) _ re.is in
          let claim = own_claim earlier m.x cell re.k (clear_is earlier clear) (omega arith) m.there (and_from (covers m.x cell) _ s.other both.1) in
          some_one 0 12 (λ k. (in_mask a.mask k && is_some (claim_at earlier cell k)) || is_other a.section (claim_at earlier cell k)) re.k re.low re.high
          (or_left (in_mask a.mask re.k && is_some (claim_at earlier cell re.k)) _ (and_from _ _ both.0 (ap (λ (o : Option Claim). is_some o) claim)))
      | inr other ↦
          let re = bit_of m.x pb in
          let below = re.high in
          let claim = own_claim earlier m.x cell re.k (clear_is earlier clear) (omega arith) m.there (and_from (covers m.x cell) _ s.other re.is) in
          some_one 0 12 (λ k. (in_mask a.mask k && is_some (claim_at earlier cell k)) || is_other a.section (claim_at earlier cell k)) re.k re.low re.high
          (or_right (in_mask a.mask re.k && is_some (claim_at earlier cell re.k)) _
          (ap (λ (o : Option Claim). is_other a.section o) claim ∙ ap not (eqb_swap m.x.section a.section) ∙ other))
    ])

pub verdict_is : (earlier : List Allocation) (a : Allocation) → AreProper earlier → AreClear earlier → IsProper a
    → (repeats earlier a || overlaps earlier a) ≡ list_any (clash a) earlier
verdict_is earlier a ps clear p = both_ways _ _
    (λ h. overlap_clashes earlier a (elim (or_cases (repeats earlier a) _ h) [ inl r ↦ repeat_overlaps earlier a p r | inr o ↦ o ]))
    (λ h. or_right (repeats earlier a) _ (clash_overlaps earlier a ps clear p h))

-- ---- line by line

either : (r o c f : Bool) → (r || o) ≡ c
    → (let x : Option PlanWhy = if c then Some Overlap else (if f then Some TooManySections else None) in x)
    ≡ (let y : Option PlanWhy = if r then Some Overlap else (if o then Some Overlap else (if f then Some TooManySections else None)) in y)
either true o true f e = refl
either true o false f e = cc
either false true true f e = refl
either false true false f e = cc
either false false true f e = cc
either false false false f e = refl

pub why_is : (earlier : List Allocation) (a : Allocation) → AreProper earlier → AreClear earlier → IsProper a → why_claimed earlier a ≡ why_judged earlier a
why_is earlier a ps clear p = either (repeats earlier a) (overlaps earlier a) (list_any (clash a) earlier) (is_full earlier a) (verdict_is earlier a ps clear p)

pub none_is : (c f : Bool) → (let x : Option PlanWhy = if c then Some Overlap else (if f then Some TooManySections else None) in x) ≡ None → (c ≡ false) × (f ≡ false)
none_is true f e = cc
none_is false true e = cc
none_is false false e = (refl, refl)
