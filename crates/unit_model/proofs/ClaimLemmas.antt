-- Claims, slots and ranges by their tests.
use Rattle.std.proofs.Common.{◌≡◌, Bool, true, false, refl, sym, ℕ, ◌-◌, ◌<◌, arith, ◌≤◌, zero, suc, ap, ◌+◌, ◌&&◌, ap₂, ◌||◌, not, ◌<ℤ◌, inl, inr, ◌∙◌, true≢false}
use Rattle.unit_model.specs.Claims.{same_way, same_slot, is_from, in_mask, is_claimed, is_under, is_other, is_overlapped, covers, first_prb, prb_count}
use Rattle.std.specs.Prelude.{◌==◌, Option, None, if◌then◌else◌, is_some, int_lt}
use Rattle.std.specs.Ordering.{int_eq}
use Rattle.std.proofs.lemmas.Bool.{and_parts, eqb-true, and_from, eq-eqb, or_left, cases_eq, or_right, cases_Bool}
use Rattle.std.proofs.lemmas.Bool.Decides.{Decides-int_eq, nat_tests}
use Rattle.fh_base.specs.declared.values.Slot.{Slot}
use Rattle.fh_base.proofs.Order.{same_fields}
use Rattle.unit_model.specs.Radiated.{is_used, used_below}
use Rattle.unit_model.specs.declared.cells.Claim.{Claim}
use Rattle.fh_base.specs.Carrier.{is_outside, first_of, count_of}
use Rattle.fh_base.specs.Lists.{every, some}
use Rattle.unit_model.specs.Order.{comes_before}
use Rattle.unit_model.specs.declared.symbol_start.SymbolStart.{SymbolStart}
use Rattle.fh_base.proofs.Orders.{under_is as is_less}
use Rattle.unit_model.specs.declared.allocations.Allocation.{Allocation}
use Rattle.unit_model.specs.declared.cells.Cell.{Cell}

pub same_way_is : (a b : Bool) → same_way a b ≡ true → a ≡ b
same_way_is true true h = refl
same_way_is true false h = sym h
same_way_is false true h = h
same_way_is false false h = refl

pub same_slot_is : (a b : Slot) → same_slot a b ≡ true → a ≡ b
same_slot_is a b h =
    let p = and_parts (int_eq a.frame b.frame) _ h in
    let q = and_parts (a.subframe == b.subframe) (a.slot == b.slot) p.1 in
    same_fields a b ((Decides-int_eq a.frame b.frame).0 p.0) (eqb-true a.subframe b.subframe q.0) (eqb-true a.slot b.slot q.1)

pub within : (first count n : ℕ) → is_from first count n ≡ true → n - first < count
within first count n h = grind (arith, nat_tests)

pub starts_before : (first count n : ℕ) → is_from first count n ≡ true → first ≤ n
starts_before first count n h = grind (arith, nat_tests)

pub none_used : (claims : ℕ → Option Claim) (n : ℕ) → ((re : ℕ) → claims re ≡ None) → used_below claims n ≡ 0
unfolding used_below
none_used claims zero h = refl
none_used claims (suc n) h =
    let bit : (let b : ℕ = if is_used (claims n) then 1 else 0 in b) ≡ 0 = ap (λ (o : Option Claim). let b : ℕ = if is_used o then 1 else 0 in b) (h n) in
    omega (arith, bit, none_used claims n h)

pub within_carrier : (prbs start num n : ℕ) → is_outside prbs start num ≡ false → is_from (first_of start num) (count_of prbs num) n ≡ true → n < prbs
within_carrier prbs start num n inside here = grind (arith, nat_tests)

pub is_in : (first count n : ℕ) → first ≤ n → n < first + count → is_from first count n ≡ true
is_in first count n h k = grind (arith, nat_tests)

pub way_self : (b : Bool) → same_way b b ≡ true
way_self true = refl
way_self false = refl

pub slot_self : (s : Slot) → same_slot s s ≡ true
slot_self s =
    and_from (int_eq s.frame s.frame) ((s.subframe == s.subframe) && (s.slot == s.slot)) ((Decides-int_eq s.frame s.frame).1 refl)
    (and_from (s.subframe == s.subframe) (s.slot == s.slot) (eq-eqb s.subframe s.subframe refl) (eq-eqb s.slot s.slot refl))

pub every_same : (from n : ℕ) (p q : ℕ → Bool) → ((k : ℕ) → from ≤ k → k < from + n → p k ≡ q k) → every from n p ≡ every from n q
unfolding every
every_same from zero p q same = refl
every_same from (suc n) p q same =
    ap₂ ◌&&◌ (same from (omega arith) (omega arith)) (every_same (from + 1) n p q (λ k above below. same k (omega arith) (omega arith)))

pub some_same : (from n : ℕ) (p q : ℕ → Bool) → ((k : ℕ) → from ≤ k → k < from + n → p k ≡ q k) → some from n p ≡ some from n q
unfolding some
some_same from zero p q same = refl
some_same from (suc n) p q same =
    ap₂ ◌||◌ (same from (omega arith) (omega arith)) (some_same (from + 1) n p q (λ k above below. same k (omega arith) (omega arith)))

pub claimed_same : (id mask : ℕ) (f g : ℕ → Option Claim) → ((re : ℕ) → re < 12 → f re ≡ g re) → is_claimed id mask f ≡ is_claimed id mask g
claimed_same id mask f g same =
    every_same 0 12 (λ re. not (in_mask mask re) || is_under id (f re)) (λ re. not (in_mask mask re) || is_under id (g re)) (λ re above below.
    ap (λ (c : Option Claim). not (in_mask mask re) || is_under id c) (same re (omega arith)))

pub overlapped_same : (id mask : ℕ) (f g : ℕ → Option Claim) → ((re : ℕ) → re < 12 → f re ≡ g re) → is_overlapped id mask f ≡ is_overlapped id mask g
overlapped_same id mask f g same =
    some_same 0 12 (λ re. (in_mask mask re && is_some (f re)) || is_other id (f re)) (λ re. (in_mask mask re && is_some (g re)) || is_other id (g re)) (λ re above below.
    ap (λ (c : Option Claim). (in_mask mask re && is_some c) || is_other id c) (same re (omega arith)))

pub from_within : (first count n : ℕ) → is_from first count n ≡ true → n < first + count
from_within first count n h = grind (arith, nat_tests)

pub start_before : (a b : SymbolStart) → a.start.0 <ℤ b.start.0 → comes_before a b ≡ true
start_before a b h = or_left (int_lt a.start.0 b.start.0) _ (is_less a.start.0 b.start.0 h)

pub every_at : (from n : ℕ) (p : ℕ → Bool) (k : ℕ) → every from n p ≡ true → from ≤ k → k < from + n → p k ≡ true
unfolding every
every_at from zero p k all low high = absurd (omega arith)
every_at from (suc n) p k all low high = elim (cases_eq k from) [
  | inl e ↦ ap p e ∙ (and_parts _ _ all).0
  | inr ne ↦ every_at (from + 1) n p k (and_parts _ _ all).1 (omega (arith, ne)) (omega arith)
]

pub every_one : (from n : ℕ) (p : ℕ → Bool) → ((k : ℕ) → from ≤ k → k < from + n → p k ≡ true) → every from n p ≡ true
unfolding every
every_one from zero p h = refl
every_one from (suc n) p h = and_from _ _ (h from (omega arith) (omega arith)) (every_one (from + 1) n p (λ k low high. h k (omega arith) (omega arith)))

pub some_one : (from n : ℕ) (p : ℕ → Bool) (k : ℕ) → from ≤ k → k < from + n → p k ≡ true → some from n p ≡ true
unfolding some
some_one from zero p k low high is = absurd (omega arith)
some_one from (suc n) p k low high is = elim (cases_eq k from) [
  | inl e ↦ or_left (p from) _ (ap p (sym e) ∙ is)
  | inr ne ↦ or_right (p from) _ (some_one (from + 1) n p k (omega (arith, ne)) (omega arith) is)
]

pub some_not : (from n : ℕ) (p : ℕ → Bool) (k : ℕ) → some from n p ≡ false → from ≤ k → k < from + n → p k ≡ false
some_not from n p k h low high = elim (cases_Bool (p k)) [
  | inl is ↦ absurd (true≢false (sym (some_one from n p k low high is) ∙ h))
  | inr not_is ↦ not_is
]

-- what it is to cover a cell
pub record Covers (a : Allocation) (cell : Cell) : Type 0 where
  pub ep : a.ep ≡ cell.ep
  pub down : a.down ≡ cell.down
  pub slot : a.slot ≡ cell.slot
  pub symbol : is_from a.symbol a.num_symbol cell.symbol ≡ true
  pub prb : is_from (first_prb a) (prb_count a) cell.prb ≡ true

pub covers_is : (a : Allocation) (cell : Cell) → covers a cell ≡ true → Covers a cell
covers_is a cell h =
    let one = and_parts (a.ep == cell.ep) _ h in
    let two = and_parts (same_way a.down cell.down) _ one.1 in
    let three = and_parts (same_slot a.slot cell.slot) _ two.1 in
    let four = and_parts (is_from a.symbol a.num_symbol cell.symbol) (is_from (first_prb a) (prb_count a) cell.prb) three.1 in
    record {
      ep = eqb-true a.ep cell.ep one.0;
      down = same_way_is a.down cell.down two.0;
      slot = same_slot_is a.slot cell.slot three.0;
      symbol = four.0;
      prb = four.1;
    }
