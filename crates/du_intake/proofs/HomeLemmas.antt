-- The order of the slots of endpoints.
use Rattle.std.proofs.Common.{◌≡◌, ℕ, ◌<◌, ◌≤◌, inl, inr, Bool, true, false, not, ◌&&◌, ◌||◌, ◌==◌, nat_lt, List, Some, ap, sym, ◌∙◌, subst, arith}
use Rattle.std.specs.Prelude.{slice_get}
use Rattle.std.specs.List.Sorted.{IsSortedBy, IsStableBy, ties}
use Rattle.std.specs.Cmp.{IsStrictWeakOrder, both_ways, IsTotalOrder}
use Rattle.std.specs.Ordering.{int_cmp, is_lt, nat_cmp, on, then_cmp}
use Rattle.std.specs.declared.cmp.Ordering.{Ordering}
use Rattle.std.proofs.lemmas.Bool.{and_from, and_parts, cases_Bool, eq-eqb, eqb-true, or_parts, not-true}
use Rattle.std.proofs.lemmas.Bool.Decides.{nat_tests}
use Rattle.std.proofs.lemmas.Cmp.{int_cmp_total, nat_cmp_total, on_total, then_total}
use Rattle.std.proofs.lemmas.List.Sorted.{ranks_by}
use Rattle.fh_base.specs.declared.values.Slot.{Slot}
use Rattle.unit_model.specs.Claims.{same_slot}
use Rattle.unit_model.specs.Order.{slot_before}
use Rattle.unit_laws.proofs.BeforeLemmas.{slot_cases}
use Rattle.du_intake.specs.Lines.{AreLinesInOrder, home_before, is_home, lines_at, same_home}
use Rattle.du_intake.specs.declared.lines.UplinkLine.{UplinkLine}
use Rattle.du_intake.proofs.ListLemmas.{pairs_at, sorted_pairs, some_same}
use Rattle.unit_model.proofs.ClaimLemmas.{same_slot_is as slots_equal, slot_self as slot_own}
use Rattle.fh_base.proofs.MemberLemmas.{filter_same}
use Rattle.fh_base.proofs.CommonLemmas.{int_lex, nat_lex, nat_last}

-- ---- one slot

pub home_is : (ep : ℕ) (slot : Slot) (l : UplinkLine) → is_home ep slot l ≡ true → (l.ep ≡ ep) × (l.slot ≡ slot)
home_is ep slot l h = let p = and_parts (l.ep == ep) _ h in (eqb-true l.ep ep p.0, slots_equal l.slot slot p.1)

pub home_from : (ep : ℕ) (slot : Slot) (l : UplinkLine) → l.ep ≡ ep → l.slot ≡ slot → is_home ep slot l ≡ true
home_from ep slot l e s = and_from (l.ep == ep) _ (eq-eqb l.ep ep e) (subst (λ (t : Slot). same_slot l.slot t ≡ true) s (slot_own l.slot))

-- ---- the sort's order

abbrev pub home_cmp : UplinkLine → UplinkLine → Ordering
home_cmp =
    then_cmp (on (λ l. l.ep) nat_cmp)
    (then_cmp (on (λ l. l.slot.frame) int_cmp) (then_cmp (on (λ l. l.slot.subframe) nat_cmp) (on (λ l. l.slot.slot) nat_cmp)))

pub first_is : (a b : UplinkLine) → is_lt (home_cmp a b) ≡ home_before a b
first_is a b =
    nat_lex a.ep b.ep _ _ (int_lex a.slot.frame b.slot.frame _ _ (nat_lex a.slot.subframe b.slot.subframe _ _ (nat_last a.slot.slot b.slot.slot)))

key_total : IsTotalOrder home_cmp
key_total =
    then_total (on_total (λ (l : UplinkLine). l.ep) nat_cmp_total)
    (then_total (on_total (λ (l : UplinkLine). l.slot.frame) int_cmp_total)
    (then_total (on_total (λ (l : UplinkLine). l.slot.subframe) nat_cmp_total) (on_total (λ (l : UplinkLine). l.slot.slot) nat_cmp_total)))

pub first_ranks : IsStrictWeakOrder (λ (a b : UplinkLine). is_lt (home_cmp a b))
first_ranks = ranks_by key_total (λ (l : UplinkLine). l)

pub home_chain : (a b c : UplinkLine) → home_before a b ≡ false → home_before b c ≡ false → home_before a c ≡ false
home_chain a b c h k = sym (first_is a c) ∙ first_ranks.chain a b c (first_is a b ∙ h) (first_is b c ∙ k)

home_one_way : (a b : UplinkLine) → home_before a b ≡ true → home_before b a ≡ false
home_one_way a b h = sym (first_is b a) ∙ first_ranks.one_way a b (first_is a b ∙ h)

pub not_before_own : (a : UplinkLine) → home_before a a ≡ false
not_before_own a = elim (cases_Bool (home_before a a)) [ inl t ↦ home_one_way a a t | inr f ↦ f ]

-- ---- three cases

no_rest : (p q r : Bool) → (p || (q && r)) ≡ false → q ≡ true → r ≡ false
no_rest false true r e f = e
no_rest false false r e f = cc
no_rest true q r e f = cc

same_number : (m n : ℕ) → nat_lt m n ≡ false → nat_lt n m ≡ false → m ≡ n
same_number m n e f = grind (arith, nat_tests)

pub home_cases : (a b : UplinkLine) → home_before a b ≡ false → home_before b a ≡ false → same_home a b ≡ true
home_cases a b h k =
    let ep : a.ep ≡ b.ep = same_number a.ep b.ep ((or_parts (nat_lt a.ep b.ep) _ h).0) ((or_parts (nat_lt b.ep a.ep) _ k).0) in
    and_from (a.ep == b.ep) _ (eq-eqb a.ep b.ep ep)
    (slot_cases a.slot b.slot (no_rest (nat_lt a.ep b.ep) (a.ep == b.ep) _ h (eq-eqb a.ep b.ep ep)) (no_rest (nat_lt b.ep a.ep) (b.ep == a.ep) _ k (eq-eqb b.ep a.ep (sym ep))))

-- the lines of one slot are before and after the same lines
pub same_before : (a b x : UplinkLine) → same_home a b ≡ true → home_before x a ≡ home_before x b
same_before a b x h =
    let e = home_is b.ep b.slot a h in
    ap (λ (n : ℕ). nat_lt x.ep n || ((x.ep == n) && slot_before x.slot a.slot)) e.0 ∙ ap (λ (t : Slot). nat_lt x.ep b.ep || ((x.ep == b.ep) && slot_before x.slot t)) e.1

pub before_same : (a b x : UplinkLine) → same_home a b ≡ true → home_before a x ≡ home_before b x
before_same a b x h =
    let e = home_is b.ep b.slot a h in
    ap (λ (n : ℕ). nat_lt n x.ep || ((n == x.ep) && slot_before a.slot x.slot)) e.0 ∙ ap (λ (t : Slot). nat_lt b.ep x.ep || ((b.ep == x.ep) && slot_before t x.slot)) e.1

-- ---- what the sort leaves

pub in_order : (ls : List UplinkLine) → IsSortedBy (λ a b. is_lt (home_cmp a b)) ls → AreLinesInOrder ls
in_order ls h i j p q below at_i at_j =
    sym (first_is q p) ∙ pairs_at (λ (p q : UplinkLine). is_lt (home_cmp q p) ≡ false) ls (sorted_pairs (λ a b. is_lt (home_cmp a b)) first_ranks ls h) i j p q below at_i at_j

tied : (x l : UplinkLine) → ties (λ (a b : UplinkLine). is_lt (home_cmp a b)) x l ≡ is_home x.ep x.slot l
tied x l = both_ways _ _
    (λ h. let w = and_parts (not (is_lt (home_cmp x l))) _ h in
    home_cases l x (sym (first_is l x) ∙ not-true (is_lt (home_cmp l x)) w.1) (sym (first_is x l) ∙ not-true (is_lt (home_cmp x l)) w.0))
    (λ h. and_from (not (is_lt (home_cmp x l))) _
    (ap not (first_is x l ∙ same_before l x x h ∙ not_before_own x))
    (ap not (first_is l x ∙ before_same l x x h ∙ not_before_own x)))

pub homes_stay : (old new : List UplinkLine) → IsStableBy (λ a b. is_lt (home_cmp a b)) old new → (ep : ℕ) (slot : Slot) → lines_at ep slot new ≡ lines_at ep slot old
homes_stay old new stable ep slot =
    let x : UplinkLine = record { ep = ep; slot = slot; first_prb = 0; prbs = 0; mask = 0; section = 0; symbol = 0; num_symbol = 0 } in
    sym (filter_same (ties (λ (a b : UplinkLine). is_lt (home_cmp a b)) x) (is_home ep slot) (tied x) new) ∙ stable x
    ∙ filter_same (ties (λ (a b : UplinkLine). is_lt (home_cmp a b)) x) (is_home ep slot) (tied x) old

-- ---- where one slot ends

-- between lines of one slot there is no other
pub apart : (ls : List UplinkLine) → AreLinesInOrder ls → (i p q j : ℕ) (a b x y : UplinkLine) → i ≤ p → p < q → q ≤ j → slice_get ls i ≡ Some a → slice_get ls p ≡ Some b
    → slice_get ls q ≡ Some x → slice_get ls j ≡ Some y → same_home x b ≡ false → same_home y a ≡ false
apart ls order i p q j a b x y ip pq qj at_i at_p at_q at_j other = elim (cases_Bool (same_home y a)) [
  | inr f ↦ f
  | inl same ↦
      let ba : home_before b a ≡ false = behind i p a b ip at_i at_p in
      let yx : home_before y x ≡ false = behind q j x y qj at_q at_j in
      let ax : home_before a x ≡ false = sym (before_same y a x same) ∙ yx in
      let bx : home_before b x ≡ false = home_chain b a x ba ax in
      let xb : home_before x b ≡ false = order p q b x pq at_p at_q in
      let is = home_cases x b xb bx in absurd cc
]
  where
    behind : (i j : ℕ) (a b : UplinkLine) → i ≤ j → slice_get ls i ≡ Some a → slice_get ls j ≡ Some b → home_before b a ≡ false
    behind i j a b le at_a at_b = elim (cases_Bool (i == j)) [
      | inl e ↦
          let same : a ≡ b = some_same (slice_get ls j) a b (ap (slice_get ls) (sym (eqb-true i j e)) ∙ at_a) at_b in
          subst (λ (z : UplinkLine). home_before b z ≡ false) (sym same) (not_before_own b)
      | inr e ↦ order i j a b (less i j le e) at_a at_b
    ]
      where
        less : (i j : ℕ) → i ≤ j → (i == j) ≡ false → i < j
        less i j le e = grind (arith, nat_tests)
