-- The least of what the slots refuse, and a slot's lines as a list of their own.
use Rattle.std.proofs.Common.{◌≡◌, ℕ, ◌+◌, ◌<◌, ◌≤◌, ◌⊎◌, inl, inr, Bool, true, false, nat_lt, if◌then◌else◌, List, [], ◌∷◌, map, filter, Option, Some, None, refl, ap, sym, ◌∙◌, arith}
use Rattle.std.proofs.lemmas.Bool.{lt-ltb, le-ltb}
use Rattle.fh_base.specs.declared.values.Slot.{Slot}
use Rattle.unit_model.specs.declared.allocations.Allocation.{Allocation}
use Rattle.plan_model.specs.Validity.{refused_at}
use Rattle.plan_model.specs.declared.refusals.PlanWhy.{PlanWhy}
use Rattle.plan_model.specs.Lines.{line_allocation}
use Rattle.plan_model.specs.declared.lines.PlannedLine.{PlannedLine}
use Rattle.schedule_laws.specs.SlotTests.{why_judged, refused_in, is_of_slot, IsFrom, lesser_refusal, numbered_lines, refused_of, entry_of, judged, of_home, judged_in, least_along}
use Rattle.fh_base.specs.Members.{IsIn}

-- ---- the lesser of two

chosen_from : (r : Option (ℕ × PlanWhy)) (p q : ℕ × PlanWhy) (b : Bool) → IsFrom r (Some p) → IsFrom r (Some q) → IsFrom r (let o : Option (ℕ × PlanWhy) = if b then Some q else Some p in o)
chosen_from r p q true x y = y
chosen_from r p q false x y = x

pub lesser_from : (r x y : Option (ℕ × PlanWhy)) → IsFrom r x → IsFrom r y → IsFrom r (lesser_refusal x y)
lesser_from r None y a b = b
lesser_from r (Some p) None a b = a
lesser_from r (Some p) (Some q) a b = chosen_from r p q (nat_lt q.0 p.0) a b

pub lesser_left : (r y : Option (ℕ × PlanWhy)) → IsFrom r y → lesser_refusal r y ≡ r
lesser_left None None b = refl
lesser_left None (Some q) b = absurd b
lesser_left (Some p) None b = refl
lesser_left (Some p) (Some q) b = ap (λ (t : Bool). let o : Option (ℕ × PlanWhy) = if t then Some q else Some p in o) (le-ltb q.0 p.0 (low b))
  where
    low : (q ≡ p) ⊎ (p.0 < q.0) → p.0 ≤ q.0
    low (inl e) = let f = ap (λ (x : ℕ × PlanWhy). x.0) e in omega (arith, f)
    low (inr l) = omega (arith, l)

pub lesser_right : (x r : Option (ℕ × PlanWhy)) → IsFrom r x → lesser_refusal x r ≡ r
lesser_right None r a = refl
lesser_right (Some p) None a = absurd a
lesser_right (Some p) (Some q) a = go (nat_lt p.0 q.0) refl a
  where
    go : (t : Bool) → nat_lt p.0 q.0 ≡ t → (p ≡ q) ⊎ (q.0 < p.0) → (let o : Option (ℕ × PlanWhy) = if nat_lt q.0 p.0 then Some q else Some p in o) ≡ Some q
    go t e (inl s) = same (nat_lt q.0 p.0) (ap (λ (x : ℕ × PlanWhy). Some x) s)
      where
        same : (b : Bool) → Some p ≡ Some q → (let o : Option (ℕ × PlanWhy) = if b then Some q else Some p in o) ≡ Some q
        same true f = refl
        same false f = f
    go t e (inr l) = ap (λ (b : Bool). let o : Option (ℕ × PlanWhy) = if b then Some q else Some p in o) (lt-ltb q.0 p.0 l)

-- ---- a slot's lines

group_is : (why : List Allocation → Allocation → Option PlanWhy) (ep : ℕ) (slot : Slot) (earlier : List Allocation) (k : ℕ) (ls : List Allocation)
    → refused_of why earlier (filter (λ p. is_of_slot ep slot p.1) (numbered_lines k ls)) ≡ refused_in why ep slot earlier k ls
unfolding refused_of refused_in numbered_lines
group_is why ep slot earlier k [] = refl
group_is why ep slot earlier k (a ∷ ls) = go (is_of_slot ep slot a) refl (group_is why ep slot (a ∷ earlier) (k + 1) ls) (group_is why ep slot earlier (k + 1) ls)
  where
    rest : List (ℕ × Allocation)
    rest = filter (λ p. is_of_slot ep slot p.1) (numbered_lines (k + 1) ls)

    go : (t : Bool) → is_of_slot ep slot a ≡ t → refused_of why (a ∷ earlier) (filter (λ p. is_of_slot ep slot p.1) (numbered_lines (k + 1) ls)) ≡ refused_in why ep slot (a ∷ earlier) (k + 1) ls
        → refused_of why earlier (filter (λ p. is_of_slot ep slot p.1) (numbered_lines (k + 1) ls)) ≡ refused_in why ep slot earlier (k + 1) ls
        → refused_of why earlier (filter (λ p. is_of_slot ep slot p.1) (numbered_lines k (a ∷ ls))) ≡ refused_in why ep slot earlier k (a ∷ ls)
    go true e home out = rw (e) (ap (refused_at k (why earlier a)) home)
    go false e home out = rw (e) out

pub groups_are : (why : List Allocation → Allocation → Option PlanWhy) (ep : ℕ) (slot : Slot) (ls : List Allocation)
    → refused_of why [] (filter (λ p. is_of_slot ep slot p.1) (numbered_lines 0 ls)) ≡ refused_in why ep slot [] 0 ls
groups_are why ep slot ls = group_is why ep slot [] 0 ls

-- ---- lines whose numbers are their places

filter_entries : (ep : ℕ) (slot : Slot) (ps : List PlannedLine) → map entry_of (of_home ep slot ps) ≡ filter (λ p. is_of_slot ep slot p.1) (map entry_of ps)
filter_entries ep slot [] = refl
filter_entries ep slot (p ∷ ps) = go (is_of_slot ep slot (line_allocation p)) refl (filter_entries ep slot ps)
  where
    go : (t : Bool) → is_of_slot ep slot (line_allocation p) ≡ t → map entry_of (of_home ep slot ps) ≡ filter (λ q. is_of_slot ep slot q.1) (map entry_of ps)
        → map entry_of (of_home ep slot (p ∷ ps)) ≡ filter (λ q. is_of_slot ep slot q.1) (map entry_of (p ∷ ps))
    go true e h = rw (e) (ap (λ (xs : List (ℕ × Allocation)). entry_of p ∷ xs) h)
    go false e h = rw (e) h

-- a slot's lines, judged by themselves
pub judged_is : (ps : List PlannedLine) (ep : ℕ) (slot : Slot) → map entry_of ps ≡ numbered_lines 0 (map line_allocation ps)
    → judged (of_home ep slot ps) ≡ refused_in why_judged ep slot [] 0 (map line_allocation ps)
judged_is ps ep slot placed =
    ap (refused_of why_judged []) (filter_entries ep slot ps ∙ ap (λ (xs : List (ℕ × Allocation)). filter (λ q. is_of_slot ep slot q.1) xs) placed)
    ∙ groups_are why_judged ep slot (map line_allocation ps)

pub some_line : (ps : List PlannedLine) (a : Allocation) → IsIn a (map line_allocation ps) → (q : PlannedLine) × IsIn q ps × (line_allocation q ≡ a)
some_line [] a m = absurd m
some_line (q ∷ ps) a m = elim m [
  | inl here ↦ (q, inl refl, sym here)
  | inr there ↦ (let r = some_line ps a there in (r.0, inr r.1, r.2))
]

-- ---- the least of all

module _ (ps : List PlannedLine) (r : Option (ℕ × PlanWhy)) (from : (q : PlannedLine) → IsFrom r (judged_in ps q)) where
  pub along_from : (least : Option (ℕ × PlanWhy)) (qs : List PlannedLine) → IsFrom r least → IsFrom r (least_along ps least qs)
  unfolding least_along
  along_from least [] h = h
  along_from least (q ∷ qs) h = along_from (lesser_refusal least (judged_in ps q)) qs (lesser_from r least (judged_in ps q) h (from q))

  pub along_kept : (least : Option (ℕ × PlanWhy)) (qs : List PlannedLine) → least ≡ r → least_along ps least qs ≡ r
  unfolding least_along
  along_kept least [] e = e
  along_kept least (q ∷ qs) e = along_kept (lesser_refusal least (judged_in ps q)) qs (ap (λ (x : Option (ℕ × PlanWhy)). lesser_refusal x (judged_in ps q)) e ∙ lesser_left r (judged_in ps q) (from q))

  pub along_one : (least : Option (ℕ × PlanWhy)) (qs : List PlannedLine) (q : PlannedLine) → IsFrom r least → IsIn q qs → judged_in ps q ≡ r → least_along ps least qs ≡ r
  unfolding least_along
  along_one least [] q h m e = absurd m
  along_one least (p ∷ qs) q h m e = elim m [
    | inl here ↦ along_kept (lesser_refusal least (judged_in ps p)) qs
        (ap (lesser_refusal least) (ap (judged_in ps) (sym here) ∙ e) ∙ lesser_right least r h)
    | inr there ↦ along_one (lesser_refusal least (judged_in ps p)) qs q (lesser_from r least (judged_in ps p) h (from p)) there e
  ]

pub from_none : (x : Option (ℕ × PlanWhy)) → IsFrom None x → x ≡ None
from_none None h = refl
from_none (Some q) h = absurd h

pub from_nothing : (x : Option (ℕ × PlanWhy)) → IsFrom x None
from_nothing None = tt
from_nothing (Some p) = tt
