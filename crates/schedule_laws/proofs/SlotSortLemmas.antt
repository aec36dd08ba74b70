-- What a stable sort by slots leaves.
use Rattle.std.proofs.Common.{◌≡◌, not, ◌==◌, List, filter, ap, sym, ◌∙◌}
use Rattle.std.specs.List.Sorted.{IsStableBy, ties}
use Rattle.std.specs.Cmp.{IsStrictWeakOrder, both_ways}
use Rattle.std.specs.Ordering.{is_lt}
use Rattle.std.specs.declared.cmp.Ordering.{Ordering}
use Rattle.std.proofs.lemmas.Bool.{and_parts, and_from, not-true}
use Rattle.std.proofs.lemmas.Cmp.{tied_itself}
use Rattle.std.proofs.lemmas.List.Sorted.{ranks_by}
use Rattle.fh_base.specs.declared.values.Slot.{Slot}
use Rattle.unit_model.specs.Claims.{same_slot}
use Rattle.plan_model.specs.declared.lines.PlannedLine.{PlannedLine}
use Rattle.schedule_laws.specs.SlotOrder.{slot_cmp, comes_first}
use Rattle.schedule_laws.specs.SlotTests.{of_home}
use Rattle.schedule_laws.proofs.SlotRunLemmas.{slot_total, tie_is}
use Rattle.fh_base.proofs.FilterLemmas.{filter_and}
use Rattle.unit_model.proofs.ClaimLemmas.{same_slot_is as slot_is, slot_self as slot_own}
use Rattle.fh_base.proofs.MemberLemmas.{filter_same}

pub first_ranks : IsStrictWeakOrder comes_first
first_ranks = ranks_by slot_total (λ (p : PlannedLine). p.line.slot)

-- ---- of one slot

tied : (p q : PlannedLine) → ties comes_first p q ≡ same_slot q.line.slot p.line.slot
tied p q = both_ways _ _
    (λ h. let w = and_parts (not (comes_first p q)) _ h in
    let e = tie_is p.line.slot q.line.slot (not-true (comes_first p q) w.0) (not-true (comes_first q p) w.1) in
    ap (λ (s : Slot). same_slot q.line.slot s) e ∙ slot_own q.line.slot)
    (λ h. let e = slot_is q.line.slot p.line.slot h in
    and_from (not (comes_first p q)) _
    (ap (λ (s : Slot). not (is_lt (slot_cmp p.line.slot s))) e ∙ ap (λ (o : Ordering). not (is_lt o)) (tied_itself slot_total p.line.slot))
    (ap (λ (s : Slot). not (is_lt (slot_cmp s p.line.slot))) e ∙ ap (λ (o : Ordering). not (is_lt o)) (tied_itself slot_total p.line.slot)))

pub homes_stay : (old new : List PlannedLine) → IsStableBy comes_first old new → (p : PlannedLine) → of_home p.ep p.line.slot new ≡ of_home p.ep p.line.slot old
homes_stay old new stable p =
    filter_and (λ q. q.ep == p.ep) (λ q. same_slot q.line.slot p.line.slot) new
    ∙ ap (filter (λ q. q.ep == p.ep))
    (sym (filter_same (ties comes_first p) (λ q. same_slot q.line.slot p.line.slot) (tied p) new) ∙ stable p ∙ filter_same (ties comes_first p) (λ q. same_slot q.line.slot p.line.slot) (tied p) old)
    ∙ sym (filter_and (λ q. q.ep == p.ep) (λ q. same_slot q.line.slot p.line.slot) old)
