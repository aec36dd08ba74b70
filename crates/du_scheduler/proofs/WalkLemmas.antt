-- Slot after slot, by a ring of one place.
use Rattle.std.proofs.Common.{◌≡◌, ℕ, false, List, length, Option, None, sym, ◌∙◌, subst}
use Rattle.std.specs.List.{AllByRecursion}
use Rattle.fh_base.specs.declared.values.Slot.{Slot}
use Rattle.window_config.specs.declared.endpoints.EndpointConfig.{EndpointConfig}
use Rattle.slot_rings.specs.Rings.{RingValue, has_slot}
use Rattle.plan_model.specs.declared.lines.PlannedLine.{PlannedLine}
use Rattle.plan_model.specs.declared.refusals.PlanWhy.{PlanWhy}
use Rattle.schedule_laws.specs.SlotOrder.{IsEndpointLine, IsSlotLine, ArePlannedInOrder}
use Rattle.schedule_laws.specs.SlotTests.{judged, lesser_refusal}
use Rattle.schedule_laws.proofs.SlotRunLemmas.{IsCut}
use Rattle.schedule_laws.proofs.SlotWalkLemmas.{LeftLines, first_at, first_left, lines_more, lines_start, run_at}
use Rattle.fh_base.specs.Members.{IsIn}

-- ---- what is left, with what was found so far

pub record Left (e : EndpointConfig) (ep : ℕ) (lines rest : List PlannedLine) (ring : RingValue) (least : Option (ℕ × PlanWhy)) : Type 0 where
  pub endpoint : ring.endpoint ≡ e
  pub one : length ring.places ≡ 1
  pub free : (q : PlannedLine) → IsIn q rest → has_slot ring q.line.slot ≡ false
  pub left : LeftLines e ep lines rest least

pub left_start : (e : EndpointConfig) (ep : ℕ) (lines : List PlannedLine) (ring : RingValue) → ring.endpoint ≡ e → length ring.places ≡ 1 → ((slot : Slot) → has_slot ring slot ≡ false)
    → ArePlannedInOrder lines → AllByRecursion (IsEndpointLine e ep) lines → Left e ep lines lines ring None
left_start e ep lines ring endpoint one free order all = record { endpoint = endpoint; one = one; free = λ q m. free q.line.slot; left = lines_start e ep lines order all }

module _ (e : EndpointConfig) (ep : ℕ) (lines rest : List PlannedLine) (ring : RingValue) (least : Option (ℕ × PlanWhy)) (l : Left e ep lines rest ring least)
    (run others : List PlannedLine) (p : PlannedLine) (cut : IsCut rest run others p) where
  -- what the judging of the run asks
  pub run_free : has_slot ring p.line.slot ≡ false
  run_free = l.free p (first_left e ep lines rest least l.left run others p cut)

  pub first_judged : IsSlotLine ring.endpoint p.ep p.line.slot p
  first_judged = subst (λ (x : EndpointConfig). IsSlotLine x p.ep p.line.slot p) (sym l.endpoint) (first_at e ep lines rest least l.left run others p cut)

  pub run_judged : AllByRecursion (IsSlotLine ring.endpoint p.ep p.line.slot) run
  run_judged = subst (λ (x : EndpointConfig). AllByRecursion (IsSlotLine x p.ep p.line.slot) run) (sym l.endpoint) (run_at e ep lines rest least l.left run others p cut)

  pub left_more : (after : RingValue) (r new : Option (ℕ × PlanWhy)) → after.endpoint ≡ ring.endpoint → length after.places ≡ 1
      → ((other : Slot) → (other ≡ p.line.slot → ⊥) → has_slot after other ≡ false) → r ≡ judged run → new ≡ lesser_refusal least r → Left e ep lines others after new
  left_more after r new endpoint one free r_is new_is = record {
    endpoint = endpoint ∙ l.endpoint;
    one = one;
    free = λ q m. free q.line.slot (cut.run_is.apart q m);
    left = lines_more e ep lines rest least l.left run others p cut r new r_is new_is;
  }
