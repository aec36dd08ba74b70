-- A slot's lines, judged one after the other.
use Rattle.std.proofs.Common.{◌≡◌, ℕ, ◌+◌, ◌<◌, true, false, List, [], length, get_or, take, Some, None, refl, ap, sym, ◌∙◌, subst}
use Rattle.fh_base.specs.declared.values.Slot.{Slot}
use Rattle.window_config.specs.declared.endpoints.EndpointConfig.{EndpointConfig}
use Rattle.fh_base.specs.Lists.{onto}
use Rattle.unit_model.specs.Proper.{IsSlot}
use Rattle.unit_model.specs.declared.allocations.Allocation.{Allocation}
use Rattle.unit_model.specs.declared.cells.Cell.{Cell}
use Rattle.unit_model.specs.declared.verdicts.CommandVerdict.{CommandVerdict}
use Rattle.unit_model.specs.declared.verdicts.CommandVerdict.TheVariants as verdict
use Rattle.slot_rings.specs.Rings.{RingValue, IsRingCell, has_slot, ring_claim, ring_uplink, SameClaims, SameUplink, TouchesOnly}
use Rattle.slot_rings.specs.Verdicts.{verdict_by, claim_after, uplink_after}
use Rattle.plan_model.specs.Lines.{line_allocation}
use Rattle.plan_model.specs.declared.lines.PlannedLine.{PlannedLine}
use Rattle.schedule_laws.specs.SlotOrder.{IsSlotLine}
use Rattle.du_scheduler.specs.Judging.{Knows}
use Rattle.schedule_laws.specs.SlotTests.{behind, why_of, why_in, why_judged, judged}
use Rattle.schedule_laws.proofs.InsideLemmas.{slot_of_line, why_known}
use Rattle.du_scheduler.proofs.KnowLemmas.{verdict_known, knows_more, knows_none}
use Rattle.schedule_laws.proofs.SlotWalkLemmas.{RestDecides, behind_next, rest_more, rest_refused, why_other}

-- the ring's endpoint has its slot
pub ring_slot : (e : EndpointConfig) (ep : ℕ) (slot : Slot) (r : RingValue) (earlier : List Allocation) (p : PlannedLine) (a : Allocation) → Knows e ep slot r earlier → IsSlotLine e ep slot p
    → a ≡ line_allocation p → IsSlot r.endpoint.numerology a.slot
ring_slot e ep slot r earlier p a knows line is =
    subst (λ (x : Allocation). IsSlot r.endpoint.numerology x.slot) (sym is)
    (subst (λ (x : EndpointConfig). IsSlot x.numerology p.line.slot) (line.of_endpoint.endpoint ∙ sym knows.endpoint) (slot_of_line e ep p line.of_endpoint))

-- ---- one line

judged_by : (e : EndpointConfig) (ep : ℕ) (slot : Slot) (r : RingValue) (earlier : List Allocation) (p : PlannedLine) (a : Allocation) (v : CommandVerdict)
    → Knows e ep slot r earlier → IsSlotLine e ep slot p → a ≡ line_allocation p → v ≡ verdict_by (ring_claim r) (length (ring_uplink r a.slot)) a
    → why_judged earlier (line_allocation p) ≡ why_in v
judged_by e ep slot r earlier p a v knows line is v_is =
    why_known earlier p line.of_endpoint.inside
    ∙ ap why_in (sym (verdict_known e ep slot r earlier p knows line) ∙ ap (λ (x : Allocation). verdict_by (ring_claim r) (length (ring_uplink r x.slot)) x) (sym is) ∙ sym v_is)

-- ---- so far

-- the ring knows the lines before this place, and the rest decides
pub record At (e : EndpointConfig) (ep : ℕ) (slot : Slot) (r : RingValue) (lines : List PlannedLine) (i : ℕ) : Type 0 where
  pub knows : Knows e ep slot r (behind [] (take i lines))
  pub rest : RestDecides lines i

pub at_start : (e : EndpointConfig) (ep : ℕ) (slot : Slot) (old new : RingValue) (lines : List PlannedLine) → old.endpoint ≡ e → length old.places ≡ 1 → has_slot old slot ≡ false
    → has_slot new slot ≡ true → SameClaims slot old new → SameUplink slot old new → TouchesOnly slot old new → At e ep slot new lines 0
unfolding onto
at_start e ep slot old new lines endpoint one free has claims uplink touches = record {
  knows = knows_none e ep slot old new endpoint one free has claims uplink touches;
  rest = refl;
}

pub at_more : (e : EndpointConfig) (ep : ℕ) (slot : Slot) (old new : RingValue) (lines : List PlannedLine) (i : ℕ) (p : PlannedLine) (a : Allocation) (v : CommandVerdict)
    → At e ep slot old lines i → i < length lines → p ≡ get_or lines i p → IsSlotLine e ep slot p → a ≡ line_allocation p
    → v ≡ verdict_by (ring_claim old) (length (ring_uplink old a.slot)) a → v ≡ verdict.Accepted
    → ((cell : Cell) (re : ℕ) → IsRingCell old cell → cell.ep ≡ a.ep → cell.slot ≡ a.slot → re < 12
    → ring_claim new cell re ≡ claim_after verdict.Accepted a cell re (ring_claim old cell re))
    → ring_uplink new a.slot ≡ uplink_after verdict.Accepted a (ring_uplink old a.slot)
    → has_slot new a.slot ≡ true → TouchesOnly a.slot old new
    → At e ep slot new lines (i + 1)
at_more e ep slot old new lines i p a v at below is line a_is v_is accepted claims uplink has touches =
    let more = behind_next lines i p below is in
    let why : why_judged (behind [] (take i lines)) (line_allocation p) ≡ None =
    judged_by e ep slot old (behind [] (take i lines)) p a v at.knows line a_is v_is ∙ ap why_in accepted in
    record {
      knows = subst (Knows e ep slot new) (sym more)
          (knows_more e ep slot old new (behind [] (take i lines)) p at.knows line
          (subst (λ (x : Allocation). (cell : Cell) (re : ℕ) → IsRingCell old cell → cell.ep ≡ x.ep → cell.slot ≡ x.slot → re < 12
          → ring_claim new cell re ≡ claim_after verdict.Accepted x cell re (ring_claim old cell re)) a_is claims)
          (subst (λ (x : Allocation). ring_uplink new x.slot ≡ uplink_after verdict.Accepted x (ring_uplink old x.slot)) a_is uplink)
          (subst (λ (x : Allocation). has_slot new x.slot ≡ true) a_is has)
          (subst (λ (x : Allocation). TouchesOnly x.slot old new) a_is touches));
      rest = rest_more lines i p below is at.rest why;
    }

pub at_refused : (e : EndpointConfig) (ep : ℕ) (slot : Slot) (r : RingValue) (lines : List PlannedLine) (i : ℕ) (p : PlannedLine) (a : Allocation) (v : CommandVerdict)
    → At e ep slot r lines i → i < length lines → p ≡ get_or lines i p → IsSlotLine e ep slot p → a ≡ line_allocation p
    → v ≡ verdict_by (ring_claim r) (length (ring_uplink r a.slot)) a → (v ≡ verdict.Accepted → ⊥)
    → Some (p.index, why_of v) ≡ judged lines
at_refused e ep slot r lines i p a v at below is line a_is v_is other =
    rest_refused lines i p below is at.rest (why_of v) (judged_by e ep slot r (behind [] (take i lines)) p a v at.knows line a_is v_is ∙ why_other v other)
