-- What the ring knows, and its verdicts.
use Rattle.std.proofs.Common.{◌≡◌, ℕ, ◌+◌, ◌<◌, inl, inr, Bool, true, false, ◌&&◌, ◌==◌, nat_le, if◌then◌else◌, List, [], ◌∷◌, length, get_or, Option, Some, refl, ap, ap₂, sym, ◌∙◌, subst, arith}
use Rattle.std.proofs.lemmas.Bool.{cases_Bool, and_from, eq-eqb}
use Rattle.std.proofs.Math.Nat.{lt_of_lt_of_le}
use Rattle.std.proofs.lemmas.Option.{same_Some}
use Rattle.fh_base.specs.Carrier.{is_outside}
use Rattle.fh_base.specs.Numbering.{symbols_of}
use Rattle.fh_base.specs.declared.values.Slot.{Slot}
use Rattle.window_config.specs.declared.endpoints.EndpointConfig.{EndpointConfig}
use Rattle.unit_model.specs.Claims.{same_slot, claim_at, covers, names, repeats, overlaps, claim_of}
use Rattle.unit_model.specs.Commands.{is_uplink, uplink_in, timely_verdict}
use Rattle.unit_model.specs.Proper.{IsSlot}
use Rattle.unit_model.specs.declared.allocations.Allocation.{Allocation}
use Rattle.unit_model.specs.declared.cells.Cell.{Cell}
use Rattle.unit_model.specs.declared.cells.Claim.{Claim}
use Rattle.unit_model.specs.declared.verdicts.CommandVerdict.{CommandVerdict}
use Rattle.unit_model.specs.declared.verdicts.CommandVerdict.TheVariants as verdict
use Rattle.unit_laws.proofs.LookupLemmas.{repeats_by_lookup, overlaps_by_lookup}
use Rattle.slot_rings.specs.Places.{PlaceValue, blank, is_place_of}
use Rattle.slot_rings.specs.Rings.{RingValue, IsRingCell, place_index, place_of, has_slot, ring_claim, ring_uplink, SameClaims, SameUplink, TouchesOnly}
use Rattle.slot_rings.specs.Verdicts.{repeats_by, overlaps_by, verdict_by, claim_after, uplink_after}
use Rattle.slot_rings.proofs.PlaceLemmas.{of_is}
use Rattle.slot_rings.proofs.RingLemmas.{index_within}
use Rattle.plan_model.specs.Lines.{line_allocation}
use Rattle.plan_model.specs.declared.lines.PlannedLine.{PlannedLine}
use Rattle.schedule_laws.proofs.InsideLemmas.{inside_is, slot_of_line}
use Rattle.schedule_laws.specs.SlotOrder.{IsSlotLine}
use Rattle.du_scheduler.specs.Judging.{Knows}
use Rattle.unit_model.specs.declared.uplink.TheConstants.{SLOT_SECTIONS}
use Rattle.unit_model.proofs.ClaimLemmas.{within_carrier, slot_self as slot_own, from_within, covers_is}

-- ---- verdicts

-- the claims of what a line covers are known
agree : (e : EndpointConfig) (ep : ℕ) (slot : Slot) (r : RingValue) (earlier : List Allocation) (p : PlannedLine) → Knows e ep slot r earlier → IsSlotLine e ep slot p
    → (cell : Cell) (re : ℕ) → covers (line_allocation p) cell ≡ true → re < 12 → ring_claim r cell re ≡ claim_at earlier cell re
agree e ep slot r earlier p knows line cell re covered below =
    let is = covers_is (line_allocation p) cell covered in
    let i = inside_is p line.of_endpoint.inside in
    let same : p.endpoint ≡ r.endpoint = line.of_endpoint.endpoint ∙ sym knows.endpoint in
    knows.claims cell re
    (record {
      slot = subst (λ (x : EndpointConfig). IsSlot x.numerology cell.slot) same (subst (IsSlot p.endpoint.numerology) is.slot (slot_of_line e ep p line.of_endpoint));
      symbol = subst (λ (x : EndpointConfig). cell.symbol < symbols_of x.numerology) same
          (lt_of_lt_of_le (from_within p.line.symbol p.line.count cell.symbol is.symbol) i.within);
      prb = subst (λ (x : EndpointConfig). cell.prb < x.prbs) same (within_carrier p.endpoint.prbs p.line.start_prb p.line.num_prb cell.prb i.prbs is.prb);
    })
    (sym is.ep ∙ line.of_endpoint.ep_is) (sym is.slot ∙ line.slot_is) below

pub verdict_known : (e : EndpointConfig) (ep : ℕ) (slot : Slot) (r : RingValue) (earlier : List Allocation) (p : PlannedLine) → Knows e ep slot r earlier → IsSlotLine e ep slot p
    → verdict_by (ring_claim r) (length (ring_uplink r p.line.slot)) (line_allocation p) ≡ timely_verdict earlier (line_allocation p)
verdict_known e ep slot r earlier p knows line =
    let a = line_allocation p in
    let rep : repeats_by (ring_claim r) a ≡ repeats earlier a = repeats_by_lookup a (ring_claim r) earlier (agree e ep slot r earlier p knows line) in
    let over : overlaps_by (ring_claim r) a ≡ overlaps earlier a = overlaps_by_lookup a (ring_claim r) earlier (agree e ep slot r earlier p knows line) in
    let count : length (ring_uplink r p.line.slot) ≡ uplink_in p.ep p.line.slot earlier =
    ap (λ (s : Slot). length (ring_uplink r s)) line.slot_is ∙ knows.uplink
    ∙ ap₂ (λ (i : ℕ) (s : Slot). uplink_in i s earlier) (sym line.of_endpoint.ep_is) (sym line.slot_is) in
    go (repeats_by (ring_claim r) a) (repeats earlier a) (overlaps_by (ring_claim r) a) (overlaps earlier a) (length (ring_uplink r p.line.slot)) (uplink_in p.ep p.line.slot earlier) rep over count
  where
    go : (r1 r2 o1 o2 : Bool) (n m : ℕ) → r1 ≡ r2 → o1 ≡ o2 → n ≡ m
        → (let v : CommandVerdict = if is_outside p.endpoint.prbs p.line.start_prb p.line.num_prb then verdict.Range else (if r1 then verdict.Repeat else (if o1 then verdict.Overlap
        else (if is_uplink (line_allocation p) && nat_le SLOT_SECTIONS n then verdict.Full else verdict.Accepted))) in v)
        ≡ (let v : CommandVerdict = if is_outside p.endpoint.prbs p.line.start_prb p.line.num_prb then verdict.Range else (if r2 then verdict.Repeat else (if o2 then verdict.Overlap
        else (if is_uplink (line_allocation p) && nat_le SLOT_SECTIONS m then verdict.Full else verdict.Accepted))) in v)
    go r1 r2 o1 o2 n m a b c = rw (a, b, c) refl

-- ---- a line more

pub knows_more : (e : EndpointConfig) (ep : ℕ) (slot : Slot) (old new : RingValue) (earlier : List Allocation) (p : PlannedLine) → Knows e ep slot old earlier → IsSlotLine e ep slot p
    → ((cell : Cell) (re : ℕ) → IsRingCell old cell → cell.ep ≡ p.ep → cell.slot ≡ p.line.slot → re < 12
    → ring_claim new cell re ≡ claim_after verdict.Accepted (line_allocation p) cell re (ring_claim old cell re))
    → ring_uplink new p.line.slot ≡ uplink_after verdict.Accepted (line_allocation p) (ring_uplink old p.line.slot)
    → has_slot new p.line.slot ≡ true → TouchesOnly p.line.slot old new
    → Knows e ep slot new (line_allocation p ∷ earlier)
unfolding claim_at
knows_more e ep slot old new earlier p knows line claims uplink has touches = record {
  endpoint = touches.endpoint ∙ knows.endpoint;
  one = touches.size ∙ knows.one;
  has = subst (λ (s : Slot). has_slot new s ≡ true) line.slot_is has;
  claims = λ cell re is cell_ep cell_slot below.
      let was : IsRingCell old cell = record {
        slot = subst (λ (x : EndpointConfig). IsSlot x.numerology cell.slot) touches.endpoint is.slot;
        symbol = subst (λ (x : EndpointConfig). cell.symbol < symbols_of x.numerology) touches.endpoint is.symbol;
        prb = subst (λ (x : EndpointConfig). cell.prb < x.prbs) touches.endpoint is.prb;
      } in
      claims cell re was (cell_ep ∙ sym line.of_endpoint.ep_is) (cell_slot ∙ sym line.slot_is) below
      ∙ ap (λ (o : Option Claim). let x : Option Claim = if names (line_allocation p) cell re then Some (claim_of (line_allocation p)) else o in x) (knows.claims cell re was cell_ep cell_slot below);
  uplink =
      ap (λ (s : Slot). length (ring_uplink new s)) (sym line.slot_is) ∙ ap (λ (xs : List Allocation). length xs) uplink
      ∙ counted (is_uplink (line_allocation p)) (ring_uplink old p.line.slot)
      (ap (λ (s : Slot). length (ring_uplink old s)) line.slot_is ∙ knows.uplink)
      (and_from (p.ep == ep) _ (eq-eqb p.ep ep line.of_endpoint.ep_is) (ap (λ (s : Slot). same_slot s slot) line.slot_is ∙ slot_own slot));
}
  where
    counted : (u : Bool) (xs : List Allocation) → length xs ≡ uplink_in ep slot earlier → ((p.ep == ep) && same_slot p.line.slot slot) ≡ true
        → length (let ys : List Allocation = if u then line_allocation p ∷ xs else xs in ys)
        ≡ uplink_in ep slot earlier + (let n : ℕ = if u && ((p.ep == ep) && same_slot p.line.slot slot) then 1 else 0 in n)
    counted true xs h home = rw home (omega (arith, h))
    counted false xs h home = omega (arith, h)

-- ---- a new slot

pub knows_none : (e : EndpointConfig) (ep : ℕ) (slot : Slot) (old new : RingValue) → old.endpoint ≡ e → length old.places ≡ 1 → has_slot old slot ≡ false
    → has_slot new slot ≡ true → SameClaims slot old new → SameUplink slot old new → TouchesOnly slot old new → Knows e ep slot new []
unfolding claim_at
knows_none e ep slot old new endpoint one free has claims uplink touches = record {
  endpoint = touches.endpoint ∙ endpoint;
  one = touches.size ∙ one;
  has = has;
  claims = λ cell re is cell_ep cell_slot below.
      claims cell re cell_slot
      ∙ (let none : is_place_of (place_of old cell.slot).slot cell.slot ≡ false = subst (λ (s : Slot). is_place_of (place_of old s).slot s ≡ false) (sym cell_slot) free in rw none refl);
  uplink = ap (λ (xs : List Allocation). length xs) uplink ∙ (rw free refl);
}

-- ---- one place

one_place : (r : RingValue) (s : Slot) → length r.places ≡ 1 → place_of r s ≡ get_or r.places 0 blank
one_place r s one =
    let within : place_index r s < length r.places = index_within r s (omega (arith, one)) in
    let zero_is : place_index r s ≡ 0 = omega (arith, within, one) in
    ap (λ (i : ℕ). get_or r.places i blank) zero_is

pub others_free : (r : RingValue) (slot other : Slot) → length r.places ≡ 1 → has_slot r slot ≡ true → (other ≡ slot → ⊥) → has_slot r other ≡ false
others_free r slot other one has apart = elim (cases_Bool (has_slot r other)) [
  | inr free ↦ free
  | inl too ↦
      let a = of_is (place_of r slot).slot slot has in
      let b = of_is (place_of r other).slot other too in
      let same : (place_of r slot).slot ≡ (place_of r other).slot = ap (λ (x : PlaceValue). x.slot) (one_place r slot one ∙ sym (one_place r other one)) in
      let both : Some other ≡ Some slot = sym b ∙ sym same ∙ a in
      absurd (apart (same_Some other slot both))
]
