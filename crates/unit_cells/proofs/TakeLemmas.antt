-- An allocation that is on time, judged and claimed in its endpoint's ring.
use Rattle.std.proofs.Common.{◌≡◌, ℕ, ℤ, ◌+◌, ◌<◌, ◌≤◌, Bool, true, false, ◌&&◌, ◌==◌, nat_le, if◌then◌else◌, List, ◌∷◌, length, refl, sym, ap, ◌∙◌, subst, inl, inr, Option, Some}
use Rattle.std.specs.Prelude.{All}
use Rattle.std.proofs.lemmas.Bool.{and_parts, cases_Bool, eq-eqb, eqb-true, false_from_ne_true}
use Rattle.std.proofs.lemmas.List.Elements.{All-cons}
use Rattle.fh_base.specs.Numbering.{symbols_of}
use Rattle.fh_base.specs.declared.values.Slot.{Slot}
use Rattle.fh_base.specs.Carrier.{is_outside}
use Rattle.window_config.specs.declared.config.Config.{Config}
use Rattle.window_config.specs.declared.endpoints.EndpointConfig.{EndpointConfig}
use Rattle.unit_model.specs.Claims.{claim_at, claim_of, covers, in_mask, names, overlaps, repeats, same_slot}
use Rattle.unit_model.specs.Commands.{is_full, is_uplink, timely_verdict, uplink_in, with_accepted}
use Rattle.unit_model.specs.Terms.{Side}
use Rattle.unit_model.specs.Proper.{IsAt, IsProperAllocation, IsSlot}
use Rattle.unit_model.specs.Standing.{IsCell, uplink_of}
use Rattle.unit_model.specs.declared.allocations.Allocation.{Allocation}
use Rattle.unit_model.specs.declared.cells.Cell.{Cell}
use Rattle.unit_model.specs.declared.cells.Claim.{Claim}
use Rattle.unit_model.specs.declared.decoded.UserSection.{UserSection}
use Rattle.unit_model.specs.declared.verdicts.CommandVerdict.{CommandVerdict}
use Rattle.unit_model.specs.declared.verdicts.CommandVerdict.TheVariants.{Mismatch, Late, Early, Range, Repeat, Overlap, Full, Accepted}
use Rattle.unit_laws.specs.Far.{IsReached}
use Rattle.unit_model.specs.Sides.{IsLiveFor, IsLiveOn, reach_of}
use Rattle.unit_laws.specs.Touched.{is_uplink_of}
use Rattle.unit_laws.proofs.ChangeLemmas.{claim-cons}
use Rattle.unit_laws.proofs.FarLemmas.{uplink_same}
use Rattle.unit_laws.proofs.LookupLemmas.{covered_cells, overlaps_by_lookup, repeats_by_lookup, uplink_counted}
use Rattle.slot_rings.specs.Rings.{IsRingCell, RingValue, ring_claim, ring_uplink}
use Rattle.slot_rings.specs.Verdicts.{claim_after, overlaps_by, repeats_by, uplink_after, verdict_by}
use Rattle.unit_cells.specs.Cells.{CellsValue, block_from, claim_from, ring_of, uplink_from}
use Rattle.unit_cells.specs.Keeping.{Keeps}
use Rattle.unit_cells.specs.Steps.{Claims}
use Rattle.unit_cells.proofs.KeepLemmas.{IsStep, cell_in_ring, lifted, ring_is}
use Rattle.unit_cells.proofs.TimeLemmas.{live_at}
use Rattle.unit_model.specs.declared.uplink.TheConstants.{SLOT_SECTIONS}
use Rattle.unit_model.proofs.ClaimLemmas.{same_slot_is as slots_equal, slot_self as slot_own, covers_is}
use Rattle.std.specs.Int.Signed.{≤ℤ_refl}

-- ---- what one more allocation changes

pub claims_more : (v : CommandVerdict) (a : Allocation) (acc : List Allocation) (cell : Cell) (re : ℕ)
    → claim_at (with_accepted v a acc) cell re ≡ claim_after v a cell re (claim_at acc cell re)
claims_more Mismatch a acc cell re = refl
claims_more Late a acc cell re = refl
claims_more Early a acc cell re = refl
claims_more Range a acc cell re = refl
claims_more Repeat a acc cell re = refl
claims_more Overlap a acc cell re = refl
claims_more Full a acc cell re = refl
claims_more Accepted a acc cell re = claim-cons a acc cell re

not_named : (v : CommandVerdict) (a : Allocation) (cell : Cell) (re : ℕ) (claim : Option Claim) → names a cell re ≡ false → claim_after v a cell re claim ≡ claim
not_named Mismatch a cell re claim h = refl
not_named Late a cell re claim h = refl
not_named Early a cell re claim h = refl
not_named Range a cell re claim h = refl
not_named Repeat a cell re claim h = refl
not_named Overlap a cell re claim h = refl
not_named Full a cell re claim h = refl
not_named Accepted a cell re claim h = ap (λ (b : Bool). if b then Some (claim_of a) else claim) h

named_there : (a : Allocation) (cell : Cell) (re : ℕ) → (cell.ep ≡ a.ep → cell.slot ≡ a.slot → ⊥) → names a cell re ≡ false
named_there a cell re ne =
    false_from_ne_true (names a cell re) (λ named.
    let is = covers_is a cell (and_parts (covers a cell) (in_mask a.mask re) named).0 in ne (sym is.ep) (sym is.slot))

pub claims_elsewhere : (v : CommandVerdict) (a : Allocation) (acc : List Allocation) (cell : Cell) (re : ℕ) → (cell.ep ≡ a.ep → cell.slot ≡ a.slot → ⊥)
    → claim_at (with_accepted v a acc) cell re ≡ claim_at acc cell re
claims_elsewhere v a acc cell re ne = claims_more v a acc cell re ∙ not_named v a cell re (claim_at acc cell re) (named_there a cell re ne)

uplink_cons : (a : Allocation) (acc : List Allocation) (ep : ℕ) (slot : Slot) (b : Bool) → is_uplink_of ep slot a ≡ b
    → uplink_of ep slot (a ∷ acc) ≡ (if b then a ∷ uplink_of ep slot acc else uplink_of ep slot acc)
uplink_cons a acc ep slot b h = ap (λ (x : Bool). if x then a ∷ uplink_of ep slot acc else uplink_of ep slot acc) h

own_uplink : (a : Allocation) → is_uplink_of a.ep a.slot a ≡ is_uplink a
own_uplink a =
    let ep = eq-eqb a.ep a.ep refl in
    let slot = slot_own a.slot in rw (ep, slot) (and_true (is_uplink a))
  where
    and_true : (b : Bool) → (b && true) ≡ b
    and_true true = refl
    and_true false = refl

pub uplink_more : (v : CommandVerdict) (a : Allocation) (acc : List Allocation)
    → uplink_of a.ep a.slot (with_accepted v a acc) ≡ uplink_after v a (uplink_of a.ep a.slot acc)
uplink_more Mismatch a acc = refl
uplink_more Late a acc = refl
uplink_more Early a acc = refl
uplink_more Range a acc = refl
uplink_more Repeat a acc = refl
uplink_more Overlap a acc = refl
uplink_more Full a acc = refl
uplink_more Accepted a acc = uplink_cons a acc a.ep a.slot (is_uplink a) (own_uplink a)

other_uplink : (a : Allocation) (ep : ℕ) (slot : Slot) → (ep ≡ a.ep → slot ≡ a.slot → ⊥) → is_uplink_of ep slot a ≡ false
other_uplink a ep slot ne =
    false_from_ne_true (is_uplink_of ep slot a) (λ own.
    let parts = and_parts (a.ep == ep) (same_slot a.slot slot) (and_parts (is_uplink a) _ own).1 in
    ne (sym (eqb-true a.ep ep parts.0)) (sym (slots_equal a.slot slot parts.1)))

pub uplink_elsewhere : (v : CommandVerdict) (a : Allocation) (acc : List Allocation) (ep : ℕ) (slot : Slot) → (ep ≡ a.ep → slot ≡ a.slot → ⊥)
    → uplink_of ep slot (with_accepted v a acc) ≡ uplink_of ep slot acc
uplink_elsewhere Mismatch a acc ep slot ne = refl
uplink_elsewhere Late a acc ep slot ne = refl
uplink_elsewhere Early a acc ep slot ne = refl
uplink_elsewhere Range a acc ep slot ne = refl
uplink_elsewhere Repeat a acc ep slot ne = refl
uplink_elsewhere Overlap a acc ep slot ne = refl
uplink_elsewhere Full a acc ep slot ne = refl
uplink_elsewhere Accepted a acc ep slot ne = uplink_same ep slot a acc (other_uplink a ep slot ne)

pub reached_more : (es : List EndpointConfig) (v : CommandVerdict) (a : Allocation) (acc : List Allocation) (P : Allocation → Type 0) → P a → All P acc → All P (with_accepted v a acc)
reached_more es Mismatch a acc P here all = all
reached_more es Late a acc P here all = all
reached_more es Early a acc P here all = all
reached_more es Range a acc P here all = all
reached_more es Repeat a acc P here all = all
reached_more es Overlap a acc P here all = all
reached_more es Full a acc P here all = all
reached_more es Accepted a acc P here all = All-cons P a acc here all

-- ---- the verdict

-- what the ring has of the allocation's slot, by what the rings keep
pub record IsKept (side : Side) (c : Config) (clock : ℤ) (a : Allocation) (r : RingValue) (acc : List Allocation) : Type 0 where
  pub claims : (cell : Cell) (re : ℕ) → IsCell c a.endpoint cell → cell.ep ≡ a.ep → cell.slot ≡ a.slot → re < 12 → ring_claim r cell re ≡ claim_at acc cell re
  pub uplink : ring_uplink r a.slot ≡ uplink_of a.ep a.slot acc

live_along : (side : Side) (c : Config) (clock : ℤ) (a : Allocation) (cell : Cell) → IsAt c.endpoints a.ep a.endpoint → IsLiveOn side c.delays a.endpoint clock a.slot
    → cell.ep ≡ a.ep → cell.slot ≡ a.slot → IsLiveFor side c clock cell.ep cell.slot
live_along side c clock a cell at live ep slot =
    subst (λ (k : ℕ). IsLiveFor side c clock k cell.slot) (sym ep) (subst (λ (s : Slot). IsLiveFor side c clock a.ep s) (sym slot) (live_at side c clock a.endpoint a.ep a.slot at live))

pub kept_is : (side : Side) (c : Config) (clock : ℤ) (a : Allocation) (r : RingValue) (v : CellsValue) (acc : List Allocation) (ds : List UserSection) → Keeps side c clock v acc ds
    → IsAt c.endpoints a.ep a.endpoint → IsSlot a.endpoint.numerology a.slot → IsLiveOn side c.delays a.endpoint clock a.slot → ring_of v a.ep ≡ Some r
    → IsKept side c clock a r acc
kept_is side c clock a r v acc ds keeps at is_slot live was = record {
  claims = λ cell re is ep slot below.
      ap (λ (o : Option RingValue). claim_from o cell re) (sym (ap (ring_of v) ep ∙ was))
      ∙ keeps.claims a.endpoint cell re is (live_along side c clock a cell at live ep slot) below;
  uplink =
      ap (λ (o : Option RingValue). uplink_from o a.slot) (sym was)
      ∙ keeps.uplink a.endpoint a.ep a.slot at is_slot (live_at side c clock a.endpoint a.ep a.slot at live);
}

pub verdict_is : (side : Side) (c : Config) (clock : ℤ) (a : Allocation) (r : RingValue) (acc : List Allocation) → IsKept side c clock a r acc
    → IsAt c.endpoints a.ep a.endpoint → IsSlot a.endpoint.numerology a.slot → a.symbol + a.num_symbol ≤ symbols_of a.endpoint.numerology
    → verdict_by (ring_claim r) (length (ring_uplink r a.slot)) a ≡ timely_verdict acc a
verdict_is side c clock a r acc kept at is_slot within = elim (cases_Bool (is_outside a.endpoint.prbs a.start_prb a.num_prb)) [
  | inl outside ↦ rw outside refl
  | inr inside ↦
      let proper : IsProperAllocation c.endpoints a = record { endpoint = at; slot = is_slot; within = within; prbs = inside } in
      let agree : (cell : Cell) (re : ℕ) → covers a cell ≡ true → re < 12 → ring_claim r cell re ≡ claim_at acc cell re =
      λ cell re covered below. let is = covers_is a cell covered in kept.claims cell re (covered_cells c a cell proper covered) (sym is.ep) (sym is.slot) below in
      let again : repeats_by (ring_claim r) a ≡ repeats acc a = repeats_by_lookup a (ring_claim r) acc agree in
      let over : overlaps_by (ring_claim r) a ≡ overlaps acc a = overlaps_by_lookup a (ring_claim r) acc agree in
      let count : length (ring_uplink r a.slot) ≡ uplink_in a.ep a.slot acc =
      ap (λ (us : List Allocation). length us) kept.uplink ∙ sym (uplink_counted a.ep a.slot acc) in
      chosen (is_outside a.endpoint.prbs a.start_prb a.num_prb) (repeats_by (ring_claim r) a) (repeats acc a) (overlaps_by (ring_claim r) a) (overlaps acc a)
      (is_uplink a && nat_le SLOT_SECTIONS (length (ring_uplink r a.slot))) (is_full acc a) again over (ap (λ (n : ℕ). is_uplink a && nat_le SLOT_SECTIONS n) count)
]
  where
    chosen : (o r1 r2 p1 p2 f1 f2 : Bool) → r1 ≡ r2 → p1 ≡ p2 → f1 ≡ f2
        → (if o then Range else (if r1 then Repeat else (if p1 then Overlap else (if f1 then Full else Accepted))))
        ≡ (if o then Range else (if r2 then Repeat else (if p2 then Overlap else (if f2 then Full else Accepted))))
    chosen o r1 r2 p1 p2 f1 f2 r p f = rw (r, p, f) refl

-- ---- the rings after it

pub takes_keeps : (side : Side) (c : Config) (clock : ℤ) (a : Allocation) (v : CommandVerdict) (before after : RingValue) (old new : CellsValue) (acc : List Allocation) (ds : List UserSection)
    → IsStep side c clock a.ep a.endpoint a.slot before after old new → Claims a v before after → Keeps side c clock old acc ds → Keeps side c clock new (with_accepted v a acc) ds
takes_keeps side c clock a v before after old new acc ds step claims keeps =
    let kept = kept_is side c clock a before old acc ds keeps step.at step.is_slot step.live step.was in
    lifted side c clock a.ep a.endpoint a.slot before after old new step acc (with_accepted v a acc) ds ds keeps
    (λ cell re is live ep slot below.
    claims.claims cell re (ring_cell cell is) ep slot below ∙ ap (λ (x : Option Claim). claim_after v a cell re x) (kept.claims cell re is ep slot below)
    ∙ sym (claims_more v a acc cell re))
    (λ cell re ne. claims_elsewhere v a acc cell re ne)
    (λ cell is down live ep slot.
    claims.blocks cell slot ∙ ap (λ (o : Option RingValue). block_from o cell) (sym (ap (ring_of old) ep ∙ step.was)) ∙ keeps.blocks a.endpoint cell is down live)
    (λ cell ne. refl)
    (claims.uplink ∙ ap (uplink_after v a) kept.uplink ∙ sym (uplink_more v a acc))
    (λ k s ne. uplink_elsewhere v a acc k s ne)
    (reached_more c.endpoints v a acc (IsReached c.endpoints (reach_of side c.delays) clock)
    (record { endpoint = step.at; live = record { when = clock; come = ≤ℤ_refl clock; live = step.live } }) keeps.accepted)
    keeps.timely
  where
    ring_cell : (cell : Cell) → IsCell c a.endpoint cell → IsRingCell before cell
    ring_cell cell is = cell_in_ring c a.endpoint before cell (ring_is side c clock a.ep a.endpoint a.slot before after old new step) is
