-- The blocks of a section that is on time, one by one, and the cells that are reported.
use Rattle.std.proofs.Common.{◌≡◌, ℕ, ℤ, ◌+◌, ◌-◌, ◌<◌, ◌≤◌, ◌≤ℤ◌, Bool, true, false, ◌==◌, List, [], ◌∷◌, ◌++◌, length, refl, sym, ap, ◌∙◌, subst, arith, ◌⊎◌, inl, inr, Option, Some}
use Rattle.std.specs.Prelude.{All, is_some}
use Rattle.std.proofs.lemmas.Bool.{and_from, cases_Bool, cases_eq, eq-eqb}
use Rattle.std.proofs.lemmas.Bool.Decides.{nat_tests}
use Rattle.std.proofs.lemmas.List.Elements.{All-cons, All-head, All-tail}
use Rattle.fh_base.specs.declared.values.Slot.{Slot}
use Rattle.bfp_codec.specs.declared.samples.Wide.{Wide}
use Rattle.window_config.specs.Limits.{IsWithinLimits}
use Rattle.window_config.specs.declared.config.Config.{Config}
use Rattle.window_config.specs.declared.delays.Delays.{Delays}
use Rattle.window_config.specs.declared.endpoints.EndpointConfig.{EndpointConfig}
use Rattle.window_config.specs.declared.verdicts.Class.{Class}
use Rattle.window_config.specs.declared.verdicts.Class.TheVariants as class
use Rattle.unit_model.specs.Blocks.{block_at, data_class, data_covers, data_prb_count, data_slot, every_data_cell, first_data_prb, has_all, with_timely}
use Rattle.unit_model.specs.Claims.{cell_at, claim_at, is_from, same_slot, same_way}
use Rattle.fh_base.specs.Lists.{every, or_else}
use Rattle.unit_model.specs.Terms.{Side, is_down}
use Rattle.unit_model.specs.Proper.{IsAt, IsSlot}
use Rattle.unit_model.specs.Standing.{IsCell, uplink_of}
use Rattle.unit_model.specs.declared.allocations.Allocation.{Allocation}
use Rattle.unit_model.specs.declared.cells.Block.{Block}
use Rattle.unit_model.specs.declared.cells.Cell.{Cell}
use Rattle.unit_model.specs.declared.decoded.UserSection.{UserSection}
use Rattle.unit_model.proofs.SlotLemmas.{absolute_near}
use Rattle.unit_laws.specs.Far.{IsReachedData}
use Rattle.unit_model.specs.Sides.{IsLiveFor, IsLiveOn, reach_of}
use Rattle.unit_laws.proofs.CellLemmas.{data_covers_is}
use Rattle.unit_laws.proofs.LiveLemmas.{data_live}
use Rattle.unit_laws.proofs.LookupLemmas.{has_all_by_lookup}
use Rattle.slot_rings.specs.Rings.{RingValue, ring_block, ring_claim, ring_uplink}
use Rattle.slot_rings.specs.Runs.{packed_block}
use Rattle.unit_cells.specs.Cells.{CellsValue, block_from, claim_from, ring_of, uplink_from}
use Rattle.unit_model.specs.Headings.{IsProperHeading, IsSoundHeading, data_under}
use Rattle.unit_cells.specs.Keeping.{Keeps}
use Rattle.unit_cells.specs.Steps.{Fills}
use Rattle.unit_cells.specs.Told.{IsTold, told_block_at}
use Rattle.unit_model.specs.declared.heading.DataHeading.{DataHeading}
use Rattle.unit_cells.proofs.KeepLemmas.{IsStep, cell_in_ring, lifted, ring_is}
use Rattle.unit_cells.proofs.TimeLemmas.{live_at}
use Rattle.unit_cells.proofs.ToldLemmas.{told_next, told_nothing, told_other, told_whole}
use Rattle.unit_model.proofs.ClaimLemmas.{within as run_below, starts_before as from_first, within_carrier, way_self as same_as_itself, slot_self as slot_own}
use Rattle.fh_base.proofs.Orders.{same_below}
use Rattle.std.specs.Int.Signed.{≤ℤ_refl}

-- ---- a step that leaves claims and uplink sections as they are

module _ (side : Side) (c : Config) (clock : ℤ) (ep : ℕ) (e : EndpointConfig) (slot : Slot) (before after : RingValue) (old new : CellsValue)
    (step : IsStep side c clock ep e slot before after old new) (acc : List Allocation) (ds : List UserSection) (keeps : Keeps side c clock old acc ds) where
  pub claims_of_old : (cell : Cell) (re : ℕ) → IsCell c e cell → IsLiveFor side c clock cell.ep cell.slot → cell.ep ≡ ep → re < 12 → ring_claim before cell re ≡ claim_at acc cell re
  claims_of_old cell re is live at below =
      ap (λ (o : Option RingValue). claim_from o cell re) (sym (ap (ring_of old) at ∙ step.was)) ∙ keeps.claims e cell re is live below

  pub blocks_of_old : (cell : Cell) → IsCell c e cell → cell.down ≡ is_down side → IsLiveFor side c clock cell.ep cell.slot → cell.ep ≡ ep → ring_block before cell ≡ told_block_at ds cell
  blocks_of_old cell is down live at =
      ap (λ (o : Option RingValue). block_from o cell) (sym (ap (ring_of old) at ∙ step.was)) ∙ keeps.blocks e cell is down live

  pub uplink_of_old : ring_uplink before slot ≡ uplink_of ep slot acc
  uplink_of_old =
      ap (λ (o : Option RingValue). uplink_from o slot) (sym step.was) ∙ keeps.uplink e ep slot step.at step.is_slot (live_at side c clock e ep slot step.at step.live)

-- ---- more blocks

either_cell : (y z first count n : ℕ) → ((y ≡ z) × (is_from first count n ≡ true)) ⊎ (y ≡ z → is_from first count n ≡ false)
either_cell y z first count n = elim (cases_eq y z) [
  | inr ne ↦ inr (λ e. absurd (ne e))
  | inl e ↦ elim (cases_Bool (is_from first count n)) [ inl f ↦ inl (e, f) | inr out ↦ inr (λ _. out) ]
]

cell_is : (cell : Cell) (down : Bool) (slot : Slot) (symbol prb : ℕ) → cell.down ≡ down → cell.slot ≡ slot → cell.symbol ≡ symbol → cell.prb ≡ prb
    → cell ≡ cell_at cell.ep down slot symbol prb
cell_is cell down slot symbol prb a b c d =
    ap (λ (x : Bool). cell_at cell.ep x cell.slot cell.symbol cell.prb) a
    ∙ ap (λ (x : Slot). cell_at cell.ep down x cell.symbol cell.prb) b
    ∙ ap (λ (x : ℕ). cell_at cell.ep down slot x cell.prb) c
    ∙ ap (λ (x : ℕ). cell_at cell.ep down slot symbol x) d

ways_same : (a b : Bool) → b ≡ a → same_way a b ≡ true
ways_same a b e = ap (same_way a) e ∙ same_as_itself a

slots_same : (a b : Slot) → b ≡ a → same_slot a b ≡ true
slots_same a b e = ap (same_slot a) e ∙ slot_own a

pub from_is : (first count k prb : ℕ) → prb ≡ first + k → k < count → is_from first count prb ≡ true
from_is first count k prb e below = grind (arith, nat_tests)

-- a PRB among the next ones of a section, of which `first` is the first PRB and `done` were told
run_index : (first reported count prb : ℕ) → is_from (first + reported) count prb ≡ true → prb ≡ first + reported + (prb - (first + reported))
run_index first reported count prb h = grind (arith, nat_tests)

distance : (first reported k prb : ℕ) → prb ≡ first + reported + k → prb - first ≡ reported + k
distance first reported k prb e = omega arith

not_next : (first reported count prb : ℕ) → is_from (first + reported) count prb ≡ false → first ≤ prb → is_from reported count (prb - first) ≡ false
not_next first reported count prb h le = grind (arith, nat_tests)

-- the slot of a section, whatever its blocks
abbrev pub slot_of : DataHeading → Slot
slot_of h = data_slot (data_under h [])

covers_next : (side : Side) (h : DataHeading) (blocks : List (List Wide)) (k : ℕ) (cell : Cell) → h.head.down ≡ is_down side → cell.down ≡ is_down side → cell.ep ≡ h.ep → cell.slot ≡ slot_of h
    → cell.symbol ≡ h.section.symbol → cell.prb ≡ first_data_prb (data_under h blocks) + k → k < data_prb_count (data_under h blocks) → data_covers (data_under h blocks) cell ≡ true
covers_next side h blocks k cell head down ep slot symbol prb below =
    and_from (h.ep == cell.ep) _ (eq-eqb h.ep cell.ep (sym ep))
    (and_from (same_way h.head.down cell.down) _ (ways_same h.head.down cell.down (down ∙ sym head))
    (and_from (same_slot (slot_of h) cell.slot) _ (slots_same (slot_of h) cell.slot slot)
    (and_from (h.section.symbol == cell.symbol) _ (eq-eqb h.section.symbol cell.symbol (sym symbol))
    (from_is (first_data_prb (data_under h blocks)) (data_prb_count (data_under h blocks)) k cell.prb prb below))))

pub fill_keeps : (side : Side) (c : Config) (clock : ℤ) (h : DataHeading) (blocks run : List (List Wide)) (prb : ℕ) (before after : RingValue) (old new : CellsValue)
    (acc : List Allocation) (ds : List UserSection)
    → IsStep side c clock h.ep h.endpoint (slot_of h) before after old new
    → Fills (slot_of h) h.section.symbol prb h.section.id run before after
    → h.head.down ≡ is_down side → prb ≡ first_data_prb (data_under h []) + length blocks → length blocks + length run ≤ data_prb_count (data_under h [])
    → Keeps side c clock old acc (data_under h blocks ∷ ds) → Keeps side c clock new acc (data_under h (blocks ++ run) ∷ ds)
fill_keeps side c clock h blocks run prb before after old new acc ds step fills head prb_is below keeps =
    lifted side c clock h.ep h.endpoint (slot_of h) before after old new step acc acc (data_under h blocks ∷ ds) (data_under h (blocks ++ run) ∷ ds) keeps
    (λ cell re is live ep slot small.
    fills.claims cell re slot ∙ claims_of_old side c clock h.ep h.endpoint (slot_of h) before after old new step acc (data_under h blocks ∷ ds) keeps cell re is live ep small)
    (λ cell re ne. refl) own_block
    (λ cell ne. told_other h blocks run cell ds (λ covers. let is = data_covers_is (data_under h blocks) cell covers in absurd (ne (sym is.ep) (sym is.slot))))
    (fills.uplink ∙ uplink_of_old side c clock h.ep h.endpoint (slot_of h) before after old new step acc (data_under h blocks ∷ ds) keeps)
    (λ k s ne. refl) keeps.accepted
    (All-cons P (data_under h (blocks ++ run)) ds
    (let first = All-head P (data_under h blocks) ds keeps.timely in record { endpoint = first.endpoint; live = first.live })
    (All-tail P (data_under h blocks) ds keeps.timely))
  where
    P : UserSection → Type 0
    P = IsReachedData c.endpoints (reach_of side c.delays) clock

    own_block : (cell : Cell) → IsCell c h.endpoint cell → cell.down ≡ is_down side → IsLiveFor side c clock cell.ep cell.slot → cell.ep ≡ h.ep → cell.slot ≡ slot_of h
        → ring_block after cell ≡ told_block_at (data_under h (blocks ++ run) ∷ ds) cell
    own_block cell is down live ep slot =
        let was = blocks_of_old side c clock h.ep h.endpoint (slot_of h) before after old new step acc (data_under h blocks ∷ ds) keeps cell is down live ep in
        let first = first_data_prb (data_under h blocks) in
        let reported = length blocks in
        elim (either_cell cell.symbol h.section.symbol (first + reported) (length run) cell.prb) [
          | inl here ↦
              let k : ℕ = cell.prb - (first + reported) in
              let small : k < length run = run_below (first + reported) (length run) cell.prb here.1 in
              let at : cell.prb ≡ first + reported + k = run_index first reported (length run) cell.prb here.1 in
              let own : cell.prb ≡ prb + k = at ∙ ap (λ (n : ℕ). n + k) (sym prb_is) in
              let e = cell_is cell (is_down side) (slot_of h) h.section.symbol (prb + k) down slot here.0 own in
              let inside : cell.prb ≡ first + (reported + k) = omega (arith, at) in
              ap (ring_block after) e ∙ fills.here cell.ep k small
              ∙ ap (λ (o : Option Block). or_else o (Some (packed_block h.section.id run k))) (ap (ring_block before) (sym e) ∙ was)
              ∙ sym (told_next h blocks run cell k ds (covers_next side h blocks (reported + k) cell head down ep slot here.0 inside (omega (arith, below, small)))
              (distance first reported k cell.prb at) small)
          | inr ne ↦
              fills.others cell (cell_in_ring c h.endpoint before cell (ring_is side c clock h.ep h.endpoint (slot_of h) before after old new step) is) slot
              (λ s. ap (λ (n : ℕ). is_from n (length run) cell.prb) prb_is ∙ ne s) ∙ was
              ∙ sym (told_other h blocks run cell ds (λ covers.
              let is_in = data_covers_is (data_under h blocks) cell covers in
              not_next first reported (length run) cell.prb (ne (sym is_in.symbol)) (from_first first (data_prb_count (data_under h blocks)) cell.prb is_in.prb)))
        ]

-- ---- a section that begins

pub slot_is : (h : DataHeading) → IsSoundHeading h → IsSlot h.endpoint.numerology (slot_of h)
slot_is h is = let frame = absolute_near h.head.frame_id h.last.0 is.last in record { low = frame.0; high = frame.1; subframe = is.subframe; slot_is = is.slot }

-- what is on time at either unit names a slot that is live when the last of it is received
pub live_is : (side : Side) (d : Delays) (h : DataHeading) → IsWithinLimits d → IsSoundHeading h → h.first.0 ≤ℤ h.last.0 → data_class side d (data_under h []) ≡ class.OnTime
    → IsLiveOn side d h.endpoint h.last.0 (slot_of h)
live_is side d h limits is order on_time = data_live side d (data_under h []) limits is.symbol order on_time

covered_cell : (side : Side) (c : Config) (h : DataHeading) (blocks : List (List Wide)) (cell : Cell) → IsProperHeading side c.endpoints h → data_covers (data_under h blocks) cell ≡ true → IsCell c h.endpoint cell
covered_cell side c h blocks cell proper covered =
    let is = data_covers_is (data_under h blocks) cell covered in
    record {
      endpoint = subst (λ (k : ℕ). IsAt c.endpoints k h.endpoint) is.ep proper.endpoint;
      slot = subst (IsSlot h.endpoint.numerology) is.slot (slot_is h proper.sound);
      symbol = same_below h.section.symbol cell.symbol _ proper.sound.symbol is.symbol;
      prb = within_carrier h.endpoint.prbs h.section.start_prb h.section.num_prb cell.prb proper.sound.within is.prb;
    }

pub all_there : (side : Side) (c : Config) (h : DataHeading) (blocks : List (List Wide)) (r : RingValue) (v : CellsValue) (acc : List Allocation) (ds : List UserSection)
    → Keeps side c h.last.0 v acc ds → All IsTold ds → IsProperHeading side c.endpoints h → IsLiveOn side c.delays h.endpoint h.last.0 (slot_of h) → ring_of v h.ep ≡ Some r
    → every (first_data_prb (data_under h [])) (data_prb_count (data_under h [])) (λ prb. is_some (ring_block r (cell_at h.ep true (slot_of h) h.section.symbol prb)))
    ≡ has_all ds (data_under h blocks)
unfolding every_data_cell
all_there side c h blocks r v acc ds keeps told proper live was =
    let agree : (cell : Cell) → data_covers (data_under h blocks) cell ≡ true → ring_block r cell ≡ block_at ds cell =
    (λ cell covered.
    let is = data_covers_is (data_under h blocks) cell covered in
    let alive : IsLiveFor side c h.last.0 cell.ep cell.slot =
    subst (λ (k : ℕ). IsLiveFor side c h.last.0 k cell.slot) is.ep
    (subst (λ (s : Slot). IsLiveFor side c h.last.0 h.ep s) is.slot (live_at side c h.last.0 h.endpoint h.ep (slot_of h) proper.endpoint live)) in
    ap (λ (o : Option RingValue). block_from o cell) (sym (ap (ring_of v) (sym is.ep) ∙ was))
    ∙ keeps.blocks h.endpoint cell (covered_cell side c h blocks cell proper covered) (sym is.down ∙ proper.down) alive ∙ told_whole ds cell told) in
    ap (λ (b : Bool). every (first_data_prb (data_under h [])) (data_prb_count (data_under h [])) (λ prb. is_some (ring_block r (cell_at h.ep b (slot_of h) h.section.symbol prb)))) (sym proper.down)
    ∙ has_all_by_lookup (data_under h blocks) (ring_block r) ds agree

-- nothing is known of it yet
pub begun_keeps : (side : Side) (c : Config) (h : DataHeading) (v : CellsValue) (acc : List Allocation) (ds : List UserSection) (k : Class) → data_class side c.delays (data_under h []) ≡ k
    → IsWithinLimits c.delays → IsProperHeading side c.endpoints h → Keeps side c h.last.0 v acc ds → Keeps side c h.last.0 v acc (with_timely k (data_under h []) ds)
begun_keeps side c h v acc ds class.Late is limits proper keeps = keeps
begun_keeps side c h v acc ds class.Early is limits proper keeps = keeps
begun_keeps side c h v acc ds class.OnTime is limits proper keeps = record {
  claims = keeps.claims;
  blocks = λ e cell at down live. keeps.blocks e cell at down live ∙ sym (told_nothing h ds cell);
  uplink = keeps.uplink;
  reached = keeps.reached;
  accepted = keeps.accepted;
  timely = All-cons (IsReachedData c.endpoints (reach_of side c.delays) h.last.0) (data_under h []) ds (record {
    endpoint = proper.endpoint;
    live = record { when = h.last.0; come = ≤ℤ_refl h.last.0; live = live_is side c.delays h limits proper.sound proper.order is };
  }) keeps.timely;
}
