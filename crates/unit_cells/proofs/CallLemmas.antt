-- What the calls answer, and what they leave.
use Rattle.std.proofs.Common.{◌≡◌, ℕ, ◌+◌, ◌<◌, ◌≤◌, Bool, true, false, if◌then◌else◌, List, [], ◌∷◌, ◌++◌, length, refl, sym, ap, ◌∙◌, subst, Option, Some, None}
use Rattle.std.specs.Prelude.{All, get_or, is_some}
use Rattle.std.specs.Option.{option_map}
use Rattle.std.proofs.lemmas.Option.{slice_get-map}
use Rattle.fh_base.specs.Numbering.{symbols_of}
use Rattle.unit_model.specs.Terms.{Ru, Du, Side}
use Rattle.bfp_codec.specs.declared.samples.Wide.{Wide}
use Rattle.window_config.specs.Limits.{IsWithinLimits}
use Rattle.window_config.specs.Rings.{ru_reach_of}
use Rattle.window_config.specs.Windows.{command_window_of, data_window_of}
use Rattle.window_config.specs.declared.config.Config.{Config}
use Rattle.window_config.specs.declared.delays.Delays.{Delays}
use Rattle.window_config.specs.declared.endpoints.EndpointConfig.{EndpointConfig}
use Rattle.window_config.specs.declared.verdicts.Class.{Class}
use Rattle.window_config.specs.declared.verdicts.Class.TheVariants as class
use Rattle.window_config.proofs.Live.{live_on_command}
use Rattle.unit_model.specs.Blocks.{data_class, data_prb_count, data_verdict, data_verdict_in, first_data_prb, has_all, with_timely}
use Rattle.unit_model.specs.Claims.{cell_at}
use Rattle.unit_model.specs.Commands.{allocation_of, command_class, command_slot, command_verdict, is_for, verdict_in, with_accepted}
use Rattle.fh_base.specs.Lists.{every}
use Rattle.unit_model.specs.Proper.{IsAt, IsProperCommand, IsSlot}
use Rattle.unit_model.specs.declared.allocations.Allocation.{Allocation}
use Rattle.unit_model.specs.declared.decoded.ControlSection.{ControlSection}
use Rattle.unit_model.specs.declared.decoded.UserSection.{UserSection}
use Rattle.unit_model.specs.declared.verdicts.CommandVerdict.{CommandVerdict}
use Rattle.unit_model.specs.declared.verdicts.CommandVerdict.TheVariants as command
use Rattle.unit_model.specs.declared.verdicts.DataVerdict.TheVariants as data_verdict
use Rattle.unit_model.proofs.SlotLemmas.{command_slot_is}
use Rattle.unit_model.proofs.SoundLemmas.{sound_command}
use Rattle.unit_model.specs.Sides.{IsLiveOn}
use Rattle.slot_rings.specs.Rings.{RingValue, ring_block}
use Rattle.unit_cells.specs.Cells.{AreRings, CellsValue, HoldsLive, IsOf, endpoint_in, endpoints_of, index_from, ring_of}
use Rattle.unit_model.specs.Headings.{IsProperHeading, data_under, with_heading}
use Rattle.unit_cells.specs.Keeping.{Keeps, LiveAreApart, SameReported}
use Rattle.unit_cells.specs.Steps.{Fills, InRing, Takes}
use Rattle.unit_cells.specs.Told.{IsTold}
use Rattle.unit_model.specs.declared.heading.DataHeading.{DataHeading}
use Rattle.unit_cells.proofs.ApartLemmas.{one_slot}
use Rattle.unit_cells.proofs.FillLemmas.{all_there, begun_keeps, fill_keeps, live_is, slot_is, slot_of}
use Rattle.unit_cells.proofs.KeepLemmas.{IsStep, at_config, at_rings, held_for, reports_still, ring_endpoint}
use Rattle.unit_cells.proofs.RingsLemmas.{read_is, rings_with}
use Rattle.unit_cells.proofs.TakeLemmas.{kept_is, takes_keeps, verdict_is}
use Rattle.unit_laws.proofs.LiveLemmas.{second_most, third_most}
use Rattle.fh_base.proofs.Orders.{not_negative}
use Rattle.std.specs.Int.Signed.{≤ℤ_refl}

-- ---- commands

chosen : (b c : Bool) (v w : CommandVerdict) → b ≡ c → (if b then v else w) ≡ (if c then v else w)
chosen b c v w e = ap (λ (x : Bool). if x then v else w) e

pub mismatched : (d : Delays) (acc : List Allocation) (c : ControlSection) → is_for c.head.body c.endpoint.numerology ≡ false → command.Mismatch ≡ command_verdict d acc c
unfolding command_verdict
mismatched d acc c h = sym (chosen (is_for c.head.body c.endpoint.numerology) false (verdict_in (command_class d c) acc (allocation_of c)) command.Mismatch h)

pub classed : (d : Delays) (acc : List Allocation) (c : ControlSection) (k : Class) → is_for c.head.body c.endpoint.numerology ≡ true → command_class d c ≡ k
    → verdict_in k acc (allocation_of c) ≡ command_verdict d acc c
unfolding command_verdict
classed d acc c k h is =
    ap (λ (x : Class). verdict_in x acc (allocation_of c)) (sym is)
    ∙ sym (chosen (is_for c.head.body c.endpoint.numerology) true (verdict_in (command_class d c) acc (allocation_of c)) command.Mismatch h)

-- a command that is on time names a live slot
pub command_live : (d : Delays) (c : ControlSection) → IsWithinLimits d → c.head.start_symbol < symbols_of c.endpoint.numerology → command_class d c ≡ class.OnTime
    → IsLiveOn Ru d c.endpoint c.at.0 (command_slot c)
command_live d c limits symbol on_time =
    live_on_command d c.endpoint.numerology (command_slot c) c.head.start_symbol c.at.0 c.at.0 (ru_reach_of d).before (ru_reach_of d).after c.head.down limits
    (second_most (data_window_of d).max (command_window_of d true).max (command_window_of d false).max)
    (third_most (data_window_of d).max (command_window_of d true).max (command_window_of d false).max)
    (not_negative d.ta3.min d.ta3.max limits.ta3.low limits.ta3.order) symbol (≤ℤ_refl c.at.0) on_time

limits_of : (side : Side) (c : Config) (v : CellsValue) → IsOf side c v → AreRings v → IsWithinLimits c.delays
limits_of side c v of held = subst IsWithinLimits of.delays held.limits

module _ (c : Config) (k : ControlSection) (v : CommandVerdict) (old new : CellsValue) (of : IsOf Ru c old) (held : AreRings old)
    (proper : IsProperCommand (endpoints_of old) k) (on_time : command_class c.delays k ≡ class.OnTime)
    (taken : InRing k.ep (Takes (allocation_of k) v) old new) where
  pub command_step : IsStep Ru c k.at.0 k.ep k.endpoint (command_slot k) taken.before taken.after old new
  command_step = record {
    of = of;
    held = held;
    at = at_config Ru c old k.ep k.endpoint of proper.endpoint;
    is_slot = command_slot_is k (sound_command (endpoints_of old) k proper);
    live = command_live c.delays k (limits_of Ru c old of held) proper.start_symbol on_time;
    was = taken.was;
    rings = taken.rings;
    side_is = taken.side;
    delays = taken.delays;
    touches = taken.stepped.claims.touches;
    has = taken.stepped.claims.has;
  }

  pub command_keeps : (acc : List Allocation) (ds : List UserSection) → Keeps Ru c k.at.0 old acc ds → Keeps Ru c k.at.0 new (with_accepted v (allocation_of k) acc) ds
  command_keeps acc ds keeps = takes_keeps Ru c k.at.0 (allocation_of k) v taken.before taken.after old new acc ds command_step taken.stepped.claims keeps

  pub command_judged : (acc : List Allocation) (ds : List UserSection) → Keeps Ru c k.at.0 old acc ds → is_for k.head.body k.endpoint.numerology ≡ true → v ≡ command_verdict c.delays acc k
  command_judged acc ds keeps fits =
      let kept = kept_is Ru c k.at.0 (allocation_of k) taken.before old acc ds keeps command_step.at command_step.is_slot command_step.live taken.was in
      taken.stepped.verdict
      ∙ verdict_is Ru c k.at.0 (allocation_of k) taken.before acc kept command_step.at command_step.is_slot proper.within
      ∙ classed c.delays acc k class.OnTime fits on_time

  pub command_reports : SameReported Ru c k.at.0 old new
  command_reports =
      reports_still Ru c k.at.0 k.ep k.endpoint (command_slot k) taken.before taken.after old new command_step (λ cell ep slot. taken.stepped.claims.reported cell slot)

-- ---- sections that begin

pub record HasRing (v : CellsValue) (ep : ℕ) : Type 0 where
  pub ring : RingValue
  pub is : ring_of v ep ≡ Some ring

pub has_ring : (v : CellsValue) (ep : ℕ) (e : EndpointConfig) → IsAt (endpoints_of v) ep e → HasRing v ep
has_ring v ep e at = go (ring_of v ep) refl
  where
    go : (o : Option RingValue) → ring_of v ep ≡ o → HasRing v ep
    go None is =
        let none : None ≡ Some e = ap (option_map endpoint_in) (sym is) ∙ sym (slice_get-map endpoint_in v.rings ep) ∙ at in
        absurd cc
    go (Some r) is = record { ring = r; is = is }

-- the blocks do not matter
class_same : (side : Side) (d : Delays) (h : DataHeading) (blocks : List (List Wide)) → data_class side d (data_under h blocks) ≡ data_class side d (data_under h [])
class_same Ru d h blocks = refl
class_same Du d h blocks = refl

pub data_classed : (side : Side) (d : Delays) (ds : List UserSection) (h : DataHeading) (blocks : List (List Wide)) (k : Class) → data_class side d (data_under h []) ≡ k
    → data_verdict_in k ds (data_under h blocks) ≡ data_verdict side d ds (data_under h blocks)
unfolding data_verdict
data_classed side d ds h blocks k is = ap (λ (x : Class). data_verdict_in x ds (data_under h blocks)) (sym (class_same side d h blocks ∙ is))

-- of the unit's own direction
pub heading_of : (side : Side) (c : Config) (h : DataHeading) (v : CellsValue) → IsOf side c v → IsProperHeading v.side (endpoints_of v) h → IsProperHeading side (endpoints_of v) h
heading_of side c h v of proper = subst (λ (s : Side). IsProperHeading s (endpoints_of v) h) of.side_is proper

pub heading_at : (side : Side) (c : Config) (v : CellsValue) (h : DataHeading) → IsOf side c v → IsProperHeading side (endpoints_of v) h → IsProperHeading side c.endpoints h
heading_at side c v h of proper = record {
  endpoint = at_config side c v h.ep h.endpoint of proper.endpoint;
  sound = proper.sound;
  down = proper.down;
  order = proper.order;
}

module _ (side : Side) (c : Config) (h : DataHeading) (v : CellsValue) (of : IsOf side c v) (held : AreRings v) (proper : IsProperHeading side (endpoints_of v) h) where
  pub begun : (acc : List Allocation) (ds : List UserSection) → Keeps side c h.last.0 v acc ds → Keeps side c h.last.0 v acc (with_heading side c.delays h [] ds)
  begun acc ds keeps = begun_keeps side c h v acc ds (data_class side c.delays (data_under h [])) refl (limits_of side c v of held) (heading_at side c v h of proper) keeps

  pub begun_judged : (acc : List Allocation) (ds : List UserSection) (blocks : List (List Wide)) (whole : Bool) → Keeps side c h.last.0 v acc ds → All IsTold ds
      → data_class side c.delays (data_under h []) ≡ class.OnTime
      → ((r : RingValue) → ring_of v h.ep ≡ Some r → whole
      ≡ every (first_data_prb (data_under h [])) (data_prb_count (data_under h [])) (λ prb. is_some (ring_block r (cell_at h.ep true (slot_of h) h.section.symbol prb))))
      → (if whole then data_verdict.Repeat else data_verdict.Taken) ≡ data_verdict side c.delays ds (data_under h blocks)
  begun_judged acc ds blocks whole keeps told on_time is_whole =
      let r = has_ring v h.ep h.endpoint proper.endpoint in
      let at = heading_at side c v h of proper in
      let all : whole ≡ has_all ds (data_under h blocks) =
      is_whole r.ring r.is ∙ all_there side c h blocks r.ring v acc ds keeps told at (live_is side c.delays h (limits_of side c v of held) proper.sound proper.order on_time) r.is in
      ap (λ (b : Bool). if b then data_verdict.Repeat else data_verdict.Taken) all ∙ data_classed side c.delays ds h blocks class.OnTime on_time

-- ---- blocks

on_time_first : (side : Side) (d : Delays) (h : DataHeading) (blocks : List (List Wide)) (ds : List UserSection) → data_class side d (data_under h []) ≡ class.OnTime
    → with_heading side d h blocks ds ≡ data_under h blocks ∷ ds
on_time_first side d h blocks ds on_time = ap (λ (k : Class). with_timely k (data_under h blocks) ds) (class_same side d h blocks ∙ on_time)

module _ (side : Side) (c : Config) (h : DataHeading) (prb : ℕ) (run : List (List Wide)) (old new : CellsValue) (of : IsOf side c old) (held : AreRings old)
    (proper : IsProperHeading side (endpoints_of old) h) (on_time : data_class side c.delays (data_under h []) ≡ class.OnTime)
    (filled : InRing h.ep (Fills (slot_of h) h.section.symbol prb h.section.id run) old new) where
  fill_step : IsStep side c h.last.0 h.ep h.endpoint (slot_of h) filled.before filled.after old new
  fill_step = record {
    of = of;
    held = held;
    at = at_config side c old h.ep h.endpoint of proper.endpoint;
    is_slot = slot_is h proper.sound;
    live = live_is side c.delays h (limits_of side c old of held) proper.sound proper.order on_time;
    was = filled.was;
    rings = filled.rings;
    side_is = filled.side;
    delays = filled.delays;
    touches = filled.stepped.touches;
    has = filled.stepped.has;
  }

  pub filled_keeps : (acc : List Allocation) (ds : List UserSection) (blocks : List (List Wide)) → prb ≡ first_data_prb (data_under h []) + length blocks
      → length blocks + length run ≤ data_prb_count (data_under h []) → Keeps side c h.last.0 old acc (with_heading side c.delays h blocks ds)
      → Keeps side c h.last.0 new acc (with_heading side c.delays h (blocks ++ run) ds)
  filled_keeps acc ds blocks prb_is below keeps =
      subst (Keeps side c h.last.0 new acc) (sym (on_time_first side c.delays h (blocks ++ run) ds on_time))
      (fill_keeps side c h.last.0 h blocks run prb filled.before filled.after old new acc ds fill_step filled.stepped proper.down prb_is below
      (subst (Keeps side c h.last.0 old acc) (on_time_first side c.delays h blocks ds on_time) keeps))

  pub filled_reported : SameReported side c h.last.0 old new
  filled_reported = reports_still side c h.last.0 h.ep h.endpoint (slot_of h) filled.before filled.after old new fill_step (λ cell ep slot. filled.stepped.reported cell slot)

-- the delays that the rings hold are those of the configuration
pub delays_are : (side : Side) (c : Config) (u : Side) (d : Delays) (rs : List RingValue) (v : CellsValue) → rings_with u d rs ≡ v → IsOf side c v → d ≡ c.delays
delays_are side c u d rs v view of = ap (λ (x : CellsValue). x.delays) view ∙ of.delays

pub held_is : (u : Side) (d : Delays) (rs : List RingValue) (v : CellsValue) → rings_with u d rs ≡ v → AreRings (rings_with u d rs) → AreRings v
held_is u d rs v view held = subst AreRings view held

-- the ring that was read
pub ring_read : (u : Side) (d : Delays) (rs : List RingValue) (v : CellsValue) (ep : ℕ) (e : EndpointConfig) (read : RingValue) → rings_with u d rs ≡ v → IsAt (endpoints_of v) ep e
    → read ≡ get_or rs ep read → ring_of v ep ≡ Some read
ring_read u d rs v ep e read view at is = ap (λ (x : CellsValue). ring_of x ep) (sym view) ∙ read_is u d rs v ep e read view at is

-- the side of the rings is that of the unit
pub side_are : (side : Side) (c : Config) (u : Side) (d : Delays) (rs : List RingValue) (v : CellsValue) → rings_with u d rs ≡ v → IsOf side c v → u ≡ side
side_are side c u d rs v view of = ap (λ (x : CellsValue). x.side) view ∙ of.side_is

-- the class by the configuration's delays
pub data_class_is : (side : Side) (c : Config) (u : Side) (d : Delays) (k : Class) (h : DataHeading) → k ≡ data_class u d (data_under h []) → u ≡ side → d ≡ c.delays
    → data_class side c.delays (data_under h []) ≡ k
data_class_is side c u d k h is own same =
    sym (is ∙ ap (λ (s : Side). data_class s d (data_under h [])) own ∙ ap (λ (e : Delays). data_class side e (data_under h [])) same)

-- two live slots have two places
pub live_apart : (v : CellsValue) → AreRings v → LiveAreApart v
live_apart v held side c clock e ep a b of at is_a is_b live_a live_b share =
    let r = has_ring v ep e (at_rings side c v ep e of at) in
    let same : r.ring.endpoint ≡ e = ring_endpoint v ep e r.ring (at_rings side c v ep e of at) r.is in
    let holds : HoldsLive side c.delays r.ring = held_for side c v r.ring of (held.wide ep r.ring r.is) in
    one_slot side c.delays r.ring clock a b holds
    (subst (λ (x : EndpointConfig). IsSlot x.numerology a) (sym same) is_a) (subst (λ (x : EndpointConfig). IsSlot x.numerology b) (sym same) is_b)
    (subst (λ (x : EndpointConfig). IsLiveOn side c.delays x clock a) (sym same) (live_a e at))
    (subst (λ (x : EndpointConfig). IsLiveOn side c.delays x clock b) (sym same) (live_b e at))
    (ap (λ (o : Option RingValue). index_from o a) (sym r.is) ∙ share ∙ ap (λ (o : Option RingValue). index_from o b) r.is)
