-- The cells of a replay are at their endpoints, under section ids of 12 bits.
use Rattle.std.proofs.Common.{ℕ, zero, suc, ℤ, pos, neg_ℤ, ◌+◌, ◌^◌, ◌<◌, ◌≤◌, ◌+ℤ◌, ◌-ℤ◌, ◌*ℤ◌, ◌≤ℤ◌, ◌<ℤ◌, ◌==◌, Bool, true, false, List, [], ◌∷◌, ◌++◌, map, Option, Some, None, sym, subst, arith}
use Rattle.std.specs.Prelude.{if◌then◌else◌}
use Rattle.std.specs.Int.{int_gap}
use Rattle.std.specs.List.{AllByRecursion, flat_map}
use Rattle.std.proofs.lemmas.Int.{ints}
use Rattle.air_source.specs.Units.{is_down}
use Rattle.air_source.specs.declared.events.AirCell.{AirCell}
use Rattle.air_source.specs.declared.events.Event.{Event}
use Rattle.air_source.specs.declared.events.Event.TheVariants as event
use Rattle.air_source.specs.declared.events.Side.{Side}
use Rattle.air_source.specs.declared.events.Side.TheVariants.{Du, Ru}
use Rattle.fault_counters.specs.Names.{all_counters}
use Rattle.fault_counters.specs.declared.kinds.Counter.{Counter}
use Rattle.fh_base.specs.Air.{air_of}
use Rattle.fh_base.specs.declared.frames.TheConstants.{FRAME}
use Rattle.fh_base.specs.declared.values.Slot.{Slot}
use Rattle.window_config.specs.Configs.{IsConfig}
use Rattle.window_config.specs.declared.config.Config.{Config}
use Rattle.window_config.specs.declared.delays.Delays.{Delays}
use Rattle.window_config.specs.declared.endpoints.EndpointConfig.{EndpointConfig}
use Rattle.unit_model.proofs.SweepLemmas.{IsKept, at_tick_related, each_related, each_tick_related}
use Rattle.unit_model.specs.Swept.{IsSwept}
use Rattle.unit_model.proofs.ReachLaws.{symbol_soon}
use Rattle.unit_model.specs.Claims.{cell_at, claim_at, claim_of, names}
use Rattle.unit_model.specs.Commands.{accepted, allocation_of, command_verdict, with_accepted}
use Rattle.fh_base.specs.Lists.{each, each_tick}
use Rattle.unit_model.specs.Meetings.{Arrival}
use Rattle.unit_model.specs.Proper.{IsSlot}
use Rattle.unit_model.specs.Radiated.{Known, air_cell, cell_report, first_clock, id_from, id_or, symbol_report, used_mask}
use Rattle.unit_model.specs.Reports.{accepted_of, commands_of}
use Rattle.unit_model.specs.Sweeps.{at_tick}
use Rattle.unit_model.specs.Times.{end_of_time}
use Rattle.unit_model.specs.declared.allocations.Allocation.{Allocation}
use Rattle.unit_model.specs.declared.cells.Cell.{Cell}
use Rattle.unit_model.specs.declared.cells.Claim.{Claim}
use Rattle.unit_model.specs.declared.decoded.ControlSection.{ControlSection}
use Rattle.unit_model.specs.declared.verdicts.CommandVerdict.{CommandVerdict}
use Rattle.unit_model.specs.declared.verdicts.CommandVerdict.TheVariants.{Accepted}
use Rattle.schedule_laws.proofs.FoundLemmas.{found}
use Rattle.plan_model.proofs.SweptLists.{numerology_short}
use Rattle.replay_laws.specs.Events.{arrivals_at, cells_reported_at, count_event, count_events, events, events_at, number_of, start_of}
use Rattle.unit_model.specs.Events.{arrivals_told, result_event}
use Rattle.replay_laws.specs.Moments.{all_arrivals, landing_at}
use Rattle.replay_laws.specs.Traffic.{Traffic, landings_at}
use Rattle.unit_model.specs.declared.results.DelayResult.{DelayResult}
use Rattle.unit_laws.specs.Arriving.{known_at}
use Rattle.unit_laws.proofs.WidthLemmas.{IsNarrow, commands_narrow}
use Rattle.drawn_laws.specs.Drawable.{IsNear}
use Rattle.drawn_laws.specs.Events.{IsPlacedCell, IsPlacedEvent}
use Rattle.fh_base.proofs.Orders.{not_negative}

-- ---- lists

module _ {A : Type 0} (P : A → Type 0) where
  pub all_both : (xs ys : List A) → AllByRecursion P xs → AllByRecursion P ys → AllByRecursion P (xs ++ ys)
  all_both [] ys h k = k
  all_both (x ∷ xs) ys h k = (h.0, all_both xs ys h.1 k)

  all_chosen : (b : Bool) (xs ys : List A) → AllByRecursion P xs → AllByRecursion P ys → AllByRecursion P (if b then xs else ys)
  all_chosen true xs ys h k = h
  all_chosen false xs ys h k = k

  all_any : {B : Type 0} (f : B → List A) → ((b : B) → AllByRecursion P (f b)) → (bs : List B) → AllByRecursion P (flat_map f bs)
  all_any f h [] = tt
  all_any f h (b ∷ bs) = all_both (f b) (flat_map f bs) (h b) (all_any f h bs)

  -- what is gone over keeps it
  goes_on : IsKept {A = A} {B = A} (λ xs ys. AllByRecursion P xs)
  goes_on = record { none = tt; more = λ xs xs' ys ys' p q. all_both xs xs' p q }

-- ---- section ids

abbrev IsIdShort : Option Claim → Type 0
IsIdShort None = Unit {0}
IsIdShort (Some k) = k.id < 2 ^ 12

abbrev IsSectionShort : Allocation → Type 0
IsSectionShort a = a.section < 2 ^ 12

claim_by : (b : Bool) (a : Allocation) (o : Option Claim) → IsSectionShort a → IsIdShort o → IsIdShort (if b then Some (claim_of a) else o)
claim_by true a o h k = h
claim_by false a o h k = k

claim_short : (accepted_ones : List Allocation) (cell : Cell) (re : ℕ) → AllByRecursion IsSectionShort accepted_ones → IsIdShort (claim_at accepted_ones cell re)
unfolding claim_at
claim_short [] cell re h = tt
claim_short (a ∷ earlier) cell re h = claim_by (names a cell re) a (claim_at earlier cell re) h.0 (claim_short earlier cell re h.1)

or_short : (o : Option Claim) (id : ℕ) → IsIdShort o → id < 2 ^ 12 → id_or o id < 2 ^ 12
or_short None id h k = k
or_short (Some c) id h k = h

from_short : (claims : ℕ → Option Claim) → ((re : ℕ) → IsIdShort (claims re)) → (from n : ℕ) → id_from claims from n < 2 ^ 12
unfolding id_from
from_short claims h from zero = omega arith
from_short claims h from (suc n) = or_short (claims from) (id_from claims (from + 1) n) (h from) (from_short claims h (from + 1) n)

with_short : (v : CommandVerdict) (a : Allocation) (accepted_ones : List Allocation) → IsSectionShort a → AllByRecursion IsSectionShort accepted_ones → AllByRecursion IsSectionShort (with_accepted v a accepted_ones)
with_short Accepted a accepted_ones h k = (h, k)
with_short _ a accepted_ones h k = k

accepted_short : (d : Delays) (cs : List ControlSection) → AllByRecursion IsNarrow cs → AllByRecursion IsSectionShort (accepted d cs)
unfolding accepted
accepted_short d [] h = tt
accepted_short d (s ∷ earlier) h =
    with_short (command_verdict d (accepted d earlier) s) (allocation_of s) (accepted d earlier) h.0.id (accepted_short d earlier h.1)

module _ (c : Config) (planned : List Allocation) (short : AllByRecursion (λ (a : Allocation). a.section < 2 ^ 12) planned) where
  known_short : (side : Side) (arrivals : List Arrival) (cell : Cell) (re : ℕ) → IsIdShort ((known_at side c planned arrivals).claims cell re)
  known_short Ru arrivals cell re = claim_short (accepted_of c arrivals) cell re (accepted_short c.delays (commands_of Ru c arrivals) (commands_narrow Ru c arrivals))
  known_short Du arrivals cell re = claim_short planned cell re short

-- ---- a cell of a symbol

pub record IsSoon (s : ℤ) : Type 0 where
  pub low : neg_ℤ (pos 20000000000) ≤ℤ s
  pub high : s ≤ℤ pos 1689600000000000

near_start : (s : ℤ) → IsSoon s → IsNear s
near_start s is = let low = is.low in let high = is.high in record { low = omega (arith, ints, low); high = omega (arith, ints, high) }

frame_by : (f s : ℤ) → IsSoon s → (f *ℤ FRAME) ≤ℤ s → s <ℤ (f *ℤ FRAME +ℤ pos 76800000000) → (neg_ℤ (pos 1000000) ≤ℤ f) × (f ≤ℤ pos 1000000)
frame_by f s is a b = let low = is.low in let high = is.high in (omega (arith, ints, low, b), omega (arith, ints, high, a))

slot_in : (es : List EndpointConfig) (ep : ℕ) (e : EndpointConfig) (slot : Slot) (symbol : ℕ) (s : ℤ) → IsSoon s → IsSwept es ep e slot symbol s → IsSlot e.numerology slot
slot_in es ep e slot symbol s soon swept =
    let start = symbol_soon e.numerology slot symbol (numerology_short e.numerology) swept.slot_is swept.symbol_is in
    let low = subst (λ (z : ℤ). (slot.frame *ℤ FRAME) ≤ℤ z) swept.starts start.0 in
    let high = subst (λ (z : ℤ). z <ℤ (slot.frame *ℤ FRAME +ℤ pos 76800000000)) swept.starts start.1 in
    let frame = frame_by slot.frame s soon low high in
    record { low = frame.0; high = frame.1; subframe = swept.slot_is.subframe; slot_is = swept.slot_is.slot }

module _ (c : Config) (config : IsConfig c) (planned : List Allocation) (short : AllByRecursion (λ (a : Allocation). a.section < 2 ^ 12) planned) (side : Side) (arrivals : List Arrival) where
  abbrev k : Known
  k = known_at side c planned arrivals

  symbol_placed : (ep : ℕ) (e : EndpointConfig) (slot : Slot) (symbol : ℕ) (s : ℤ) → IsSoon s → IsSwept c.endpoints ep e slot symbol s
      → AllByRecursion (IsPlacedCell c.endpoints) (symbol_report side (known_at side c planned arrivals) ep e slot symbol)
  unfolding symbol_report
  symbol_placed ep e slot symbol s soon swept =
      each_placed 0 e.prbs (cell_report side k ep e slot symbol) (λ prb low high.
      (let cell = cell_at ep (is_down side) slot symbol prb in
      let claims = k.claims cell in
      all_chosen (IsPlacedCell c.endpoints) (used_mask claims == 0) [] (air_cell side e cell (air_of e.numerology slot symbol) claims (k.blocks cell) ∷ []) tt (
        record {
          at = subst IsNear (sym swept.starts) (near_start s soon);
          section = from_short claims (λ re. known_short c planned short side arrivals cell re) 0 12;
          ep = ep;
          endpoint = e;
          named = found c.endpoints ep e config.endpoints.differ swept.endpoint;
          slot = slot_in c.endpoints ep e slot symbol s soon swept;
          symbol = swept.symbol_is;
          prb = omega (arith, high);
        },
        tt,
      )))
    where
      each_placed : (from count : ℕ) (f : ℕ → List AirCell) → ((n : ℕ) → from ≤ n → n < from + count → AllByRecursion (IsPlacedCell c.endpoints) (f n))
          → AllByRecursion (IsPlacedCell c.endpoints) (each from count f)
      each_placed from count f h = each_related (λ xs ys. AllByRecursion (IsPlacedCell c.endpoints) xs) (goes_on (IsPlacedCell c.endpoints)) from count f f h

  tick_placed : (s : ℤ) → IsSoon s → AllByRecursion (IsPlacedCell c.endpoints) (at_tick (symbol_report side (known_at side c planned arrivals)) c.endpoints s)
  tick_placed s soon =
      let g = symbol_report side (known_at side c planned arrivals) in
      at_tick_related (λ xs ys. AllByRecursion (IsPlacedCell c.endpoints) xs) (goes_on (IsPlacedCell c.endpoints)) g g c.endpoints s
      (λ ep e slot symbol swept. symbol_placed ep e slot symbol s soon swept)

-- ---- the events of a tick

cells_placed : (es : List EndpointConfig) (cs : List AirCell) → AllByRecursion (IsPlacedCell es) cs → AllByRecursion (IsPlacedEvent es) (map event.Cell cs)
cells_placed es [] h = tt
cells_placed es (a ∷ cs) h = (h.0, cells_placed es cs h.1)

results_placed : (es : List EndpointConfig) (side : Side) (at : ℤ) (rs : List DelayResult) → AllByRecursion (IsPlacedEvent es) (map (result_event side at) rs)
results_placed es side at [] = tt
results_placed es side at (r ∷ rs) = (tt, results_placed es side at rs)

arrivals_placed : (es : List EndpointConfig) (side : Side) (results : List (List DelayResult)) (xs : List Arrival) → AllByRecursion (IsPlacedEvent es) (arrivals_told side results xs)
unfolding arrivals_told
arrivals_placed es side results [] = tt
arrivals_placed es side [] (a ∷ xs) = (tt, arrivals_placed es side [] xs)
arrivals_placed es side (r ∷ results) (a ∷ xs) =
    (tt, all_both (IsPlacedEvent es) (map (result_event side a.at) r) (arrivals_told side results xs) (results_placed es side a.at r) (arrivals_placed es side results xs))

soon_by : (tick wait : ℤ) → first_clock ≤ℤ tick → tick ≤ℤ end_of_time → pos 0 ≤ℤ wait → wait ≤ℤ pos 2000000 → IsSoon (tick -ℤ (wait *ℤ pos 1536))
soon_by tick wait a b p q = record { low = omega (arith, ints, a, q); high = omega (arith, ints, b, p) }

soon_now : (tick : ℤ) → first_clock ≤ℤ tick → tick ≤ℤ end_of_time → IsSoon tick
soon_now tick a b = record { low = omega (arith, ints, a); high = omega (arith, ints, b) }

start_soon : (side : Side) (c : Config) → IsConfig c → (tick : ℤ) → first_clock ≤ℤ tick → tick ≤ℤ end_of_time → IsSoon (start_of side c.delays tick)
start_soon Ru c config tick a b = soon_now tick a b
start_soon Du c config tick a b =
    let ta4 = config.delays.ta4 in soon_by tick c.delays.ta4.max a b (not_negative c.delays.ta4.min c.delays.ta4.max ta4.low ta4.order) ta4.high

module _ (c : Config) (t : Traffic) (config : IsConfig c) (short : AllByRecursion (λ (a : Allocation). a.section < 2 ^ 12) t.planned) where
  reported_placed : (side : Side) (tick : ℤ) → first_clock ≤ℤ tick → tick ≤ℤ end_of_time → AllByRecursion (IsPlacedEvent c.endpoints) (map event.Cell (cells_reported_at side c t tick))
  reported_placed side tick a b =
      cells_placed c.endpoints (cells_reported_at side c t tick)
      (tick_placed c config t.planned short side (all_arrivals (landings_at side t)) (start_of side c.delays tick) (start_soon side c config tick a b))

  tick_events : (tick : ℤ) → first_clock ≤ℤ tick → tick ≤ℤ end_of_time → AllByRecursion (IsPlacedEvent c.endpoints) (events_at c t tick)
  unfolding events_at
  tick_events tick a b =
      let P = IsPlacedEvent c.endpoints in
      all_both P (map event.Cell (cells_reported_at Ru c t tick)) _ (reported_placed Ru tick a b)
      (all_both P (arrivals_at Ru t tick) _ (arrivals_placed c.endpoints Ru (t.results Ru tick) (landing_at t.at_ru tick))
      (all_both P (arrivals_at Du t tick) (map event.Cell (cells_reported_at Du c t tick)) (arrivals_placed c.endpoints Du (t.results Du tick) (landing_at t.at_du tick))
      (reported_placed Du tick a b)))

  -- ---- all events

  one_count : (b : Bool) (side : Side) (counter : Counter) (n : ℕ) → AllByRecursion (IsPlacedEvent c.endpoints) (let es : List Event = if b then [] else event.Count side counter n ∷ [] in es)
  one_count true side counter n = tt
  one_count false side counter n = (tt, tt)

  counts_placed : (side : Side) → AllByRecursion (IsPlacedEvent c.endpoints) (count_events side c t)
  unfolding count_events
  counts_placed side =
      all_any (IsPlacedEvent c.endpoints) (λ k. count_event side (number_of side c t k) k) (λ k. one_count (number_of side c t k == 0) side k (number_of side c t k)) all_counters

  before_end : (tick : ℤ) → tick <ℤ (first_clock +ℤ pos (int_gap first_clock (end_of_time +ℤ pos 1))) → tick ≤ℤ end_of_time
  before_end tick h = omega (arith, ints, h)

  pub events_placed : AllByRecursion (IsPlacedEvent c.endpoints) (events c t)
  unfolding events
  events_placed =
      let P = IsPlacedEvent c.endpoints in
      let n = int_gap first_clock (end_of_time +ℤ pos 1) in
      all_both P (each_tick first_clock n (events_at c t)) (count_events Ru c t ++ count_events Du c t)
      (each_tick_related (λ (xs : List Event) (ys : List Event). AllByRecursion P xs) (goes_on P) first_clock n (events_at c t) (events_at c t) (λ tick low high. tick_events tick low (before_end tick high)))
      (all_both P (count_events Ru c t) (count_events Du c t) (counts_placed Ru) (counts_placed Du))
