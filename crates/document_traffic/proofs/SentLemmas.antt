-- What lands with the frames of delay measurement, and what lands without them.
use Rattle.std.proofs.Common.{◌≡◌, ℤ, Bool, true, false, not, List, [], ◌∷◌, ◌++◌, refl, ap, ap₂, sym, ◌∙◌, append-nil}
use Rattle.std.specs.Prelude.{filter}
use Rattle.std.specs.List.{flat_map}
use Rattle.std.proofs.lemmas.List.Elements.{filter-append}
use Rattle.air_source.specs.declared.events.Side.{Side}
use Rattle.air_source.specs.declared.events.Side.TheVariants.{Ru, Du}
use Rattle.delay_laws.specs.Ticks.{Flight}
use Rattle.document_traffic.proofs.CopyLemmas.{delayed_is}
use Rattle.document_traffic.proofs.OrderLemmas.{leaving_rising}
use Rattle.document_traffic.specs.Landing.{all_delayed, copies_among, copies_in, injected_to, leaving_to, planned_traffic}
use Rattle.document_traffic.specs.Sending.{Delayed, Leaving, SentCounts, counted, delayed_behind, none_sent}
use Rattle.fh_document.specs.declared.document.Document.{Document}
use Rattle.replay_laws.specs.Traffic.{landings_at}
use Rattle.fh_base.specs.Lists.{each_tick}
use Rattle.unit_model.specs.Meetings.{Arrival}
use Rattle.unit_model.specs.Radiated.{first_clock}
use Rattle.unit_model.specs.Times.{end_of_time, tick_count}
use Rattle.unit_model.specs.Uplink.{jobs}
use Rattle.unit_model.specs.declared.allocations.Allocation.{Allocation}
use Rattle.plan_model.proofs.TickLemmas.{ticks_same}
use Rattle.delay_model.proofs.FrameLemmas.{only_delays}
use Rattle.document_traffic.proofs.ListLemmas.{filter_mapped, swept, ticks_filter, ticks_flat}
use Rattle.document_traffic.proofs.RestLemmas.{landings_leave_the_same}
use Rattle.document_traffic.specs.MeasuredLaws.{MeasurementRests, MessagesAreOwed}
use Rattle.document_traffic.proofs.Apart.{all_sent, copies_flown, delayed_then, flight_copy, landings_apart, sent_then}
use Rattle.document_traffic.proofs.AlikeLemmas.{lands_alike}
use Rattle.document_traffic.proofs.MeasuredOrderLemmas.{leaves_within}
use Rattle.document_traffic.specs.Measured.{exchanges, flights_then, has_only_delays}
use Rattle.document_traffic.specs.Replayed.{landings_for}
use Rattle.fh_base.proofs.RisingLemmas.{IsRising}

-- ---- without the frames of class m

delayed_rising : (d : Document) (side : Side) (n : SentCounts) (fs : List Leaving) → IsRising (λ (f : Leaving). f.at) fs → IsRising (λ (x : Delayed). x.frame.at) (delayed_behind d side n fs)
unfolding delayed_behind
delayed_rising d side n [] rising = tt
delayed_rising d side n (f ∷ fs) rising =
    let now = counted f.class n in
    (λ y m. rising.0 y.frame (delayed_is d side now fs y m).there, delayed_rising d side now fs rising.1)

delayed_swept : (side : Side) (d : Document) → each_tick first_clock tick_count (delayed_then (all_delayed side d)) ≡ all_delayed side d
delayed_swept side d =
    swept (λ (x : Delayed). x.frame.at) first_clock tick_count (all_delayed side d) (delayed_rising d side none_sent (leaving_to side d) (leaving_rising side d))
    (λ x m. leaves_within side d x.frame (delayed_is d side none_sent (leaving_to side d) x m).there)

-- the copies of the others, tick by tick
copies_swept : (side : Side) (d : Document) → each_tick first_clock tick_count (λ t. copies_among (delayed_then (all_delayed side d) t)) ≡ copies_among (all_delayed side d)
copies_swept side d =
    let xs = all_delayed side d in
    ticks_flat copies_in first_clock tick_count (delayed_then xs) ∙ ap copies_among (delayed_swept side d)

pub none_flown : (xs : List Delayed) → all_sent xs [] ≡ each_tick first_clock tick_count (λ t. copies_among (delayed_then xs t))
unfolding all_sent
none_flown xs = ticks_same first_clock tick_count (sent_then xs []) (λ t. copies_among (delayed_then xs t)) (λ t low. append-nil (copies_among (delayed_then xs t)))

landing_is : (side : Side) (d : Document) → copies_among (all_delayed side d) ++ injected_to side d ≡ landings_at side (planned_traffic d)
landing_is Ru d = refl
landing_is Du d = refl

pub none_measured : (side : Side) (d : Document) → (exchanges d).sent side ≡ [] → landings_for side d ≡ landings_at side (planned_traffic d)
none_measured side d none =
    lands_alike side d
    ∙ ap (λ (fs : List Flight). all_sent (all_delayed side d) fs ++ injected_to side d) none
    ∙ ap (λ (copies : List Arrival). copies ++ injected_to side d) (none_flown (all_delayed side d) ∙ copies_swept side d)
    ∙ landing_is side d

-- ---- without the frames with messages of delay measurement alone

abbrev pub stays : Arrival → Bool
stays a = not (has_only_delays a.frame)

left_out : (a : Arrival) → stays a ≡ false → has_only_delays a.frame ≡ true
left_out a = go (has_only_delays a.frame)
  where
    go : (b : Bool) → not b ≡ false → b ≡ true
    go true h = refl
    go false h = absurd cc

flown_left_out : (f : Flight) → filter stays (copies_flown f) ≡ []
flown_left_out f = filter_mapped stays (flight_copy f) (λ t. ap not (only_delays f.message)) f.delays

all_flown_left_out : (fs : List Flight) → filter stays (flat_map copies_flown fs) ≡ []
all_flown_left_out [] = refl
all_flown_left_out (f ∷ fs) =
    filter-append stays (copies_flown f) (flat_map copies_flown fs) ∙ ap₂ (λ (xs ys : List Arrival). xs ++ ys) (flown_left_out f) (all_flown_left_out fs)

sent_stays : (xs : List Delayed) (fs : List Flight) → filter stays (all_sent xs fs) ≡ filter stays (each_tick first_clock tick_count (λ t. copies_among (delayed_then xs t)))
unfolding all_sent
sent_stays xs fs =
    let copies = λ (t : ℤ). copies_among (delayed_then xs t) in
    ticks_filter stays first_clock tick_count (sent_then xs fs)
    ∙ ticks_same first_clock tick_count (λ t. filter stays (sent_then xs fs t)) (λ t. filter stays (copies t)) (λ t low.
    filter-append stays (copies t) (flat_map copies_flown (flights_then fs t))
    ∙ ap (λ (ys : List Arrival). filter stays (copies t) ++ ys) (all_flown_left_out (flights_then fs t))
    ∙ append-nil (filter stays (copies t)))
    ∙ sym (ticks_filter stays first_clock tick_count copies)

same_stay : (side : Side) (d : Document) → filter stays (landings_apart side d) ≡ filter stays (landings_at side (planned_traffic d))
same_stay side d =
    let xs = all_delayed side d in
    let fs = (exchanges d).sent side in
    let injected = injected_to side d in
    filter-append stays (all_sent xs fs) injected
    ∙ ap (λ (ys : List Arrival). ys ++ filter stays injected) (sent_stays xs fs ∙ ap (filter stays) (copies_swept side d))
    ∙ sym (filter-append stays (copies_among xs) injected)
    ∙ ap (filter stays) (landing_is side d)

pub measurement_rests : MeasurementRests
measurement_rests d side =
    landings_leave_the_same d.config stays (landings_for side d) (landings_at side (planned_traffic d)) left_out (ap (filter stays) (lands_alike side d) ∙ same_stay side d) side

pub messages_are_owed : MessagesAreOwed
messages_are_owed d = ap (λ (claimed : List Allocation). jobs d.config.endpoints claimed end_of_time) (measurement_rests d Ru).accepted
