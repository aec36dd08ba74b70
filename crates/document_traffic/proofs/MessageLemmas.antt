-- What is received of delay measurement at a tick is what both units are told then.
use Rattle.std.proofs.Common.{◌≡◌, ℕ, ℤ, pos, zero, suc, ◌+ℤ◌, Bool, true, false, if◌then◌else◌, List, [], ◌∷◌, ◌++◌, refl, ap, ap₂, sym, ◌∙◌}
use Rattle.std.specs.Prelude.{All, map}
use Rattle.std.specs.List.{flat_map}
use Rattle.std.specs.Ordering.{int_eq}
use Rattle.std.proofs.lemmas.List.Concat.{flat_map-append}
use Rattle.std.proofs.lemmas.List.Elements.{All-filter, All-head, All-tail, filter-append}
use Rattle.delay_laws.specs.Ticks.{Flight, copies_at, landing}
use Rattle.delay_measure.specs.declared.message.DelayMessage.{DelayMessage}
use Rattle.document_traffic.specs.Settings.{setting_of}
use Rattle.document_traffic.specs.Landing.{all_delayed, copies_among, copies_in, copy_at, injected_to}
use Rattle.document_traffic.specs.Sending.{Delayed}
use Rattle.replay_laws.specs.Moments.{landing_at}
use Rattle.fh_base.specs.Lists.{each_tick}
use Rattle.unit_model.specs.Meetings.{Arrival}
use Rattle.unit_model.specs.Radiated.{first_clock}
use Rattle.plan_model.proofs.TickLemmas.{ticks_same}
use Rattle.document_traffic.proofs.FrameLemmas.{frames_are_read}
use Rattle.document_traffic.proofs.ListLemmas.{swept, ticks_flat}
use Rattle.document_traffic.specs.MeasuredLaws.{IsDelayMessage, MessagesLand}
use Rattle.document_traffic.proofs.AlikeLemmas.{lands_alike}
use Rattle.document_traffic.proofs.Apart.{all_sent, copies_flown, delayed_then, flight_copy, sent_then}
use Rattle.document_traffic.proofs.MeasuredOrderLemmas.{AreInTicks, flights_in_ticks}
use Rattle.document_traffic.specs.Measured.{delay_frame, delay_messages, exchanges, flights_then, others_of}
use Rattle.unit_model.specs.Times.{tick_count}

-- ---- the messages of what lands at a tick

abbrev pub told_of : Arrival → List DelayMessage
told_of a = delay_messages a.frame

abbrev pub told_at : ℤ → List Arrival → List DelayMessage
told_at t arrivals = flat_map told_of (landing_at arrivals t)

told_append : (t : ℤ) (xs ys : List Arrival) → told_at t (xs ++ ys) ≡ told_at t xs ++ told_at t ys
told_append t xs ys =
    ap (flat_map told_of) (filter-append (λ (a : Arrival). int_eq a.at t) xs ys) ∙ flat_map-append told_of (landing_at xs t) (landing_at ys t)

told_ticks : (t from : ℤ) (n : ℕ) (f : ℤ → List Arrival) → told_at t (each_tick from n f) ≡ each_tick from n (λ s. told_at t (f s))
unfolding each_tick
told_ticks t from zero f = refl
told_ticks t from (suc n) f =
    told_append t (f from) (each_tick (from +ℤ pos 1) n f) ∙ ap (λ (ms : List DelayMessage). told_at t (f from) ++ ms) (told_ticks t (from +ℤ pos 1) n f)

-- of a list with one arrival more in front
told_first : (t : ℤ) (a : Arrival) (arrivals : List Arrival) (b : Bool) → int_eq a.at t ≡ b → told_at t (a ∷ arrivals) ≡ (if b then told_of a else []) ++ told_at t arrivals
told_first t a arrivals true is = rw is refl
told_first t a arrivals false is = rw is refl

-- ---- of the classes c and u

copies_tell_none : (t : ℤ) (x : Delayed) (delays : List ℤ) → delay_messages x.frame.frame ≡ [] → told_at t (map (copy_at x.frame) delays) ≡ []
copies_tell_none t x [] none = refl
copies_tell_none t x (ns ∷ delays) none =
    let a = copy_at x.frame ns in
    told_first t a (map (copy_at x.frame) delays) (int_eq a.at t) refl ∙ ap₂ (λ (ms more : List DelayMessage). ms ++ more) (either (int_eq a.at t)) (copies_tell_none t x delays none)
  where
    either : (b : Bool) → (if b then delay_messages x.frame.frame else []) ≡ []
    either true = none
    either false = refl

all_tell_none : (t : ℤ) (xs : List Delayed) → All (λ (x : Delayed). delay_messages x.frame.frame ≡ []) xs → told_at t (copies_among xs) ≡ []
all_tell_none t [] none = refl
all_tell_none t (x ∷ xs) none =
    told_append t (copies_in x) (copies_among xs)
    ∙ ap₂ (λ (ms more : List DelayMessage). ms ++ more) (copies_tell_none t x x.delays (All-head (λ (y : Delayed). delay_messages y.frame.frame ≡ []) x xs none))
    (all_tell_none t xs (All-tail (λ (y : Delayed). delay_messages y.frame.frame ≡ []) x xs none))

-- ---- of class m

copies_tell : (t : ℤ) (f : Flight) (delays : List ℤ) → delay_messages (delay_frame f.message) ≡ f.message ∷ [] → told_at t (map (flight_copy f) delays) ≡ copies_at delays f.at f.message t
copies_tell t f [] read = refl
copies_tell t f (d ∷ delays) read = go (int_eq (f.at +ℤ d) t) (told_first t (flight_copy f d) (map (flight_copy f) delays) (int_eq (f.at +ℤ d) t) refl) (copies_tell t f delays read)
  where
    go : (b : Bool) → told_at t (map (flight_copy f) (d ∷ delays)) ≡ (if b then delay_messages (delay_frame f.message) else []) ++ told_at t (map (flight_copy f) delays)
        → told_at t (map (flight_copy f) delays) ≡ copies_at delays f.at f.message t
        → told_at t (map (flight_copy f) (d ∷ delays)) ≡ (if b then f.message ∷ copies_at delays f.at f.message t else copies_at delays f.at f.message t)
    go true is rest = is ∙ ap₂ (λ (ms more : List DelayMessage). ms ++ more) read rest
    go false is rest = is ∙ rest

flights_tell : (t : ℤ) (fs : List Flight) → All (λ (f : Flight). IsDelayMessage f.message) fs → told_at t (flat_map copies_flown fs) ≡ landing fs t
flights_tell t [] fit = refl
flights_tell t (f ∷ fs) fit =
    told_append t (copies_flown f) (flat_map copies_flown fs)
    ∙ ap₂ (λ (ms more : List DelayMessage). ms ++ more) (copies_tell t f f.delays (frames_are_read f.message (All-head (λ (g : Flight). IsDelayMessage g.message) f fs fit)))
    (flights_tell t fs (All-tail (λ (g : Flight). IsDelayMessage g.message) f fs fit))

-- ---- so what is received at a tick is what they are told

landing_flat : (t : ℤ) (fs : List Flight) → landing fs t ≡ flat_map (λ (f : Flight). copies_at f.delays f.at f.message t) fs
landing_flat t [] = refl
landing_flat t (f ∷ fs) = ap (λ (ms : List DelayMessage). copies_at f.delays f.at f.message t ++ ms) (landing_flat t fs)

sent_tell : (t : ℤ) (xs : List Delayed) (fs : List Flight) → AreInTicks first_clock tick_count fs → All (λ (x : Delayed). delay_messages x.frame.frame ≡ []) xs → All (λ (f : Flight). IsDelayMessage f.message) fs
    → told_at t (all_sent xs fs) ≡ landing fs t
unfolding all_sent
sent_tell t xs fs ticks none fit =
    let copies = λ (f : Flight). copies_at f.delays f.at f.message t in
    told_ticks t first_clock tick_count (sent_then xs fs)
    ∙ ticks_same first_clock tick_count (λ s. told_at t (sent_then xs fs s)) (λ s. flat_map copies (flights_then fs s)) (λ s low.
    told_append t (copies_among (delayed_then xs s)) (flat_map copies_flown (flights_then fs s))
    ∙ ap₂ (λ (ms more : List DelayMessage). ms ++ more)
    (all_tell_none t (delayed_then xs s) (All-filter (λ (x : Delayed). int_eq x.frame.at s) (λ (x : Delayed). delay_messages x.frame.frame ≡ []) xs none))
    (flights_tell t (flights_then fs s) (All-filter (λ (f : Flight). int_eq f.at s) (λ (f : Flight). IsDelayMessage f.message) fs fit) ∙ landing_flat t (flights_then fs s)))
    ∙ ticks_flat copies first_clock tick_count (flights_then fs)
    ∙ ap (flat_map copies) (swept (λ (f : Flight). f.at) first_clock tick_count fs ticks.rising ticks.within)
    ∙ sym (landing_flat t fs)

pub messages_land : MessagesLand
messages_land d side t distinct =
    let fs = (exchanges d).sent side in
    ap (told_at t) (lands_alike side d)
    ∙ told_append t (all_sent (all_delayed side d) fs) (injected_to side d)
    ∙ ap (λ (ms : List DelayMessage). ms ++ others_of d side t)
    (sent_tell t (all_delayed side d) fs (flights_in_ticks (setting_of d (others_of d)) first_clock tick_count side) distinct.others_have_none distinct.fit)
