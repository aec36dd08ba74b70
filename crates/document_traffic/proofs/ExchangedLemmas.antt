-- The delays that a replay tells are those that became known to both units.
use Rattle.std.proofs.Common.{◌≡◌, ℕ, zero, suc, ℤ, pos, ◌+◌, ◌+ℤ◌, ◌≤ℤ◌, Bool, true, false, if◌then◌else◌, List, [], ◌∷◌, ◌++◌, refl, sym, ap, ap₂, ◌∙◌, arith, append-nil, append_assoc}
use Rattle.std.specs.Prelude.{All, ◌==◌, filter, map}
use Rattle.std.specs.Int.{int_gap}
use Rattle.std.specs.List.{flat_map}
use Rattle.std.proofs.lemmas.Int.{ints}
use Rattle.std.proofs.lemmas.List.Elements.{All-head, All-tail, filter-append}
use Rattle.air_source.specs.Units.{same_side}
use Rattle.air_source.specs.declared.events.AirCell.{AirCell}
use Rattle.air_source.specs.declared.events.Event.{Event}
use Rattle.air_source.specs.declared.events.Event.TheVariants.{Cell, Count}
use Rattle.air_source.specs.declared.events.Side.{Side}
use Rattle.air_source.specs.declared.events.Side.TheVariants.{Ru, Du}
use Rattle.delay_laws.proofs.Knowing.{known_grows}
use Rattle.delay_laws.proofs.Quiet.{before}
use Rattle.delay_laws.specs.Known.{known, known_while}
use Rattle.delay_laws.specs.Ticks.{Begin, Hearing, Setting, State, arriving, begin_heard, came_heard, due, hearing, landing, state, told_all, told_one}
use Rattle.delay_measure.specs.declared.message.DelayMessage.{DelayMessage}
use Rattle.fh_document.specs.declared.document.Document.{Document}
use Rattle.document_traffic.specs.Laws.{IsReplayable}
use Rattle.fault_counters.specs.Names.{all_counters}
use Rattle.fault_counters.specs.declared.kinds.Counter.{Counter}
use Rattle.replay_laws.proofs.CameLemmas.{landed_then}
use Rattle.unit_model.proofs.ToldLemmas.{none_told, told_next}
use Rattle.replay_laws.specs.Events.{arrivals_at, cells_reported_at, count_event, count_events, events, events_at, number_of}
use Rattle.unit_model.specs.Events.{arrival_told, arrivals_told, result_event}
use Rattle.replay_laws.specs.Moments.{landing_at}
use Rattle.replay_laws.specs.Traffic.{Traffic}
use Rattle.unit_model.specs.declared.results.DelayResult.{DelayResult}
use Rattle.fh_base.specs.Lists.{each_tick}
use Rattle.unit_model.specs.Meetings.{Arrival}
use Rattle.unit_model.specs.Radiated.{first_clock}
use Rattle.unit_model.specs.Times.{tick_count}
use Rattle.window_config.specs.declared.config.Config.{Config}
use Rattle.document_traffic.proofs.SideLemmas.{all_known, begins_told, frames_told, messages_of, others_pass, results_known}
use Rattle.document_traffic.proofs.TurnLemmas.{comes_as_told, comes_in, heard_next, nothing_heard, own, side_in}
use Rattle.document_traffic.specs.Doings.{Doings, results_of, with_begins, with_frame}
use Rattle.document_traffic.specs.Exchanged.{delays_known, is_delay_event}
use Rattle.document_traffic.specs.Replayed.{begun, doings_in, landings_for, traffic_of}
use Rattle.document_traffic.specs.Sides.{IsSideOf}
use Rattle.document_traffic.specs.Measured.{delay_messages}
use Rattle.fh_base.proofs.EachLemmas.{gap_is, ticks_split}
use Rattle.generated_laws.proofs.Told.{first_few as same_count}
use Rattle.fh_base.proofs.Orders.{one_moved}

-- ---- the delays among events

abbrev delays : List Event → List Event
delays es = filter is_delay_event es

delays_append : (xs ys : List Event) → delays (xs ++ ys) ≡ delays xs ++ delays ys
delays_append xs ys = filter-append is_delay_event xs ys

cells_tell_none : (cells : List AirCell) → delays (map Cell cells) ≡ []
cells_tell_none [] = refl
cells_tell_none (cell ∷ cells) = cells_tell_none cells

results_tell_all : (side : Side) (at : ℤ) (rs : List DelayResult) → delays (map (result_event side at) rs) ≡ map (result_event side at) rs
results_tell_all side at [] = refl
results_tell_all side at (r ∷ rs) = ap (λ (es : List Event). result_event side at r ∷ es) (results_tell_all side at rs)

one_tells_none : (side : Side) (n : ℕ) (k : Counter) → delays (count_event side n k) ≡ []
one_tells_none side n k = go (n == 0)
  where
    go : (b : Bool) → delays (if b then [] else Count side k n ∷ []) ≡ []
    go true = refl
    go false = refl

each_tells_none : (side : Side) (n : Counter → ℕ) (ks : List Counter) → delays (flat_map (λ k. count_event side (n k) k) ks) ≡ []
each_tells_none side n [] = refl
each_tells_none side n (k ∷ ks) =
    delays_append (count_event side (n k) k) (flat_map (λ j. count_event side (n j) j) ks)
    ∙ ap₂ (λ (xs ys : List Event). xs ++ ys) (one_tells_none side (n k) k) (each_tells_none side n ks)

counts_tell_none : (side : Side) (c : Config) (x : Traffic) → delays (count_events side c x) ≡ []
unfolding count_events
counts_tell_none side c x = each_tells_none side (number_of side c x) all_counters

-- ---- the frames of a tick

begins_know_none : (w : Setting) (h : Hearing) (bs : List Begin) → known_while w h (map begin_heard bs) ≡ []
begins_know_none w h [] = refl
begins_know_none w h (b ∷ bs) = begins_know_none w (told_one w h (begin_heard b)) bs

-- a frame tells its results, which become known while its messages are told
frame_tells : (w : Setting) (side : Side) (t : ℤ) (h : Hearing) (x : Doings) (a : Arrival) → a.at ≡ t → IsSideOf side h x
    → delays (arrival_told side a (with_frame (w.comps side) t x a.frame).results) ≡ known_while w h (map (came_heard side t) (delay_messages a.frame))
frame_tells w side t h x a here s =
    let results = (with_frame (w.comps side) t x a.frame).results in
    results_tell_all side a.at results
    ∙ ap (λ (at : ℤ). map (result_event side at) results) here
    ∙ results_known w side h x t a.frame s

frames_tell : (w : Setting) (side : Side) (t : ℤ) (h : Hearing) (x : Doings) (arrivals : List Arrival) → All (λ a. a.at ≡ t) arrivals → IsSideOf side h x
    → delays (arrivals_told side (results_of (w.comps side) t x arrivals) arrivals) ≡ known_while w h (map (came_heard side t) (messages_of arrivals))
frames_tell w side t h x [] here s = ap delays (none_told side [])
frames_tell w side t h x (a ∷ more) here s =
    let P = λ (b : Arrival). b.at ≡ t in
    let next = with_frame (w.comps side) t x a.frame in
    let ms = map (came_heard side t) (delay_messages a.frame) in
    let rest = results_of (w.comps side) t next more in
    ap delays (told_next side next.results rest a more)
    ∙ delays_append (arrival_told side a next.results) (arrivals_told side rest more)
    ∙ ap₂ (λ (xs ys : List Event). xs ++ ys) (frame_tells w side t h x a (All-head P a more here) s)
    (frames_tell w side t (told_all w h ms) next more (All-tail P a more here) (frames_told w side h x t a.frame s))
    ∙ sym (all_known w side t h (delay_messages a.frame) (messages_of more))

-- ---- a tick of both units

-- what a side has once all that begins at a tick has begun
abbrev started : Setting → Side → ℤ → Doings → Doings
started w side t x = with_begins (w.comps side) x (filter (λ b. same_side side b.side) (due t w.begins))

-- what both hear of a tick's begins, and then what the radio unit hears
abbrev hearing_begun : Setting → ℤ → State → Hearing
hearing_begun w t s = told_all w (before s) (map begin_heard (due t w.begins))

abbrev hearing_both : Setting → ℤ → State → Hearing
hearing_both w t s = told_all w (hearing_begun w t s) (arriving w s Ru t)

known_at_tick : (w : Setting) (t : ℤ) (s : State)
    → known w (hearing w t s).heard ≡ known w s.heard ++ (known_while w (hearing_begun w t s) (arriving w s Ru t) ++ known_while w (hearing_both w t s) (arriving w s Du t))
unfolding hearing
known_at_tick w t s =
    let bs = map begin_heard (due t w.begins) in
    let ru = known_while w (hearing_begun w t s) (arriving w s Ru t) in
    let du = known_while w (hearing_both w t s) (arriving w s Du t) in
    known_grows w (hearing_both w t s) (arriving w s Du t)
    ∙ ap (λ (es : List Event). es ++ du)
    (known_grows w (hearing_begun w t s) (arriving w s Ru t)
    ∙ ap (λ (es : List Event). es ++ ru)
    (known_grows w (before s) bs ∙ ap (λ (es : List Event). known w s.heard ++ es) (begins_know_none w (before s) (due t w.begins)) ∙ append-nil (known w s.heard)))
    ∙ append_assoc (known w s.heard) ru du

-- the messages of these frames are received at a side at a tick
abbrev Come : Setting → State → Side → ℤ → List Arrival → Type 0
Come w s side t arrivals = messages_of arrivals ≡ landing (s.sent side) t ++ w.others side t

radio_tells : (w : Setting) (t : ℤ) (s : State) (x : Doings) (arrivals : List Arrival) → All (λ a. a.at ≡ t) arrivals → Come w s Ru t arrivals → IsSideOf Ru (before s) x
    → delays (arrivals_told Ru (results_of (w.comps Ru) t (started w Ru t x) arrivals) arrivals) ≡ known_while w (hearing_begun w t s) (arriving w s Ru t)
radio_tells w t s x arrivals here come is =
    frames_tell w Ru t (hearing_begun w t s) (started w Ru t x) arrivals here (begins_told w Ru (before s) x (due t w.begins) is)
    ∙ ap (λ (ms : List DelayMessage). known_while w (hearing_begun w t s) (map (came_heard Ru t) ms)) come

distributed_tells : (w : Setting) (t : ℤ) (s : State) (x : Doings) (arrivals : List Arrival) → All (λ a. a.at ≡ t) arrivals → Come w s Du t arrivals → IsSideOf Du (before s) x
    → delays (arrivals_told Du (results_of (w.comps Du) t (started w Du t x) arrivals) arrivals) ≡ known_while w (hearing_both w t s) (arriving w s Du t)
distributed_tells w t s x arrivals here come is =
    let passed = others_pass w Ru t (hearing_begun w t s) (started w Du t x) (landing (s.sent Ru) t ++ w.others Ru t) (begins_told w Du (before s) x (due t w.begins) is) in
    frames_tell w Du t (hearing_both w t s) (started w Du t x) arrivals here passed
    ∙ ap (λ (ms : List DelayMessage). known_while w (hearing_both w t s) (map (came_heard Du t) ms)) come

-- cells tell no delay, so a tick's are those of its frames
frames_alone : (c : Config) (x : Traffic) (t : ℤ) → delays (events_at c x t) ≡ delays (arrivals_at Ru x t) ++ delays (arrivals_at Du x t)
unfolding events_at
frames_alone c x t =
    let first = map Cell (cells_reported_at Ru c x t) in
    let last = map Cell (cells_reported_at Du c x t) in
    let ru = arrivals_at Ru x t in
    let du = arrivals_at Du x t in
    delays_append first (ru ++ (du ++ last))
    ∙ ap₂ (λ (xs ys : List Event). xs ++ ys) (cells_tell_none (cells_reported_at Ru c x t))
    (delays_append ru (du ++ last)
    ∙ ap (λ (es : List Event). delays ru ++ es)
    (delays_append du last ∙ ap (λ (es : List Event). delays du ++ es) (cells_tell_none (cells_reported_at Du c x t)) ∙ append-nil (delays du)))

-- ---- tick by tick

ticks_gone : (n : ℕ) → int_gap first_clock (first_clock +ℤ pos n) ≡ n
ticks_gone n = same_count first_clock (int_gap first_clock (first_clock +ℤ pos n)) n (gap_is first_clock (first_clock +ℤ pos n) (later first_clock n))
  where
    later : (first : ℤ) (k : ℕ) → first ≤ℤ (first +ℤ pos k)
    later first k = omega (arith, ints)

no_tick : {A : Type 0} (from : ℤ) (f : ℤ → List A) → each_tick from zero f ≡ []
unfolding each_tick
no_tick from f = refl

one_tick : {A : Type 0} (from : ℤ) (f : ℤ → List A) → each_tick from 1 f ≡ f from
unfolding each_tick
one_tick from f = append-nil (f from)

tick_more : {A : Type 0} (from : ℤ) (n : ℕ) (f : ℤ → List A) → each_tick from (suc n) f ≡ each_tick from n f ++ f (from +ℤ pos n)
tick_more from n f =
    let count : suc n ≡ n + 1 = omega arith in
    ap (λ (k : ℕ). each_tick from k f) count ∙ ticks_split from n 1 f ∙ ap (λ xs. each_tick from n f ++ xs) (one_tick (from +ℤ pos n) f)

module _ (d : Document) (is : IsReplayable d) where
  -- the frames of a tick with what a unit has of it then
  frames_at : (side : Side) (n : ℕ)
      → arrivals_at side (traffic_of d) (first_clock +ℤ pos n)
      ≡ arrivals_told side (results_of ((own d).comps side) (first_clock +ℤ pos n) (begun d side (first_clock +ℤ pos n) (doings_in d side n)) (landing_at (landings_for side d) (first_clock +ℤ pos n)))
      (landing_at (landings_for side d) (first_clock +ℤ pos n))
  frames_at Ru n =
      let t : ℤ = first_clock +ℤ pos n in
      let landed = landing_at (landings_for Ru d) t in
      ap (λ (k : ℕ). arrivals_told Ru (results_of ((own d).comps Ru) t (begun d Ru t (doings_in d Ru k)) landed) landed) (ticks_gone n)
  frames_at Du n =
      let t : ℤ = first_clock +ℤ pos n in
      let landed = landing_at (landings_for Du d) t in
      ap (λ (k : ℕ). arrivals_told Du (results_of ((own d).comps Du) t (begun d Du t (doings_in d Du k)) landed) landed) (ticks_gone n)

  tick_tells : (n m : ℕ) → n + suc m ≡ tick_count
      → known (own d) (state (own d) first_clock n).heard ++ delays (events_at d.config (traffic_of d) (first_clock +ℤ pos n)) ≡ known (own d) (state (own d) first_clock (suc n)).heard
  tick_tells n m count =
      let w = own d in
      let t : ℤ = first_clock +ℤ pos n in
      let s = state w first_clock n in
      let told = comes_as_told d is in
      let earlier = known w s.heard in
      ap (λ (es : List Event). earlier ++ es)
      (frames_alone d.config (traffic_of d) t
      ∙ ap₂ (λ (xs ys : List Event). xs ++ ys)
      (ap delays (frames_at Ru n)
      ∙ radio_tells w t s (doings_in d Ru n) (landing_at (landings_for Ru d) t) (landed_then (landings_for Ru d) t) (comes_in d is told Ru n (suc m) count) (side_in d is told Ru n (suc m) count))
      (ap delays (frames_at Du n)
      ∙ distributed_tells w t s (doings_in d Du n) (landing_at (landings_for Du d) t) (landed_then (landings_for Du d) t) (comes_in d is told Du n (suc m) count) (side_in d is told Du n (suc m) count)))
      ∙ sym (ap (known w) (heard_next w first_clock n) ∙ known_at_tick w t s)

  told_so_far : (n m : ℕ) → n + m ≡ tick_count → delays (each_tick first_clock n (events_at d.config (traffic_of d))) ≡ known (own d) (state (own d) first_clock n).heard
  told_so_far zero m count = ap delays (no_tick first_clock (events_at d.config (traffic_of d))) ∙ sym (ap (known (own d)) (nothing_heard (own d) first_clock))
  told_so_far (suc n) m count =
      let f = events_at d.config (traffic_of d) in
      let t : ℤ = first_clock +ℤ pos n in
      ap delays (tick_more first_clock n f)
      ∙ delays_append (each_tick first_clock n f) (f t)
      ∙ ap (λ (es : List Event). es ++ delays (f t)) (told_so_far n (suc m) (one_moved n m tick_count count))
      ∙ tick_tells n m (one_moved n m tick_count count)

pub delay_events_are_known : (d : Document) → IsReplayable d → filter is_delay_event (events d.config (traffic_of d)) ≡ delays_known d
unfolding events
delay_events_are_known d is =
    let c = d.config in
    let x = traffic_of d in
    let all = each_tick first_clock tick_count (events_at c x) in
    let counts = count_events Ru c x ++ count_events Du c x in
    let none : delays counts ≡ [] =
    delays_append (count_events Ru c x) (count_events Du c x) ∙ ap₂ (λ (xs ys : List Event). xs ++ ys) (counts_tell_none Ru c x) (counts_tell_none Du c x) in
    delays_append all counts
    ∙ ap₂ (λ (xs ys : List Event). xs ++ ys) (told_so_far d is tick_count 0 (whole tick_count)) none
    ∙ append-nil (known (own d) (state (own d) first_clock tick_count).heard)
  where
    whole : (n : ℕ) → n + 0 ≡ n
    whole n = omega arith
