-- The delays that a replay tells are the results of the frames that land, each after its frame.
use Rattle.std.proofs.Common.{◌≡◌, ℕ, ℤ, zero, suc, pos, ◌+ℤ◌, ◌≤ℤ◌, List, [], ◌∷◌, ◌++◌, refl, sym, ap, ap₂, ◌∙◌, subst, inl, inr, append_assoc, append-nil}
use Rattle.std.specs.Prelude.{All, Contains, ◌⊎◌, map, Some, slice_get, slice_index_or, ◌==◌, if◌then◌else◌, Bool, true, false}
use Rattle.std.specs.Int.{int_gap}
use Rattle.std.specs.List.{flat_map}
use Rattle.std.proofs.lemmas.Option.{same_Some}
use Rattle.std.proofs.lemmas.List.Elements.{All-nil, All-cons, All-append, All-head, All-tail, Contains-append_right}
use Rattle.air_source.specs.declared.events.AirCell.{AirCell}
use Rattle.air_source.specs.declared.events.Event.{Event}
use Rattle.air_source.specs.declared.events.Event.TheVariants as event
use Rattle.air_source.specs.declared.events.Side.{Side}
use Rattle.air_source.specs.declared.events.Side.TheVariants.{Ru, Du}
use Rattle.fault_counters.specs.Names.{all_counters}
use Rattle.fault_counters.specs.declared.kinds.Counter.{Counter}
use Rattle.window_config.specs.declared.config.Config.{Config}
use Rattle.unit_model.specs.Meetings.{Arrival}
use Rattle.unit_model.specs.Radiated.{first_clock}
use Rattle.unit_model.proofs.SweepLemmas.{IsKept, each_tick_related}
use Rattle.replay_laws.specs.Events.{arrivals_at, cells_reported_at, count_event, count_events, events, events_at, events_between, number_of}
use Rattle.unit_model.specs.Events.{arrival_event, arrival_told, arrivals_told, result_event}
use Rattle.replay_laws.specs.Moments.{end_of_time, landing_at}
use Rattle.replay_laws.specs.Traffic.{Traffic, landings_at}
use Rattle.unit_model.specs.declared.results.DelayResult.{DelayResult}
use Rattle.replay_laws.proofs.CameLemmas.{landed_then}
use Rattle.replay_laws.proofs.TickLemmas.{tick_alone, ticks_append}
use Rattle.unit_model.proofs.ToldLemmas.{Results, none_told, told_next, told_next_alone}
use Rattle.replay_laws.specs.Delays.{DelaysAreResults, DelaysFollowFrames, FollowsFrame, FramesAreTold, IsAmong, IsBehindFrame, IsLanding, IsResult, StandTogether, given_by}
use Rattle.replay_laws.proofs.GivenLemmas.{first_inside, later_inside}
use Rattle.fh_base.proofs.Orders.{at_most, next_order, next_is_later}

-- ---- one of several, and those before it

-- it is one of the first part, or one of the second
record InFirst {A : Type 0} (xs before : List A) (m : A) : Type 0 where
  after : List A
  is : xs ≡ before ++ m ∷ after

record InSecond {A : Type 0} (xs ys before : List A) (m : A) : Type 0 where
  middle : List A
  after : List A
  front : before ≡ xs ++ middle
  is : ys ≡ middle ++ m ∷ after

parts : {A : Type 0} (xs ys before : List A) (m : A) (after : List A) → xs ++ ys ≡ before ++ m ∷ after → InFirst xs before m ⊎ InSecond xs ys before m
parts [] ys before m after e = inr (record { middle = before; after = after; front = refl; is = e })
parts (x ∷ xs) ys [] m after e =
    let same : x ≡ m = cc in
    inl (record { after = xs; is = ap (λ (z : _). z ∷ xs) same })
parts (x ∷ xs) ys (b ∷ before) m after e =
    let same : x ≡ b = cc in
    elim (parts xs ys before m after cc) [
      | inl f ↦ inl (record { after = f.after; is = ap (λ (z : _). z ∷ xs) same ∙ ap (λ (zs : List _). b ∷ zs) f.is })
      | inr s ↦ inr (record {
        middle = s.middle;
        after = s.after;
        front = ap (λ (zs : List _). b ∷ zs) s.front ∙ ap (λ (z : _). z ∷ (xs ++ s.middle)) (sym same);
        is = s.is;
      })
    ]

-- what holds of each, by what precedes it, holds of all
each_holds : {A : Type 0} (P : A → Type 0) (xs : List A) → ((before : List A) (x : A) (after : List A) → xs ≡ before ++ x ∷ after → P x) → All P xs
each_holds P [] h = All-nil P
each_holds P (x ∷ xs) h = All-cons P x xs (h [] x xs refl) (each_holds P xs (λ before y after e. h (x ∷ before) y after (ap (λ (zs : List _). x ∷ zs) e)))

pub it_holds : {A : Type 0} (P : A → Type 0) (before : List A) (m : A) (after : List A) → All P (before ++ m ∷ after) → P m
it_holds P [] m after h = All-head P m after h
it_holds P (b ∷ before) m after h = it_holds P before m after (All-tail P b (before ++ m ∷ after) h)

-- one of some that were made of others
record IsMade {A B : Type 0} (f : A → B) (xs : List A) (before : List B) (m : B) : Type 0 where
  earlier : List A
  x : A
  later : List A
  among : xs ≡ earlier ++ x ∷ later
  front : before ≡ map f earlier
  is : m ≡ f x

made_next : {A B : Type 0} (f : A → B) (x : A) (xs : List A) (b : B) (before : List B) (m : B) → f x ≡ b → IsMade f xs before m → IsMade f (x ∷ xs) (b ∷ before) m
made_next f x xs b before m same rest = record {
  earlier = x ∷ rest.earlier;
  x = rest.x;
  later = rest.later;
  among = ap (λ (zs : List _). x ∷ zs) rest.among;
  front = ap₂ (λ (z : _) (zs : List _). z ∷ zs) (sym same) rest.front;
  is = rest.is;
}

made : {A B : Type 0} (f : A → B) (xs : List A) (before : List B) (m : B) (after : List B) → map f xs ≡ before ++ m ∷ after → IsMade f xs before m
made f [] [] m after e = absurd cc
made f [] (b ∷ before) m after e = absurd cc
made f (x ∷ xs) [] m after e = record { earlier = []; x = x; later = xs; among = refl; front = refl; is = cc }
made f (x ∷ xs) (b ∷ before) m after e =
    let same : f x ≡ b = cc in
    made_next f x xs b before m same (made f xs before m after cc)

-- ---- each delay follows its frame

abbrev AllFollow : Traffic → List Event → Type 0
AllFollow t es = (before : List Event) (x : Event) (after : List Event) → es ≡ before ++ x ∷ after → FollowsFrame t before x

behind_more : (t : Traffic) (side : Side) (tick : ℤ) (r : DelayResult) (xs told : List Event) → IsBehindFrame t side tick r told → IsBehindFrame t side tick r (xs ++ told)
behind_more t side tick r xs told h =
    let mine = arrival_event side h.frame ∷ map (result_event side tick) h.earlier in
    record {
      place = h.place;
      frame = h.frame;
      landed = h.landed;
      earlier = h.earlier;
      later = h.later;
      gave = h.gave;
      front = xs ++ h.front;
      is = ap (λ (es : List Event). xs ++ es) h.is ∙ sym (append_assoc xs h.front mine);
    }

follows_more : (t : Traffic) (xs told : List Event) (x : Event) → FollowsFrame t told x → FollowsFrame t (xs ++ told) x
follows_more t xs told (event.Cell a) h = tt
follows_more t xs told (event.Delay at side id value) h = behind_more t side at.0 (record { id = id; value = value }) xs told h
follows_more t xs told (event.Arrival side at frame) h = tt
follows_more t xs told (event.Count side k value) h = tt

follow-append : (t : Traffic) (xs ys : List Event) → AllFollow t xs → AllFollow t ys → AllFollow t (xs ++ ys)
follow-append t xs ys p q before x after e =
    elim (parts xs ys before x after e) [
      | inl f ↦ p before x f.after f.is
      | inr s ↦ subst (λ (told : List Event). FollowsFrame t told x) (sym s.front) (follows_more t xs s.middle x (q s.middle x s.after s.is))
    ]

-- where no delay is told
abbrev TellsNoDelay : Event → Type 0
TellsNoDelay (event.Cell a) = Unit {0}
TellsNoDelay (event.Delay at side id value) = ⊥
TellsNoDelay (event.Arrival side at frame) = Unit {0}
TellsNoDelay (event.Count side k value) = Unit {0}

no_delay_follows : (t : Traffic) (told : List Event) (x : Event) → TellsNoDelay x → FollowsFrame t told x
no_delay_follows t told (event.Cell a) h = tt
no_delay_follows t told (event.Delay at side id value) h = absurd h
no_delay_follows t told (event.Arrival side at frame) h = tt
no_delay_follows t told (event.Count side k value) h = tt

none_follow : (t : Traffic) (es : List Event) → All TellsNoDelay es → AllFollow t es
none_follow t es h before x after e =
    no_delay_follows t before x (it_holds TellsNoDelay before x after (subst (All TellsNoDelay) e h))

cells_follow : (t : Traffic) (cs : List AirCell) → AllFollow t (map event.Cell cs)
cells_follow t cs = none_follow t (map event.Cell cs) (no_delays cs)
  where
    no_delays : (cs : List AirCell) → All TellsNoDelay (map event.Cell cs)
    no_delays [] = All-nil TellsNoDelay
    no_delays (a ∷ rest) = All-cons TellsNoDelay (event.Cell a) (map event.Cell rest) tt (no_delays rest)

one_count : (side : Side) (k : Counter) (n : ℕ) (b : Bool) → All TellsNoDelay (if b then [] else event.Count side k n ∷ [])
one_count side k n true = All-nil TellsNoDelay
one_count side k n false = All-cons TellsNoDelay (event.Count side k n) [] tt (All-nil TellsNoDelay)

counts_tell_no_delay : (side : Side) (f : Counter → ℕ) (ks : List Counter) → All TellsNoDelay (flat_map (λ k. count_event side (f k) k) ks)
counts_tell_no_delay side f [] = All-nil TellsNoDelay
counts_tell_no_delay side f (k ∷ ks) =
    All-append TellsNoDelay (count_event side (f k) k) (flat_map (λ j. count_event side (f j) j) ks) (one_count side k (f k) (f k == 0)) (counts_tell_no_delay side f ks)

counts_follow : (side : Side) (c : Config) (t : Traffic) → AllFollow t (count_events side c t)
unfolding count_events
counts_follow side c t = none_follow t (count_events side c t) (counts_tell_no_delay side (number_of side c t) all_counters)

nothing_follows : (t : Traffic) → AllFollow t []
nothing_follows t = none_follow t [] (All-nil TellsNoDelay)

-- ---- at a tick

module _ (side : Side) (t : Traffic) (tick : ℤ) where
  -- one of a frame's results
  result_follows : (place : ℕ) (x : Arrival) (r : List DelayResult) → IsLanding side t tick place x → given_by side t tick place ≡ r → x.at ≡ tick → (b : Event) (before : List Event) (y : Event)
      → arrival_event side x ≡ b → IsMade (result_event side x.at) r before y → FollowsFrame t (b ∷ before) y
  result_follows place x r landed gave at_is b before y first one =
      let front : before ≡ map (result_event side tick) one.earlier = one.front ∙ ap (λ (u : ℤ). map (result_event side u) one.earlier) at_is in
      let behind : IsBehindFrame t side tick one.x (b ∷ before) = record {
        place = place;
        frame = x;
        landed = landed;
        earlier = one.earlier;
        later = one.later;
        gave = gave ∙ one.among;
        front = [];
        is = ap₂ (λ (z : Event) (zs : List Event). z ∷ zs) (sym first) front;
      } in
      subst (FollowsFrame t (b ∷ before)) (sym one.is) (subst (λ (u : ℤ). IsBehindFrame t side u one.x (b ∷ before)) (sym at_is) behind)

  -- a frame with its results
  frame_follows : (place : ℕ) (x : Arrival) (r : List DelayResult) → IsLanding side t tick place x → given_by side t tick place ≡ r → x.at ≡ tick → AllFollow t (arrival_told side x r)
  frame_follows place x r landed gave at_is [] y after e = subst (FollowsFrame t []) same tt
    where
      same : arrival_event side x ≡ y
      same = cc
  frame_follows place x r landed gave at_is (b ∷ before) y after e =
      let first : arrival_event side x ≡ b = cc in
      result_follows place x r landed gave at_is b before y first (made (result_event side x.at) r before y after cc)

  -- frames of the tick, each of these places
  frames_follow : (places : ℕ → ℕ) (results : Results) (xs : List Arrival) → ((k : ℕ) (a : Arrival) → slice_get xs k ≡ Some a → IsLanding side t tick (places k) a)
      → ((k : ℕ) → given_by side t tick (places k) ≡ slice_index_or results k []) → All (λ a. a.at ≡ tick) xs
      → AllFollow t (arrivals_told side results xs)
  frames_follow places results [] landed gave times = subst (AllFollow t) (sym (none_told side results)) (nothing_follows t)
  frames_follow places [] (x ∷ xs) landed gave times =
      let At = λ (a : Arrival). a.at ≡ tick in
      subst (AllFollow t) (sym (told_next_alone side x xs))
      (follow-append t (arrival_told side x []) (arrivals_told side [] xs)
      (frame_follows (places 0) x [] (landed 0 x refl) (gave 0) (All-head At x xs times))
      (frames_follow (λ k. places (suc k)) [] xs (λ k. landed (suc k)) (λ k. gave (suc k)) (All-tail At x xs times)))
  frames_follow places (r ∷ results) (x ∷ xs) landed gave times =
      let At = λ (a : Arrival). a.at ≡ tick in
      subst (AllFollow t) (sym (told_next side r results x xs))
      (follow-append t (arrival_told side x r) (arrivals_told side results xs)
      (frame_follows (places 0) x r (landed 0 x refl) (gave 0) (All-head At x xs times))
      (frames_follow (λ k. places (suc k)) results xs (λ k. landed (suc k)) (λ k. gave (suc k)) (All-tail At x xs times)))

  arrivals_follow : AllFollow t (arrivals_at side t tick)
  arrivals_follow =
      let landings = landings_at side t in
      frames_follow (λ k. k) (t.results side tick) (landing_at landings tick) (λ k a is. is) (λ k. refl) (landed_then landings tick)

tick_follows : (c : Config) (t : Traffic) (tick : ℤ) → AllFollow t (events_at c t tick)
unfolding events_at
tick_follows c t tick =
    let ru = map event.Cell (cells_reported_at Ru c t tick) in
    let came = arrivals_at Ru t tick in
    let taken = arrivals_at Du t tick in
    let du = map event.Cell (cells_reported_at Du c t tick) in
    follow-append t ru (came ++ (taken ++ du)) (cells_follow t (cells_reported_at Ru c t tick))
    (follow-append t came (taken ++ du) (arrivals_follow Ru t tick) (follow-append t taken du (arrivals_follow Du t tick) (cells_follow t (cells_reported_at Du c t tick))))

follow_kept : (t : Traffic) → IsKept {A = Event} {B = Event} (λ xs ys. AllFollow t xs)
follow_kept t = record { none = nothing_follows t; more = λ xs xs' ys ys' p q. follow-append t xs xs' p q }

ticks_follow : (c : Config) (t : Traffic) (from end : ℤ) → AllFollow t (events_between c t from end)
ticks_follow c t from end =
    each_tick_related (λ xs ys. AllFollow t xs) (follow_kept t) from (int_gap from end) (events_at c t) (events_at c t) (λ tick low high. tick_follows c t tick)

pub delays_follow_frames : DelaysFollowFrames
unfolding events
delays_follow_frames c t =
    let end = end_of_time +ℤ pos 1 in
    follow-append t (events_between c t first_clock end) (count_events Ru c t ++ count_events Du c t) (ticks_follow c t first_clock end)
    (follow-append t (count_events Ru c t) (count_events Du c t) (counts_follow Ru c t) (counts_follow Du c t))

-- ---- so it is a result

results_there : (results : Results) (place : ℕ) (earlier : List DelayResult) (r : DelayResult) (later : List DelayResult) → slice_index_or results place [] ≡ earlier ++ r ∷ later
    → Contains results (earlier ++ r ∷ later)
results_there [] place [] r later e = absurd cc
results_there [] place (x ∷ earlier) r later e = absurd cc
results_there (rs ∷ results) zero earlier r later e = subst (λ (zs : List DelayResult). Contains (zs ∷ results) (earlier ++ r ∷ later)) (sym e) (first_inside _ results)
results_there (rs ∷ results) (suc place) earlier r later e = later_inside rs (earlier ++ r ∷ later) results (results_there results place earlier r later e)

behind_is_result : (t : Traffic) (told : List Event) (x : Event) → FollowsFrame t told x → IsResult t x
behind_is_result t told (event.Cell a) h = tt
behind_is_result t told (event.Delay at side id value) h =
    let r : DelayResult = record { id = id; value = value } in
    let given = h.earlier ++ r ∷ h.later in
    let among : IsAmong (t.results side at.0) r = record {
      given = given;
      of_frame = results_there (t.results side at.0) h.place h.earlier r h.later h.gave;
      there = Contains-append_right h.earlier (r ∷ h.later) r (first_inside r h.later);
    } in
    among
behind_is_result t told (event.Arrival side at frame) h = tt
behind_is_result t told (event.Count side k value) h = tt

pub delays_are_results : DelaysAreResults
delays_are_results c t = each_holds (IsResult t) (events c t) (λ before x after e. behind_is_result t before x (delays_follow_frames c t before x after e))

-- ---- each frame is told with all its results

together_all : (es : List Event) → StandTogether es es
together_all es = record { before = []; after = []; are = sym (append-nil es) }

together_right : (es xs ys : List Event) → StandTogether es ys → StandTogether es (xs ++ ys)
together_right es xs ys h = record {
  before = xs ++ h.before;
  after = h.after;
  are = ap (λ (zs : List Event). xs ++ zs) h.are ∙ sym (append_assoc xs h.before (es ++ h.after));
}

together_left : (es xs ys : List Event) → StandTogether es xs → StandTogether es (xs ++ ys)
together_left es xs ys h = record {
  before = h.before;
  after = h.after ++ ys;
  are =
      ap (λ (zs : List Event). zs ++ ys) h.are
      ∙ append_assoc h.before (es ++ h.after) ys
      ∙ ap (λ (zs : List Event). h.before ++ zs) (append_assoc es h.after ys);
}

frame_is_told : (side : Side) (results : Results) (xs : List Arrival) (place : ℕ) (frame : Arrival) → slice_get xs place ≡ Some frame
    → StandTogether (arrival_told side frame (slice_index_or results place [])) (arrivals_told side results xs)
frame_is_told side results [] place frame e = absurd cc
frame_is_told side [] (x ∷ xs) zero frame e =
    let same : x ≡ frame = same_Some x frame e in
    subst (StandTogether (arrival_told side frame [])) (sym (told_next_alone side x xs))
    (together_left (arrival_told side frame []) (arrival_told side x []) (arrivals_told side [] xs)
    (subst (λ (a : Arrival). StandTogether (arrival_told side a []) (arrival_told side x [])) same (together_all (arrival_told side x []))))
frame_is_told side (r ∷ results) (x ∷ xs) zero frame e =
    let same : x ≡ frame = same_Some x frame e in
    subst (StandTogether (arrival_told side frame r)) (sym (told_next side r results x xs))
    (together_left (arrival_told side frame r) (arrival_told side x r) (arrivals_told side results xs)
    (subst (λ (a : Arrival). StandTogether (arrival_told side a r) (arrival_told side x r)) same (together_all (arrival_told side x r))))
frame_is_told side [] (x ∷ xs) (suc place) frame e =
    subst (StandTogether (arrival_told side frame [])) (sym (told_next_alone side x xs))
    (together_right (arrival_told side frame []) (arrival_told side x []) (arrivals_told side [] xs) (frame_is_told side [] xs place frame e))
frame_is_told side (r ∷ results) (x ∷ xs) (suc place) frame e =
    let given = slice_index_or results place [] in
    subst (StandTogether (arrival_told side frame given)) (sym (told_next side r results x xs))
    (together_right (arrival_told side frame given) (arrival_told side x r) (arrivals_told side results xs) (frame_is_told side results xs place frame e))

at_place : (xs : List Arrival) (tick : ℤ) (place : ℕ) (frame : Arrival) → All (λ a. a.at ≡ tick) xs → slice_get xs place ≡ Some frame → frame.at ≡ tick
at_place [] tick place frame times e = absurd cc
at_place (x ∷ xs) tick zero frame times e = ap (λ (a : Arrival). a.at) (sym (same_Some x frame e)) ∙ All-head (λ (a : Arrival). a.at ≡ tick) x xs times
at_place (x ∷ xs) tick (suc place) frame times e = at_place xs tick place frame (All-tail (λ (a : Arrival). a.at ≡ tick) x xs times) e

module _ (c : Config) (t : Traffic) (tick : ℤ) (es : List Event) where
  in_tick : (side : Side) → StandTogether es (arrivals_at side t tick) → StandTogether es (events_at c t tick)
  unfolding events_at
  in_tick Ru h =
      let ru = map event.Cell (cells_reported_at Ru c t tick) in
      let came = arrivals_at Ru t tick in
      let rest = arrivals_at Du t tick ++ map event.Cell (cells_reported_at Du c t tick) in
      together_right es ru (came ++ rest) (together_left es came rest h)
  in_tick Du h =
      let ru = map event.Cell (cells_reported_at Ru c t tick) in
      let came = arrivals_at Ru t tick in
      let taken = arrivals_at Du t tick in
      let du = map event.Cell (cells_reported_at Du c t tick) in
      together_right es ru (came ++ (taken ++ du)) (together_right es came (taken ++ du) (together_left es taken du h))

  in_ticks : (from end : ℤ) → from ≤ℤ tick → (tick +ℤ pos 1) ≤ℤ end → StandTogether es (events_at c t tick) → StandTogether es (events_between c t from end)
  in_ticks from end low high h =
      let f = events_at c t in
      let next = tick +ℤ pos 1 in
      let whole : events_between c t from end ≡ events_between c t from tick ++ (events_between c t tick next ++ events_between c t next end) =
      ticks_append f from tick end low (at_most tick next end (next_is_later tick) high)
      ∙ ap (λ (zs : List Event). events_between c t from tick ++ zs) (ticks_append f tick next end (next_is_later tick) high) in
      subst (StandTogether es) (sym whole)
      (together_right es (events_between c t from tick) (events_between c t tick next ++ events_between c t next end)
      (together_left es (events_between c t tick next) (events_between c t next end) (subst (StandTogether es) (sym (tick_alone f tick)) h)))

  in_events : first_clock ≤ℤ tick → (tick +ℤ pos 1) ≤ℤ (end_of_time +ℤ pos 1) → StandTogether es (events_at c t tick) → StandTogether es (events c t)
  unfolding events
  in_events low high h =
      let end = end_of_time +ℤ pos 1 in
      together_left es (events_between c t first_clock end) (count_events Ru c t ++ count_events Du c t) (in_ticks first_clock end low high h)

pub frames_are_told : FramesAreTold
frames_are_told c t side tick place frame low high landed =
    let xs = landing_at (landings_at side t) tick in
    let given = given_by side t tick place in
    let told = arrival_event side frame ∷ map (result_event side tick) given in
    let same = at_place xs tick place frame (landed_then (landings_at side t) tick) landed in
    let here : StandTogether told (arrivals_at side t tick) =
    subst (λ (u : ℤ). StandTogether (arrival_event side frame ∷ map (result_event side u) given) (arrivals_at side t tick)) same
    (frame_is_told side (t.results side tick) xs place frame landed) in
    in_events c t tick told low (next_order tick end_of_time high) (in_tick c t tick told side here)
