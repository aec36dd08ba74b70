-- The delays of a document's replay are measured as they should be.
use Rattle.std.proofs.Common.{◌≡◌, ℕ, zero, suc, ℤ, pos, ◌+◌, ◌+ℤ◌, ◌≤ℤ◌, ◌<ℤ◌, List, [], ◌∷◌, ◌++◌, refl, sym, ap, ◌∙◌, subst, arith, append_assoc}
use Rattle.std.proofs.Math.Path.{fun_ext}
use Rattle.std.specs.Prelude.{All, Option, Some, None, filter, map}
use Rattle.std.specs.Int.{int_gap}
use Rattle.std.specs.Option.{option_to_list}
use Rattle.std.proofs.lemmas.Int.{by_lt_z, ints}
use Rattle.std.proofs.lemmas.List.Elements.{All-append, All-cons, All-contains, All-head, All-nil, All-tail, All-weaker}
use Rattle.air_source.specs.declared.events.Event.{Event}
use Rattle.air_source.specs.declared.events.Event.TheVariants.{Cell, Delay, Arrival as ArrivalTold, Count}
use Rattle.air_source.specs.declared.events.Side.{Side}
use Rattle.air_source.specs.declared.events.Side.TheVariants.{Ru, Du}
use Rattle.delay_laws.proofs.Knowing.{known_grows}
use Rattle.delay_laws.proofs.Quiet.{before}
use Rattle.delay_laws.specs.Known.{delay_event, known, known_then, known_while}
use Rattle.delay_laws.specs.Measured.{IsMeasured, IsMeasuredExactly}
use Rattle.delay_laws.specs.Nodes.{Heard, delay_then, time_of}
use Rattle.delay_laws.specs.Ticks.{Hearing, Setting, State, arriving, begin_heard, came_heard, due, exchange_of, hearing, landing, state, told_all}
use Rattle.delay_measure.specs.After.{id_of}
use Rattle.delay_measure.specs.declared.message.DelayMessage.{DelayMessage}
use Rattle.document_traffic.proofs.Documents.{document_delays, document_exact}
use Rattle.document_traffic.specs.Settings.{no_others, setting_of}
use Rattle.document_traffic.specs.Laws.{IsReplayable}
use Rattle.fh_document.specs.declared.document.Document.{Document}
use Rattle.replay_laws.proofs.EndLemmas.{lands_by_end}
use Rattle.replay_laws.specs.Events.{events}
use Rattle.replay_laws.specs.Moments.{end_of_time, landing_at}
use Rattle.unit_model.specs.declared.results.DelayResult.{DelayResult}
use Rattle.replay_laws.proofs.DelayLemmas.{delays_are_results}
use Rattle.replay_laws.specs.Delays.{IsAmong, IsResult}
use Rattle.unit_model.specs.Meetings.{Arrival}
use Rattle.unit_model.specs.Radiated.{first_clock}
use Rattle.unit_laws.proofs.AddedLemmas.{in_front}
use Rattle.document_traffic.proofs.QuietLemmas as quiet
use Rattle.document_traffic.proofs.ReplayedLemmas.{landings_are_replayed}
use Rattle.document_traffic.proofs.SideLemmas.{all_told, begins_told, messages_of, others_pass, results_known, frames_told}
use Rattle.document_traffic.proofs.TurnLemmas.{comes_as_told, comes_in, heard_next, own, side_in}
use Rattle.document_traffic.specs.Delays.{DelayIs, DelaysAreExact, DelaysAreMeasured, EventsAreExact, EventsAreMeasured, InjectsNone, IsOfRequest, IsTimeOfWay, ResultsAre}
use Rattle.document_traffic.specs.Doings.{Doings, results_of, with_begins, with_frame}
use Rattle.document_traffic.specs.Measured.{delay_messages, exchanges}
use Rattle.document_traffic.specs.Replayed.{begun, doings_in, landings_for, results_at, traffic_of}
use Rattle.document_traffic.specs.Sides.{IsSideOf, known_as}
use Rattle.document_traffic.proofs.FlightLemmas.{none_at}
use Rattle.fh_base.proofs.Orders.{within_next}
use Rattle.air_source.specs.Units.{same_side}
use Rattle.unit_model.specs.Times.{tick_count}
use Rattle.fh_base.proofs.EachLemmas.{gap_is, gap_parts}
use Rattle.unit_laws.proofs.SoundLemmas.{all_right as all_back}

-- ---- parts of lists

all_of : {X Y : Type 0} (P : Y → Type 0) (f : X → Y) (xs : List X) → All P (map f xs) → All (λ x. P (f x)) xs
all_of P f [] all = All-nil (λ x. P (f x))
all_of P f (x ∷ xs) all = All-cons (λ y. P (f y)) x xs (All-head P (f x) (map f xs) all) (all_of P f xs (All-tail P (f x) (map f xs) all))

-- ---- what is known of all that was told

module _ (w : Setting) (P : ℕ → ℤ → Type 0) where
  one_known : (side : Side) (id : ℕ) (at : ℤ) (delay : Option ℤ) → ((v : ℤ) → delay ≡ Some v → P id v) → All (DelayIs P) (map (delay_event side id at) (option_to_list delay))
  one_known side id at None holds = All-nil (DelayIs P)
  one_known side id at (Some v) holds = All-cons (DelayIs P) (delay_event side id at v) [] (holds v refl) (All-nil (DelayIs P))

  -- where it holds of each delay by what was told before
  Holds : List Heard → Type 0
  Holds all =
      (later : List Heard) (one : Heard) (earlier : List Heard) (delay : ℤ) → all ≡ later ++ (one ∷ earlier)
      → delay_then (w.comps one.side) (exchange_of w earlier one.side (id_of one.told)) one.told ≡ Some delay → P (id_of one.told) delay

  known_holds : (all later earlier : List Heard) → Holds all → all ≡ later ++ earlier → All (DelayIs P) (known w earlier)
  unfolding Holds
  known_holds all later [] holds is = All-nil (DelayIs P)
  known_holds all later (one ∷ earlier) holds is =
      All-append (DelayIs P) (known w earlier) (known_then w earlier one) (known_holds all (later ++ one ∷ []) earlier holds (is ∙ sym (append_assoc later (one ∷ []) earlier)))
      (one_known one.side (id_of one.told) (time_of one.told) (delay_then (w.comps one.side) (exchange_of w earlier one.side (id_of one.told)) one.told) (λ v e. holds later one earlier v is e))

  -- ---- it holds of what was known earlier

  AreKnown : Hearing → Type 0
  AreKnown h = All (DelayIs P) (known w h.heard)

  known_before : (h : Hearing) (more : List Heard) → AreKnown (told_all w h more) → AreKnown h
  unfolding AreKnown
  known_before h more all = in_front (DelayIs P) (known w h.heard) (known_while w h more) (subst (All (DelayIs P)) (known_grows w h more) all)

  known_since : (h : Hearing) (more : List Heard) → AreKnown (told_all w h more) → All (DelayIs P) (known_while w h more)
  unfolding AreKnown
  known_since h more all = all_back (DelayIs P) (known w h.heard) (known_while w h more) (subst (All (DelayIs P)) (known_grows w h more) all)

  tick_before : (t : ℤ) (s : State) → AreKnown (hearing w t s) → AreKnown (before s)
  unfolding hearing
  tick_before t s all =
      let begun = told_all w (before s) (map begin_heard (due t w.begins)) in
      known_before (before s) (map begin_heard (due t w.begins)) (known_before begun (arriving w s Ru t) (known_before (told_all w begun (arriving w s Ru t)) (arriving w s Du t) all))

  -- of a tick, where it holds in the end
  known_in : (first : ℤ) (n m : ℕ) → AreKnown (before (state w first (suc n + m))) → AreKnown (hearing w (first +ℤ pos n) (state w first n))
  unfolding AreKnown
  known_in first n zero all =
      let count : suc n + zero ≡ suc n = omega arith in
      subst (λ (heard : List Heard). All (DelayIs P) (known w heard)) (ap (λ (k : ℕ). (state w first k).heard) count ∙ heard_next w first n) all
  known_in first n (suc m) all =
      let count : suc n + suc m ≡ suc (suc n + m) = omega arith in
      let last = subst (λ (heard : List Heard). All (DelayIs P) (known w heard)) (ap (λ (k : ℕ). (state w first k).heard) count ∙ heard_next w first (suc n + m)) all in
      known_in first n m (tick_before (first +ℤ pos (suc n + m)) (state w first (suc n + m)) last)

  -- ---- so it does of the results of frames

  results_hold : (side : Side) (t : ℤ) (h : Hearing) (x : Doings) (arrivals : List Arrival) → IsSideOf side h x → AreKnown (told_all w h (map (came_heard side t) (messages_of arrivals)))
      → ResultsAre P (results_of (w.comps side) t x arrivals)
  results_hold side t h x [] s all = All-nil (λ (given : List DelayResult). All (λ r. P r.id r.value) given)
  results_hold side t h x (a ∷ more) s all =
      let ms = map (came_heard side t) (delay_messages a.frame) in
      let later = told_all w h ms in
      let next = with_frame (w.comps side) t x a.frame in
      let whole = subst AreKnown (all_told w side t h (delay_messages a.frame) (messages_of more)) all in
      let its = known_since h ms (known_before later (map (came_heard side t) (messages_of more)) whole) in
      All-cons (λ (given : List DelayResult). All (λ r. P r.id r.value) given) next.results (results_of (w.comps side) t next more)
      (all_of (DelayIs P) (known_as side t) next.results (subst (All (DelayIs P)) (sym (results_known w side h x t a.frame s)) its))
      (results_hold side t later next more (frames_told w side h x t a.frame s) whole)

  tick_results : (side : Side) (t : ℤ) (s : State) (x : Doings) (arrivals : List Arrival) → messages_of arrivals ≡ landing (s.sent side) t ++ w.others side t → IsSideOf side (before s) x → AreKnown (hearing w t s)
      → ResultsAre P (results_of (w.comps side) t (with_begins (w.comps side) x (filter (λ b. same_side side b.side) (due t w.begins))) arrivals)
  unfolding hearing
  tick_results Ru t s x arrivals come is all =
      let begun = told_all w (before s) (map begin_heard (due t w.begins)) in
      let its = known_before (told_all w begun (arriving w s Ru t)) (arriving w s Du t) all in
      results_hold Ru t begun _ arrivals (begins_told w Ru (before s) x (due t w.begins) is)
      (subst (λ (ms : List DelayMessage). AreKnown (told_all w begun (map (came_heard Ru t) ms))) (sym come) its)
  tick_results Du t s x arrivals come is all =
      let begun = told_all w (before s) (map begin_heard (due t w.begins)) in
      let both = told_all w begun (arriving w s Ru t) in
      let passed = others_pass w Ru t begun _ (landing (s.sent Ru) t ++ w.others Ru t) (begins_told w Du (before s) x (due t w.begins) is) in
      results_hold Du t both _ arrivals passed (subst (λ (ms : List DelayMessage). AreKnown (told_all w both (map (came_heard Du t) ms))) (sym come) all)

-- ---- of a document

too_early : (first t at : ℤ) → t <ℤ first → first ≤ℤ at → at ≡ t → ⊥
too_early first t at h k e = omega (arith, ints, h, k, e)

too_late : (end t at : ℤ) → end <ℤ t → at ≤ℤ end → at ≡ t → ⊥
too_late end t at h k e = omega (arith, ints, h, k, e)

all_counted : (n m k : ℕ) → k ≡ n + suc m → suc n + m ≡ k
all_counted n m k h = omega (arith, h)

all_here : (n m k : ℕ) → k ≡ n + suc m → n + suc m ≡ k
all_here n m k h = sym h

module _ (d : Document) (is : IsReplayable d) (P : ℕ → ℤ → Type 0) (known_so : All (DelayIs P) (known (own d) (exchanges d).heard)) where
  abbrev AreSo : Side → ℤ → Type 0
  AreSo side t = ResultsAre P (results_at d side t)

  -- at a tick
  results_in : (side : Side) (n m : ℕ) → tick_count ≡ n + suc m
      → ResultsAre P (results_of ((own d).comps side) (first_clock +ℤ pos n) (begun d side (first_clock +ℤ pos n) (doings_in d side n)) (landing_at (landings_for side d) (first_clock +ℤ pos n)))
  unfolding AreKnown
  results_in side n m count =
      let t : ℤ = first_clock +ℤ pos n in
      let here = all_here n m tick_count count in
      let told = comes_as_told d is in
      let last = subst (λ (k : ℕ). All (DelayIs P) (known (own d) (state (own d) first_clock k).heard)) (sym (all_counted n m tick_count count)) known_so in
      tick_results (own d) P side t (state (own d) first_clock n) (doings_in d side n) (landing_at (landings_for side d) t) (comes_in d is told side n (suc m) here) (side_in d is told side n (suc m) here)
      (known_in (own d) P first_clock n m last)

  -- where nothing lands
  results_none : (side : Side) (t : ℤ) → landing_at (landings_for side d) t ≡ [] → AreSo side t
  results_none side t none =
      subst (λ (xs : List Arrival). ResultsAre P (results_of ((own d).comps side) t (begun d side t (doings_in d side (int_gap first_clock t))) xs)) (sym none)
      (All-nil (λ (given : List DelayResult). All (λ r. P r.id r.value) given))

  results_so : (side : Side) (t : ℤ) → AreSo side t
  results_so side t =
      let landings = landings_are_replayed d side is in
      by_lt_z t first_clock
      (λ early. results_none side t (none_at t (landings_for side d) (All-weaker (λ (a : Arrival). first_clock ≤ℤ a.at) (λ (a : Arrival). a.at ≡ t → ⊥) (λ a. too_early first_clock t a.at early) (landings_for side d) landings.begun)))
      (λ low.
      by_lt_z end_of_time t
      (λ late. results_none side t (none_at t (landings_for side d) (All-weaker (λ (a : Arrival). a.at ≤ℤ end_of_time) (λ (a : Arrival). a.at ≡ t → ⊥) (λ a. too_late end_of_time t a.at late) (landings_for side d) (lands_by_end (landings_for side d) landings))))
      (λ high.
      let n = int_gap first_clock t in
      let m = int_gap (t +ℤ pos 1) (end_of_time +ℤ pos 1) in
      subst (λ (s : ℤ). ResultsAre P (results_of ((own d).comps side) s (begun d side s (doings_in d side n)) (landing_at (landings_for side d) s)))
      (gap_is first_clock t low) (results_in side n m (gap_parts first_clock t (end_of_time +ℤ pos 1) low (within_next t end_of_time high)))))

  -- ---- its events

  among : (side : Side) (t : ℤ) (r : DelayResult) → IsAmong (results_at d side t) r → P r.id r.value
  among side t r a =
      All-contains (λ (x : DelayResult). P x.id x.value) a.given r
      (All-contains (λ (given : List DelayResult). All (λ (x : DelayResult). P x.id x.value) given) (results_at d side t) a.given (results_so side t) a.of_frame) a.there

  event_so : (e : Event) → IsResult (traffic_of d) e → DelayIs P e
  event_so (Cell cell) result = tt
  event_so (Delay at side id delay) result = among side at.0 (record { id = id; value = delay }) result
  event_so (ArrivalTold side at frame) result = tt
  event_so (Count side counter value) result = tt

  events_so : All (DelayIs P) (events d.config (traffic_of d))
  events_so = All-weaker (IsResult (traffic_of d)) (DelayIs P) event_so (events d.config (traffic_of d)) (delays_are_results d.config (traffic_of d))

-- ---- where no injected frame has a message of delay measurement

same_setting : (d : Document) → InjectsNone d → setting_of d no_others ≡ own d
same_setting d none = ap (setting_of d) (fun_ext (λ side. fun_ext (λ t. sym (quiet.no_others d side t none))))

known_measured : (d : Document) → IsReplayable d → InjectsNone d → All (DelayIs (IsOfRequest d)) (known (own d) (exchanges d).heard)
unfolding Holds
known_measured d is none =
    let w0 = setting_of d no_others in
    let all = (state w0 first_clock tick_count).heard in
    subst (λ (w : Setting). All (DelayIs (IsMeasured w0 (state w first_clock tick_count))) (known w (state w first_clock tick_count).heard)) (same_setting d none)
    (known_holds w0 (IsMeasured w0 (state w0 first_clock tick_count)) all [] all (λ later one earlier delay e k. document_delays d is.document first_clock tick_count later one earlier delay e k) refl)

known_exact : (d : Document) → IsReplayable d → InjectsNone d → All (DelayIs (IsTimeOfWay d)) (known (own d) (exchanges d).heard)
unfolding Holds
known_exact d is none =
    let w0 = setting_of d no_others in
    let all = (state w0 first_clock tick_count).heard in
    subst (λ (w : Setting). All (DelayIs (IsMeasuredExactly w0 (state w first_clock tick_count))) (known w (state w first_clock tick_count).heard)) (same_setting d none)
    (known_holds w0 (IsMeasuredExactly w0 (state w0 first_clock tick_count)) all [] all (λ later one earlier delay e k. document_exact d is.document first_clock tick_count later one earlier delay e k) refl)

pub delays_are_measured : DelaysAreMeasured
delays_are_measured d is none = results_so d is (IsOfRequest d) (known_measured d is none)

pub delays_are_exact : DelaysAreExact
delays_are_exact d is none = results_so d is (IsTimeOfWay d) (known_exact d is none)

pub events_are_measured : EventsAreMeasured
events_are_measured d is none = events_so d is (IsOfRequest d) (known_measured d is none)

pub events_are_exact : EventsAreExact
events_are_exact d is none = events_so d is (IsTimeOfWay d) (known_exact d is none)
