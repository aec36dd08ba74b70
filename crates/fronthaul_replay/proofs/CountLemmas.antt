-- The counters at the end.
use Rattle.std.proofs.Common.{◌≡◌, ℕ, ℤ, pos, ◌+ℤ◌, ◌-ℤ◌, ◌==◌, ◌<◌, ◌≤◌, ◌+◌, suc, Bool, true, false, List, [], ◌∷◌, ◌++◌, take, take-suc, drop, length, get_or, refl, sym, ap, ap₂, ◌∙◌, subst, arith, append_assoc, append-nil}
use Rattle.std.specs.Prelude.{cond, if◌then◌else◌}
use Rattle.std.specs.List.{flat_map, AllByRecursion}
use Rattle.std.proofs.lemmas.Bool.Decides.{nat_tests}
use Rattle.std.proofs.lemmas.List.{take_all}
use Rattle.air_source.specs.Stops.{StopsIn}
use Rattle.air_source.specs.declared.events.AirCell.{AirCell}
use Rattle.air_source.specs.declared.events.Event.{Event}
use Rattle.air_source.specs.declared.events.Event.TheVariants.{Cell, Delay, Arrival, Count}
use Rattle.air_source.specs.declared.events.Side.{Side}
use Rattle.air_source.specs.declared.events.Side.TheVariants.{Ru as AtRu, Du as AtDu}
use Rattle.air_source.proofs.Stops.{parted, stops_early, stops_later}
use Rattle.du_intake.specs.Units.{intake_due_of as intake_due}
use Rattle.du_intake.specs.declared.unit.Intake.{Intake}
use Rattle.fault_counters.specs.Counts.{capped, count_of, times}
use Rattle.fault_counters.specs.Names.{all_counters}
use Rattle.fault_counters.specs.declared.kinds.Counter.{Counter}
use Rattle.fh_document.specs.declared.document.Document.{Document}
use Rattle.unit_moments.proofs.StopLemmas.{Follows}
use Rattle.fronthaul_replay.specs.IntakeTurns.{AtIntakeTurn, planned_for}
use Rattle.fronthaul_replay.proofs.BoxNext.{intake_over}
use Rattle.document_traffic.specs.Replayed.{doings_at, landings_for, traffic_of}
use Rattle.document_traffic.specs.Doings.{Doings}
use Rattle.document_traffic.specs.Landing.{jobs_for}
use Rattle.document_traffic.specs.Laws.{IsReplayable}
use Rattle.document_traffic.proofs.OverLemmas.{documents_are_over}
use Rattle.document_traffic.proofs.SentLemmas.{messages_are_owed}
use Rattle.fronthaul_replay.specs.BoxTurns.{AtRadioTurn, events_before}
use Rattle.replay_laws.specs.Events.{all_counted, count_event, count_events, is_measured, number_of}
use Rattle.unit_model.specs.Heard.{arrivals_heard, cells_heard}
use Rattle.replay_laws.specs.Moments.{all_arrivals, end_of_time}
use Rattle.replay_laws.specs.Traffic.{landings_at, reported_at}
use Rattle.unit_laws.proofs.HeardLemmas.{cells-append}
use Rattle.ru_buffers.specs.Calls.{IsQuietTo}
use Rattle.ru_buffers.specs.declared.unit.Ru.{Ru}
use Rattle.unit_model.specs.Counts.{StandAt, cells_counted}
use Rattle.unit_model.specs.Meetings.{Arrival as Landing}
use Rattle.unit_model.specs.Reports.{accepted_of, arrivals_counted, du_known, du_reported, ru_known, ru_reported}
use Rattle.unit_model.specs.Standing.{History, due, still_given}
use Rattle.unit_model.specs.declared.jobs.UplinkJob.{UplinkJob}
use Rattle.unit_laws.proofs.HistoryTicks.{last_of_next}
use Rattle.uplink_laws.specs.Turns.{jobs_until}
use Rattle.fronthaul_replay.specs.Counting.{told_counts, told_number}
use Rattle.fronthaul_replay.specs.Replaying.{IsDone, IsInStep, IsIntakeDone, IsRadioDone, StopsInStep, events_of}
use Rattle.fronthaul_replay.specs.Turns.{AtTurn}
use Rattle.report_airs.proofs.Whole.{IsCount}
use Rattle.fronthaul_replay.proofs.Counted.{one_count}
use Rattle.fronthaul_replay.proofs.StepLemmas.{turn_in_step}
use Rattle.fronthaul_replay.proofs.StopLemmas.{all_events}
use Rattle.fh_base.proofs.MemberLemmas.{all_join}
use Rattle.unit_model.proofs.ArrivalLemmas.{arrivals-append}

-- ---- their events, one after the other

abbrev pub counts_by : Side → (Counter → ℕ) → List Counter → List Event
counts_by side number ks = flat_map (λ k. count_event side (number k) k) ks

counts_by-append : (side : Side) (number : Counter → ℕ) (xs ys : List Counter) → counts_by side number (xs ++ ys) ≡ counts_by side number xs ++ counts_by side number ys
counts_by-append side number [] ys = refl
counts_by-append side number (x ∷ xs) ys =
    ap (λ (es : List Event). count_event side (number x) x ++ es) (counts_by-append side number xs ys)
    ∙ sym (append_assoc (count_event side (number x) x) (counts_by side number xs) (counts_by side number ys))

counts_by-one : (side : Side) (number : Counter → ℕ) (k : Counter) → counts_by side number (k ∷ []) ≡ count_event side (number k) k
counts_by-one side number k = append-nil (count_event side (number k) k)

pub counts_next : (side : Side) (number : Counter → ℕ) (ks : List Counter) (i : ℕ) (d : Counter) → i < length ks
    → counts_by side number (take i ks) ++ count_event side (number (get_or ks i d)) (get_or ks i d) ≡ counts_by side number (take (suc i) ks)
counts_next side number ks i d lt =
    let k = get_or ks i d in
    sym (ap (counts_by side number) (take-suc ks i d lt) ∙ counts_by-append side number (take i ks) (k ∷ [])
    ∙ ap (λ (es : List Event). counts_by side number (take i ks) ++ es) (counts_by-one side number k))

pub counts_about : (side : Side) (number : Counter → ℕ) (ks : List Counter) (i : ℕ) (d : Counter) → i < length ks
    → counts_by side number ks
    ≡ counts_by side number (take i ks) ++ (count_event side (number (get_or ks i d)) (get_or ks i d) ++ counts_by side number (drop (suc i) ks))
counts_about side number ks i d lt =
    ap (counts_by side number) (parted ks i d lt)
    ∙ counts_by-append side number (take i ks) (get_or ks i d ∷ drop (suc i) ks)

-- a counter's number was told, or an air stopped in it
module _ {A : Type 0} (grew : A → List Event → A → Type 0) (more : (a b c : A) (first second : List Event) → grew a first b → grew b second c → grew a (first ++ second) c)
    (side : Side) (number : Counter → ℕ) (ks : List Counter) (i : ℕ) (d : Counter) (v : ℕ) (a b e : A)
    (inside : i < length ks) (is : v ≡ number (get_or ks i d)) (first : grew a (counts_by side number (take i ks)) b) where
  one_more : suc i ≡ i + 1
  one_more = omega arith

  pub heard_among : grew b (count_event side v (get_or ks i d)) e → grew a (counts_by side number (take (i + 1) ks)) e
  heard_among heard =
      let k = get_or ks i d in
      subst (λ (es : List Event). grew a es e) (counts_next side number ks i d inside ∙ ap (λ (n : ℕ). counts_by side number (take n ks)) one_more)
      (more a b e (counts_by side number (take i ks)) (count_event side (number k) k) first (subst (λ (n : ℕ). grew b (count_event side n k) e) is heard))

  pub stops_among : (stopped : A → Event → A → Type 0) → StopsIn grew stopped (count_event side v (get_or ks i d)) b e → StopsIn grew stopped (counts_by side number ks) a e
  stops_among stopped stop =
      let k = get_or ks i d in
      let rest = counts_by side number (drop (suc i) ks) in
      subst (λ (es : List Event). StopsIn grew stopped es a e) (sym (counts_about side number ks i d inside))
      (stops_later grew stopped more (counts_by side number (take i ks)) (count_event side (number k) k ++ rest) a b e first
      (stops_early grew stopped (count_event side (number k) k) rest b e (subst (λ (n : ℕ). StopsIn grew stopped (count_event side n k) b e) is stop)))

not_zero : (v : ℕ) → (v ≡ 0 → ⊥) → (v == 0) ≡ false
not_zero v some = grind (arith, nat_tests)

pub some_event : (side : Side) (v : ℕ) (k : Counter) → (v ≡ 0 → ⊥) → count_event side v k ≡ Count side k v ∷ []
some_event side v k some = ap (λ (b : Bool). let es : List Event = if b then [] else Count side k v ∷ [] in es) (not_zero v some)

-- the same numbers give the same events
counts_same : (side : Side) (f g : Counter → ℕ) (ks : List Counter) → ((k : Counter) → f k ≡ g k) → counts_by side f ks ≡ counts_by side g ks
counts_same side f g [] same = refl
counts_same side f g (k ∷ ks) same = ap₂ (λ (n : ℕ) (es : List Event). count_event side n k ++ es) (same k) (counts_same side f g ks same)

-- ---- they are no arrivals and no cells

front_counts : (xs ys : List Event) → AllByRecursion IsCount (xs ++ ys) → AllByRecursion IsCount xs
front_counts [] ys h = tt
front_counts (x ∷ xs) ys h = (h.0, front_counts xs ys h.1)

all_counts : (side : Side) (number : Counter → ℕ) (ks : List Counter) → AllByRecursion IsCount (counts_by side number ks)
all_counts side number [] = tt
all_counts side number (k ∷ ks) =
    all_join IsCount (count_event side (number k) k) (counts_by side number ks) (one_count side (number k) k (number k == 0)) (all_counts side number ks)

all_told : (side : Side) (counts : List ℕ) (measured : List Counter) → AllByRecursion IsCount (told_counts side counts measured)
unfolding told_counts
all_told side counts measured = all_counts side (told_number counts measured) all_counters

arrivals-counts : (side : Side) (earlier : List Landing) (es : List Event) → AllByRecursion IsCount es → arrivals_heard side earlier es ≡ earlier
unfolding arrivals_heard
arrivals-counts side earlier [] h = refl
arrivals-counts side earlier (Cell c ∷ es) h = absurd h.0
arrivals-counts side earlier (Delay at of id value ∷ es) h = absurd h.0
arrivals-counts side earlier (Arrival of at frame ∷ es) h = absurd h.0
arrivals-counts side earlier (Count of counter value ∷ es) h = arrivals-counts side earlier es h.1

cells-counts : (side : Side) (es : List Event) → AllByRecursion IsCount es → cells_heard side es ≡ []
unfolding cells_heard
cells-counts side [] h = refl
cells-counts side (Cell c ∷ es) h = absurd h.0
cells-counts side (Delay at of id value ∷ es) h = absurd h.0
cells-counts side (Arrival of at frame ∷ es) h = absurd h.0
cells-counts side (Count of counter value ∷ es) h = cells-counts side es h.1

arrivals_stay : (side : Side) (told more : List Event) → AllByRecursion IsCount more → arrivals_heard side [] told ≡ arrivals_heard side [] (told ++ more)
arrivals_stay side told more none = sym (arrivals-append side [] told more ∙ arrivals-counts side (arrivals_heard side [] told) more none)

cells_stay : (side : Side) (told more : List Event) → AllByRecursion IsCount more → cells_heard side told ≡ cells_heard side (told ++ more)
cells_stay side told more none =
    sym (cells-append side told more ∙ ap (λ (cs : List AirCell). cells_heard side told ++ cs) (cells-counts side more none) ∙ append-nil (cells_heard side told))

-- so both units are in step with them too
counts_in_step : (d : Document) (told more : List Event) (u : Ru) (i : Intake) → AllByRecursion IsCount more → IsInStep d told u i → IsInStep d (told ++ more) u i
counts_in_step d told more u i none step = record {
  radio = record {
    history = step.radio.history;
    stands = step.radio.stands;
    arrivals = step.radio.arrivals ∙ arrivals_stay AtRu told more none;
    reported = step.radio.reported ∙ cells_stay AtRu told more none;
  };
  intake = record {
    history = step.intake.history;
    stands = step.intake.stands;
    arrivals = step.intake.arrivals ∙ arrivals_stay AtDu told more none;
    reported = step.intake.reported ∙ cells_stay AtDu told more none;
  };
}

-- ---- at the end of time

last_tick : (end_of_time +ℤ pos 1) -ℤ pos 1 ≡ end_of_time
last_tick = last_of_next end_of_time

-- where a unit reported and gave all up to it, nothing is due at it, however late
radio_quiet : (d : Document) (h : History) (to : ℤ) → IsReplayable d → h.arrivals ≡ all_arrivals (landings_for AtRu d)
    → h.reported ≡ ru_reported d.config (all_arrivals (landings_for AtRu d)) end_of_time → h.given ≡ jobs_for d → IsQuietTo d.config h to
radio_quiet d h to doc arrivals reported given =
    let c = d.config in
    let all = documents_are_over d doc in
    record {
      cells = ap₂ (λ (xs : List Landing) (told : List AirCell). due AtRu c.delays c.endpoints (ru_known c xs) told to) arrivals reported ∙ all.cells AtRu to;
      messages = ap₂ (λ (xs : List Landing) (js : List UplinkJob). still_given c (accepted_of c xs) js to) arrivals given ∙ all.messages to;
    }

intake_quiet : (d : Document) (h : History) (to : ℤ) → IsReplayable d → h.arrivals ≡ all_arrivals (landings_for AtDu d)
    → h.reported ≡ du_reported d.config (planned_for d) (all_arrivals (landings_for AtDu d)) end_of_time → intake_due d.config (planned_for d) h to ≡ []
intake_quiet d h to doc arrivals reported =
    let c = d.config in
    ap₂ (λ (xs : List Landing) (told : List AirCell). due AtDu c.delays c.endpoints (du_known c (planned_for d) xs) told to) arrivals reported ∙ (documents_are_over d doc).cells AtDu to

radio_done : (d : Document) (u : Ru) → IsReplayable d → AtRadioTurn d (end_of_time +ℤ pos 1) u → IsRadioDone d u
radio_done d u doc a =
    let reported = a.turn.reported ∙ ap (λ (t : ℤ). ru_reported d.config (all_arrivals (landings_for AtRu d)) t) last_tick in
    let given = a.turn.given ∙ ap (λ (t : ℤ). jobs_until d.config (landings_for AtRu d) t) last_tick ∙ messages_are_owed d in
    record {
      history = a.history;
      stands = a.stands;
      arrivals = a.turn.arrivals;
      reported = reported;
      given = given;
      quiet = λ to. radio_quiet d a.history to doc a.turn.arrivals reported given;
    }

intake_done : (d : Document) (i : Intake) → IsReplayable d → AtIntakeTurn d (end_of_time +ℤ pos 1) i → IsIntakeDone d i
intake_done d i doc a =
    let all = intake_over d i a in
    record {
      history = a.history;
      stands = a.stands;
      arrivals = all.arrivals;
      reported = all.reported;
      quiet = λ to. intake_quiet d a.history to doc all.arrivals all.reported;
    }

pub over : (d : Document) (u : Ru) (i : Intake) → IsReplayable d → AtTurn d (end_of_time +ℤ pos 1) u i → IsDone d u i
over d u i doc a = record { radio = radio_done d u doc a.radio; intake = intake_done d i doc a.intake }

-- ---- the numbers

-- of one counter, whether it is of delay measurement or not
told_same : (counts : List ℕ) (measured all : List Counter) (k : Counter) (b : Bool) → count_of counts k ≡ capped (times all k)
    → cond b (capped (times measured k)) (count_of counts k) ≡ capped (times (cond b measured all) k)
told_same counts measured all k true is = refl
told_same counts measured all k false is = is

-- of the first counters, and of all
abbrev pub counts_to : Side → List ℕ → List Counter → List Counter → List Event
counts_to side counts measured ks = counts_by side (told_number counts measured) ks

pub told_are : (side : Side) (counts : List ℕ) (measured : List Counter) → told_counts side counts measured ≡ counts_to side counts measured all_counters
unfolding told_counts
told_are side counts measured = refl

pub told_to_end : (side : Side) (counts : List ℕ) (measured ks : List Counter) (i : ℕ) → ks ≡ all_counters → length ks ≤ i
    → counts_to side counts measured (take i ks) ≡ told_counts side counts measured
told_to_end side counts measured ks i are past = ap (counts_to side counts measured) (take_all i ks past ∙ are) ∙ sym (told_are side counts measured)

-- what a unit's meter has at the end of time
abbrev pub all_doings : Document → Side → Doings
all_doings d side = doings_at d side (end_of_time +ℤ pos 1)

-- what is told of a unit at the end of time
abbrev pub told_for : Side → Document → List ℕ → List Event
told_for side d counts = told_counts side counts (all_doings d side).counted

-- what a unit counted of all that landed at it, and of all that it reported, and its meter of all that it was told
pub counts_are : (side : Side) (d : Document) (counts : List ℕ) (came : List Landing) (told : List AirCell)
    → StandAt counts (arrivals_counted side d.config came ++ cells_counted told)
    → came ≡ all_arrivals (landings_at side (traffic_of d))
    → told ≡ reported_at side d.config (planned_for d) (all_arrivals (landings_at side (traffic_of d))) end_of_time
    → told_for side d counts ≡ count_events side d.config (traffic_of d)
unfolding count_events number_of
counts_are side d counts came told stand came_is told_is =
    let t = traffic_of d in
    let measured = (all_doings d side).counted in
    told_are side counts measured
    ∙ counts_same side (told_number counts measured) (number_of side d.config t) all_counters (λ k.
    told_same counts measured (all_counted side d.config t) k (is_measured k)
    (stand k
    ∙ ap₂ (λ (xs : List Landing) (rs : List AirCell). capped (times (arrivals_counted side d.config xs ++ cells_counted rs) k)) came_is told_is))

pub radio_counts : (d : Document) (u : Ru) (counts : List ℕ) (done : IsRadioDone d u)
    → StandAt counts (arrivals_counted AtRu d.config done.history.arrivals ++ cells_counted done.history.reported)
    → told_for AtRu d counts ≡ count_events AtRu d.config (traffic_of d)
radio_counts d u counts done stand = counts_are AtRu d counts done.history.arrivals done.history.reported stand done.arrivals done.reported

pub intake_counts : (d : Document) (i : Intake) (counts : List ℕ) (done : IsIntakeDone d i)
    → StandAt counts (arrivals_counted AtDu d.config done.history.arrivals ++ cells_counted done.history.reported)
    → told_for AtDu d counts ≡ count_events AtDu d.config (traffic_of d)
intake_counts d i counts done stand = counts_are AtDu d counts done.history.arrivals done.history.reported stand done.arrivals done.reported

-- ---- the events of both units' counters after all others

abbrev passed : Document → List Event
passed d = events_before d (end_of_time +ℤ pos 1)

abbrev counts_for : Side → Document → List Event
counts_for side d = count_events side d.config (traffic_of d)

module _ {A : Type 0} (grew next : A → List Event → A → Type 0) (d : Document) where
  pub heard_all : (radio taken : List Event) (a b m e : A) → radio ≡ counts_for AtRu d → taken ≡ counts_for AtDu d
      → Follows grew next a (passed d) b → Follows next next b radio m → next m taken e → grew a (events_of d) e
  heard_all radio taken a b m e radio_is taken_is first second third =
      subst (λ (es : List Event). grew a es e) (ap₂ (λ (xs ys : List Event). passed d ++ (xs ++ ys)) radio_is taken_is ∙ sym (all_events d))
      (first e (radio ++ taken) (second e taken third))

  module _ (stopped : A → Event → A → Type 0) (u : Ru) (i : Intake) where
    -- it stopped in one of a unit's counters
    stops_count : (these front rest : List Event) (a b e : A) → AllByRecursion IsCount these
        → events_of d ≡ front ++ (these ++ rest) → IsInStep d front u i → Follows grew next a front b
        → StopsIn next stopped these b e → StopsInStep grew stopped d u i a e
    stops_count these front rest a b e counts parts step first s =
        let none : AllByRecursion IsCount s.before =
        front_counts s.before (s.event ∷ s.after) (subst (AllByRecursion IsCount) s.is counts) in
        record {
          told = front ++ s.before;
          event = s.event;
          rest = s.after ++ rest;
          is = parts ∙ ap (λ (es : List Event). front ++ (es ++ rest)) s.is ∙ ap (λ (es : List Event). front ++ es) (append_assoc s.before (s.event ∷ s.after) rest)
              ∙ sym (append_assoc front s.before (s.event ∷ (s.after ++ rest)));
          middle = s.middle;
          heard = first s.middle s.before s.heard;
          stop = s.stop;
          step = counts_in_step d front s.before u i none step;
        }

    pub stops_radio_count : (counts : List ℕ) (a b e : A) → AtTurn d (end_of_time +ℤ pos 1) u i → told_for AtRu d counts ≡ counts_for AtRu d
        → Follows grew next a (passed d) b → StopsIn next stopped (told_for AtRu d counts) b e → StopsInStep grew stopped d u i a e
    stops_radio_count counts a b e at are first s =
        stops_count (told_for AtRu d counts) (passed d) (counts_for AtDu d) a b e (all_told AtRu counts (all_doings d AtRu).counted)
        (all_events d ∙ ap (λ (es : List Event). passed d ++ (es ++ counts_for AtDu d)) (sym are)) (turn_in_step d (end_of_time +ℤ pos 1) u i at) first s

    pub stops_intake_count : (radio_counted counted : List ℕ) (a b m e : A) → AtTurn d (end_of_time +ℤ pos 1) u i
        → told_for AtRu d radio_counted ≡ counts_for AtRu d → told_for AtDu d counted ≡ counts_for AtDu d
        → Follows grew next a (passed d) b → Follows next next b (told_for AtRu d radio_counted) m → StopsIn next stopped (told_for AtDu d counted) m e
        → StopsInStep grew stopped d u i a e
    stops_intake_count radio_counted counted a b m e at radio_are are first second s =
        let radio = told_for AtRu d radio_counted in
        let taken = told_for AtDu d counted in
        stops_count taken (passed d ++ radio) [] a m e (all_told AtDu counted (all_doings d AtDu).counted)
        (all_events d ∙ ap₂ (λ (xs ys : List Event). passed d ++ (xs ++ ys)) (sym radio_are) (sym are) ∙ sym (append_assoc (passed d) radio taken)
        ∙ ap (λ (es : List Event). (passed d ++ radio) ++ es) (sym (append-nil taken)))
        (counts_in_step d (passed d) radio u i (all_told AtRu radio_counted (all_doings d AtRu).counted) (turn_in_step d (end_of_time +ℤ pos 1) u i at))
        (λ x more s. subst (λ (es : List Event). grew a es x) (sym (append_assoc (passed d) radio more)) (first x (radio ++ more) (second x more s))) s
