-- The radio unit from one tick to the next moment, and over it.
use Rattle.std.proofs.Common.{◌≡◌, ℤ, pos, ◌+ℤ◌, ◌-ℤ◌, ◌≤ℤ◌, ◌<ℤ◌, List, [], ◌∷◌, ◌++◌, refl, sym, ap, ap₂, ◌∙◌, subst, arith, append-nil}
use Rattle.std.specs.Prelude.{map}
use Rattle.std.proofs.lemmas.Int.{ints}
use Rattle.std.specs.Int.Signed.{≤ℤ_refl}
use Rattle.air_source.specs.declared.events.AirCell.{AirCell}
use Rattle.air_source.specs.declared.events.Event.TheVariants.{Cell}
use Rattle.air_source.specs.declared.events.Side.{Side}
use Rattle.air_source.specs.declared.events.Side.TheVariants.{Ru as AtRu, Du as AtDu}
use Rattle.document_traffic.specs.Laws.{IsReplayable}
use Rattle.fh_document.specs.declared.document.Document.{Document}
use Rattle.document_traffic.proofs.ReplayedLemmas.{landings_are_replayed}
use Rattle.document_traffic.specs.Replayed.{landings_for, results_at, traffic_of}
use Rattle.replay_laws.proofs.CameLemmas.{arrivals_go_on, calm_adds_nothing, none_yet}
use Rattle.replay_laws.proofs.EventLemmas.{events_wait}
use Rattle.unit_laws.proofs.HeardLemmas.{AreOf, cells-append, cells-arrivals, cells-none, cells-own}
use Rattle.replay_laws.proofs.MomentLemmas.{due_at_moment, reported_at_moment, reported_before_moment}
use Rattle.replay_laws.proofs.TickLemmas.{no_ticks}
use Rattle.unit_model.proofs.ToldLemmas.{Results}
use Rattle.replay_laws.specs.Events.{arrivals_at, cells_reported_at, events_at}
use Rattle.unit_model.specs.Events.{arrivals_told}
use Rattle.unit_model.specs.Heard.{arrivals_heard, cells_heard}
use Rattle.replay_laws.specs.Moments.{arrivals_before, end_of_time, landing_at}
use Rattle.replay_laws.specs.Passing.{AreLandings, IsCalm, IsNextMoment, IsUnitMoment, due_from}
use Rattle.replay_laws.specs.Traffic.{known_at, landings_at}
use Rattle.ru_buffers.proofs.QuietLemmas.{left_less, sweep_less}
use Rattle.ru_buffers.specs.Calls.{IsQuietTo, StandsFor}
use Rattle.ru_buffers.specs.Reporting.{due_of}
use Rattle.ru_buffers.specs.Units.{left_up_to}
use Rattle.ru_buffers.specs.declared.unit.Ru.{Ru}
use Rattle.unit_symbols.specs.declared.cursor.JobCursor.{JobCursor}
use Rattle.unit_cells.specs.Cells.{CellsValue}
use Rattle.unit_model.proofs.SweepLaws.{sweep_quiet}
use Rattle.fh_base.specs.Lists.{onto}
use Rattle.unit_model.specs.Meetings.{Arrival}
use Rattle.unit_model.specs.Radiated.{Known, first_clock, reported, wait_of}
use Rattle.unit_model.specs.Reports.{ru_known}
use Rattle.unit_model.specs.Standing.{History, at_clock, due, heard, nothing_yet}
use Rattle.uplink_laws.proofs.GivenLemmas.{owes_none}
use Rattle.uplink_laws.proofs.TurnJobs.{no_jobs_before}
use Rattle.uplink_laws.specs.Given.{HasSeen}
use Rattle.uplink_laws.specs.Turns.{jobs_until}
use Rattle.window_config.specs.declared.config.Config.{Config}
use Rattle.window_config.specs.declared.delays.Delays.{Delays}
use Rattle.window_config.specs.declared.endpoints.EndpointConfig.{EndpointConfig}
use Rattle.unit_laws.proofs.HistoryTicks.{last_is_earlier, last_reached, clock_begins}
use Rattle.fronthaul_replay.specs.BoxTurns.{AtRadioTurn, HasRadioLanded, IsRadioLanded, IsRadioTurn, events_before, radio_events}
use Rattle.unit_moments.specs.Landing.{clock_behind, landed}
use Rattle.fh_base.proofs.Orders.{at_most, before_it, up_to}
use Rattle.unit_model.proofs.ArrivalLemmas.{arrivals-append, arrivals-cells, arrivals-none, arrivals-own}
use Rattle.fronthaul_replay.proofs.BoxSteps.{cells_own}
use Rattle.replay_laws.proofs.EndLemmas.{no_cell_after_all as told_not_due}

-- ---- what is quiet up to a time is quiet up to each earlier one

pub due_less : (side : Side) (d : Delays) (es : List EndpointConfig) (k : Known) (heard : List AirCell) (a b : ℤ) → a ≤ℤ b → due side d es k heard b ≡ [] → due side d es k heard a ≡ []
unfolding due
due_less side d es k heard a b order none =
    let w = wait_of side d in sweep_less _ es (first_clock -ℤ w) ((a -ℤ w) +ℤ pos 1) ((b -ℤ w) +ℤ pos 1) (up_to a b w order) none

pub quiet_less : (c : Config) (u : Ru) (h : History) (a b : ℤ) → StandsFor c u h → a ≤ℤ b → IsQuietTo c h b → IsQuietTo c h a
quiet_less c u h a b stands order quiet = record {
  cells = due_less AtRu c.delays c.endpoints (ru_known c h.arrivals) h.reported a b order quiet.cells;
  messages = sym (stands.kept.left a) ∙ left_less u.memory.cells u.cursor a b order (stands.kept.left b ∙ quiet.messages);
}

-- ---- the next moment

pub due_same : (d : Document) (now : ℤ) (h : History) → IsRadioTurn d now h → (to : ℤ) → due_from AtRu d.config (traffic_of d).planned (landings_for AtRu d) now to ≡ due_of d.config h to
due_same d now h turn to =
    let c = d.config in
    sym (ap₂ (λ (xs : List Arrival) (rs : List AirCell). due AtRu c.delays c.endpoints (ru_known c xs) rs to) turn.arrivals turn.reported)

-- where no frame lands before a tick and no cell is due, it is the radio unit's next moment
pub unit_moment : (d : Document) (now tick : ℤ) (h : History) → IsReplayable d → IsRadioTurn d now h → IsCalm (landings_for AtRu d) now tick → due_of d.config h (tick -ℤ pos 1) ≡ []
    → IsUnitMoment AtRu d.config (traffic_of d) now tick
unit_moment d now tick h doc turn calm quiet =
    record { landings_are = landings_are_replayed d AtRu doc; calm = calm; quiet = due_same d now h turn (tick -ℤ pos 1) ∙ quiet }

-- and no message starts between
none_skipped : (d : Document) (now tick : ℤ) (h : History) → IsReplayable d → IsRadioTurn d now h → IsNextMoment d.config (traffic_of d) now tick → IsQuietTo d.config h (tick -ℤ pos 1)
    → jobs_until d.config (landings_for AtRu d) (tick -ℤ pos 1) ≡ jobs_until d.config (landings_for AtRu d) (now -ℤ pos 1)
none_skipped d now tick h doc turn next quiet =
    let ls = landings_for AtRu d in
    let seen : HasSeen d.config ls tick h = record {
      config = next.config;
      landings_are = landings_are_replayed d AtRu doc;
      begun = at_most first_clock now tick turn.begun next.order;
      ended = next.ended;
      arrivals = turn.arrivals ∙ sym (calm_adds_nothing ls now tick turn.begun next.order (next.units AtRu).calm);
    } in
    owes_none d.config ls now (tick -ℤ pos 1) tick h seen turn.begun (last_reached now tick next.order) (last_is_earlier tick) turn.given quiet.messages

-- what is at the start of a tick is at the start of the next moment of both units
pub skip : (d : Document) (now tick : ℤ) (h : History) → IsReplayable d → IsRadioTurn d now h → IsNextMoment d.config (traffic_of d) now tick → IsQuietTo d.config h (tick -ℤ pos 1)
    → IsRadioTurn d tick h
skip d now tick h doc turn next quiet =
    let c = d.config in
    let ls = landings_for AtRu d in
    let calm = (next.units AtRu).calm in
    record {
      begun = at_most first_clock now tick turn.begun next.order;
      ended = next.ended;
      arrivals = turn.arrivals ∙ sym (calm_adds_nothing ls now tick turn.begun next.order calm);
      reported = turn.reported ∙ reported_before_moment AtRu c (traffic_of d) now tick next;
      quiet = quiet;
      given = turn.given ∙ sym (none_skipped d now tick h doc turn next quiet);
      came = turn.came ∙ ap (arrivals_heard AtRu []) (sym (events_wait c (traffic_of d) now tick next));
      told = turn.told ∙ ap (cells_heard AtRu) (sym (events_wait c (traffic_of d) now tick next));
    }

-- ---- the moment itself

pub lands_in_time : (side : Side) (d : Document) → IsReplayable d → AreLandings (landings_at side (traffic_of d))
lands_in_time AtRu d doc = landings_are_replayed d AtRu doc
lands_in_time AtDu d doc = landings_are_replayed d AtDu doc

unit_here : (side : Side) (d : Document) (tick : ℤ) → IsReplayable d → IsUnitMoment side d.config (traffic_of d) tick tick
unit_here side d tick doc =
    let t = traffic_of d in
    record {
      landings_are = lands_in_time side d doc;
      calm = λ u low high. absurd (omega (arith, ints));
      quiet = told_not_due side d.config (known_at side d.config t.planned (arrivals_before (landings_at side t) tick)) (tick -ℤ pos 1) doc.document.config;
    }

-- a tick is a moment of its own
pub moment_here : (d : Document) (tick : ℤ) → IsReplayable d → first_clock ≤ℤ tick → tick ≤ℤ (end_of_time +ℤ pos 1) → IsNextMoment d.config (traffic_of d) tick tick
moment_here d tick doc begun ended =
    record { config = doc.document.config; begun = begun; order = ≤ℤ_refl tick; ended = ended; units = λ side. unit_here side d tick doc }

-- the cells that are due then are those of the tick
pub due_here : (d : Document) (tick : ℤ) (h : History) → IsReplayable d → IsRadioTurn d tick h → tick ≤ℤ end_of_time → due_of d.config h tick ≡ cells_reported_at AtRu d.config (traffic_of d) tick
due_here d tick h doc turn ended =
    sym (due_same d tick h turn tick) ∙ due_at_moment AtRu d.config (traffic_of d) tick tick (moment_here d tick doc turn.begun turn.ended) ended

-- ---- what was heard

arrivals_both : (earlier : List Arrival) (cs : List AirCell) (rs : Results) (xs : List Arrival) → arrivals_heard AtRu earlier (map Cell cs ++ arrivals_told AtRu rs xs) ≡ onto earlier xs
arrivals_both earlier cs rs xs =
    arrivals-append AtRu earlier (map Cell cs) (arrivals_told AtRu rs xs)
    ∙ ap (λ (e : List Arrival). arrivals_heard AtRu e (arrivals_told AtRu rs xs)) (arrivals-cells AtRu earlier cs)
    ∙ arrivals-own AtRu earlier rs xs

cells_both : (cs : List AirCell) (rs : Results) (xs : List Arrival) → AreOf AtRu cs → cells_heard AtRu (map Cell cs ++ arrivals_told AtRu rs xs) ≡ cs
cells_both cs rs xs own =
    cells-append AtRu (map Cell cs) (arrivals_told AtRu rs xs)
    ∙ ap₂ (λ (xs ys : List AirCell). xs ++ ys) (cells-own AtRu cs own) (cells-arrivals AtRu AtRu rs xs)
    ∙ append-nil cs

-- up to a tick, and then of it
arrivals_then : (d : Document) (tick : ℤ) (h : History) (cs : List AirCell) (rs : Results) (xs : List Arrival) → IsRadioTurn d tick h
    → onto h.arrivals xs ≡ arrivals_heard AtRu [] (events_before d tick ++ (map Cell cs ++ arrivals_told AtRu rs xs))
arrivals_then d tick h cs rs xs turn =
    ap (λ (e : List Arrival). onto e xs) turn.came
    ∙ sym (arrivals-append AtRu [] (events_before d tick) (map Cell cs ++ arrivals_told AtRu rs xs)
    ∙ arrivals_both (arrivals_heard AtRu [] (events_before d tick)) cs rs xs)

cells_then : (d : Document) (tick : ℤ) (h : History) (cs : List AirCell) (rs : Results) (xs : List Arrival) → AreOf AtRu cs → IsRadioTurn d tick h
    → h.reported ++ cs ≡ cells_heard AtRu (events_before d tick ++ (map Cell cs ++ arrivals_told AtRu rs xs))
cells_then d tick h cs rs xs own turn =
    ap₂ (λ (rs ts : List AirCell). rs ++ ts) turn.told (sym (cells_both cs rs xs own))
    ∙ sym (cells-append AtRu (events_before d tick) (map Cell cs ++ arrivals_told AtRu rs xs))

-- ---- over the moment

-- once the cells of the tick were reported, and its frames have landed
pub has_landed : (d : Document) (tick : ℤ) (h k : History) → IsReplayable d → IsRadioTurn d tick h → tick ≤ℤ end_of_time → k.clock ≡ tick
    → k.arrivals ≡ onto h.arrivals (landing_at (landings_for AtRu d) tick) → k.reported ≡ h.reported ++ cells_reported_at AtRu d.config (traffic_of d) tick → k.given ≡ h.given → IsRadioLanded d tick k
has_landed d tick h k doc turn ended clock came told given =
    let c = d.config in
    let ls = landings_for AtRu d in
    let cells = cells_reported_at AtRu c (traffic_of d) tick in
    record {
      begun = turn.begun;
      ended = ended;
      clock = clock;
      arrivals = came ∙ ap (λ (e : List Arrival). onto e (landing_at ls tick)) turn.arrivals ∙ sym (arrivals_go_on ls tick turn.begun);
      reported =
          told ∙ ap (λ (rs : List AirCell). rs ++ cells) turn.reported ∙ reported_at_moment AtRu c (traffic_of d) tick tick (moment_here d tick doc turn.begun turn.ended) ended;
      given = given ∙ turn.given;
      came = came ∙ arrivals_then d tick h cells (results_at d AtRu tick) (landing_at ls tick) turn;
      told = told ∙ cells_then d tick h cells (results_at d AtRu tick) (landing_at ls tick) (cells_own AtRu d tick) turn;
    }

-- ---- the start

pub events_none : (d : Document) → events_before d first_clock ≡ []
events_none d = no_ticks (events_at d.config (traffic_of d)) first_clock first_clock (≤ℤ_refl first_clock) (λ t low high. absurd (omega (arith, ints)))

-- before the first tick no message is left
none_left : (v : CellsValue) (cursor : JobCursor) → left_up_to v cursor (first_clock -ℤ pos 1) ≡ []
unfolding left_up_to
none_left v cursor = sweep_quiet _ _ first_clock ((first_clock -ℤ pos 1) +ℤ pos 1) (λ t low high. absurd (omega (arith, ints)))

none_waits : (w t : ℤ) → (first_clock -ℤ w) ≤ℤ t → t <ℤ (((first_clock -ℤ pos 1) -ℤ w) +ℤ pos 1) → ⊥
none_waits w t low high = omega (arith, ints)

pub none_reported : (side : Side) (d : Delays) (es : List EndpointConfig) (k : Known) → reported side d es k (first_clock -ℤ pos 1) ≡ []
unfolding reported
none_reported side d es k =
    let w = wait_of side d in sweep_quiet _ es (first_clock -ℤ w) (((first_clock -ℤ pos 1) -ℤ w) +ℤ pos 1) (λ t low high. absurd (none_waits w t low high))

start : (d : Document) (u : Ru) → StandsFor d.config u nothing_yet → IsRadioTurn d first_clock nothing_yet
start d u stands =
    let c = d.config in
    let ls = landings_for AtRu d in
    record {
      begun = ≤ℤ_refl first_clock;
      ended = clock_begins;
      arrivals = sym (none_yet ls first_clock (≤ℤ_refl first_clock));
      reported = sym (none_reported AtRu c.delays c.endpoints (ru_known c (arrivals_before ls first_clock)));
      quiet = record {
        cells = due_less AtRu c.delays c.endpoints (ru_known c []) [] (first_clock -ℤ pos 1) first_clock (last_is_earlier first_clock) stands.kept.past;
        messages = sym (stands.kept.left (first_clock -ℤ pos 1)) ∙ none_left u.memory.cells u.cursor;
      };
      given = sym (no_jobs_before c ls (first_clock -ℤ pos 1) (before_it first_clock));
      came = sym (ap (arrivals_heard AtRu []) (events_none d) ∙ arrivals-none AtRu []);
      told = sym (ap (cells_heard AtRu) (events_none d) ∙ cells-none AtRu);
    }

-- a unit that has done nothing yet is at the start of the first tick
pub first_turn : (d : Document) (u : Ru) → StandsFor d.config u nothing_yet → AtRadioTurn d first_clock u
first_turn d u stands = record {
  history = nothing_yet;
  stands = stands;
  turn = start d u stands;
  clock = subst (λ (t : ℤ). t ≤ℤ first_clock) (sym stands.kept.clock_is) (≤ℤ_refl first_clock);
}

-- ---- by the boxes

clock_there : (tick : ℤ) (xs : List Arrival) → clock_behind tick tick xs ≡ tick
clock_there tick [] = refl
clock_there tick (x ∷ xs) = refl

-- once the cells of a tick were reported, and all that lands at it has landed
pub radio_landed : (d : Document) (tick : ℤ) (u v : Ru) → IsReplayable d → (a : AtRadioTurn d tick u) → tick ≤ℤ end_of_time
    → StandsFor d.config v (landed tick (at_clock (heard a.history (due_of d.config a.history tick)) tick) (landing_at (landings_for AtRu d) tick)) → HasRadioLanded d tick v
radio_landed d tick u v doc a ended stands =
    let h = a.history in
    let xs = landing_at (landings_for AtRu d) tick in
    let k = landed tick (at_clock (heard h (due_of d.config h tick)) tick) xs in
    record {
      history = k;
      stands = stands;
      landed = has_landed d tick h k doc a.turn ended (clock_there tick xs) refl (ap (λ (cs : List AirCell). h.reported ++ cs) (due_here d tick h doc a.turn ended)) refl;
    }

-- what is told of both
pub radio_heard : (d : Document) (tick : ℤ) (h : History) → IsReplayable d → IsRadioTurn d tick h → tick ≤ℤ end_of_time
    → map Cell (due_of d.config h tick) ++ arrivals_at AtRu (traffic_of d) tick ≡ radio_events d tick
radio_heard d tick h doc turn ended = ap (λ (cs : List AirCell). map Cell cs ++ arrivals_at AtRu (traffic_of d) tick) (due_here d tick h doc turn ended)
