-- When nothing disturbs a document's schedule, what radiates then and what is taken in (O-RAN.WG4.CUS, delay management; this project's
-- profile).
use Rattle.std.specs.Prelude.{◌≡◌, ◌≢◌, ℕ, ◌<◌, ◌≤ℤ◌, true, false, List, [], ◌∷◌, All, filter}
use Rattle.air_source.specs.declared.events.AirCell.{AirCell}
use Rattle.air_source.specs.declared.events.Side.{Side}
use Rattle.air_source.specs.declared.events.Side.TheVariants.{Ru, Du}
use Rattle.ecpri_fragments.specs.Generations.{Fragment}
use Rattle.fh_document.specs.declared.document.Document.{Document}
use Rattle.fragment_laws.specs.Flow.{Flow}
use Rattle.plan_model.specs.Lines.{line_allocation, is_up_line}
use Rattle.plan_model.specs.declared.lines.PlannedLine.{PlannedLine}
use Rattle.replay_laws.specs.Events.{events}
use Rattle.unit_model.specs.Heard.{cells_heard}
use Rattle.replay_laws.specs.Moments.{all_arrivals, end_of_time}
use Rattle.replay_laws.specs.Traffic.{Traffic, landings_at}
use Rattle.schedule_laws.specs.Cells.{planned_air}
use Rattle.schedule_laws.specs.Commands.{AreCommandedOnce}
use Rattle.schedule_laws.specs.Data.{AreDecodedOnce, Blocks}
use Rattle.schedule_laws.specs.Flows.{bounds_of, flow_of}
use Rattle.schedule_laws.specs.Singles.{event_of}
use Rattle.uplink_laws.specs.Frames.{blocks_of, texts_of}
use Rattle.unit_model.specs.Claims.{cell_of, names}
use Rattle.unit_model.specs.Meetings.{fragments}
use Rattle.unit_model.specs.Reports.{met}
use Rattle.unit_model.specs.Standing.{same_cell}
use Rattle.uplink_laws.specs.Whole.{AreTakenOnce}
use Rattle.window_config.specs.Relations.{PassesCheck}
use Rattle.window_config.specs.declared.delays.Delays.{Delays}
use Rattle.window_config.specs.declared.delays.Range.{Range}
use Rattle.uplink_laws.specs.Cells.{taken_air}
use Rattle.uplink_laws.specs.Data.{AreUplinksDecodedOnce as AreAnswersDecodedOnce, antenna_blocks as answer_blocks_of}
use Rattle.uplink_laws.specs.Flows.{uplink_bounds_of as answer_bounds_of, uplink_flow_of as answer_flow_of}
use Rattle.uplink_laws.specs.Jobs.{AreJobsOfPlan}
use Rattle.uplink_laws.specs.Singles.{uplink_event_of as taken_event_of}
use Rattle.document_traffic.specs.Generations.{EachHoldsOneMessage}
use Rattle.document_traffic.specs.Landing.{all_delayed, antenna_for}
use Rattle.document_traffic.specs.Sending.{Delayed, lines_of, source_for}
use Rattle.fh_base.specs.Members.{IsIn}

-- ---- the premise

-- how long a frame to a unit may be on its way: T12 to the radio unit, T34 to the distributed unit
abbrev pub transport_of : Side → Delays → Range
transport_of Ru t = t.t12
transport_of Du t = t.t34

-- of a frame a copy is received, and each is received within these bounds
pub record IsCarried (bounds : Range) (x : Delayed) : Type 0 where
  pub some : x.delays ≢ []
  pub from : All (λ ns. bounds.min ≤ℤ ns) x.delays
  pub to : All (λ ns. ns ≤ℤ bounds.max) x.delays

abbrev pub AreCarried : Side → Document → Type 0
AreCarried side d = All (IsCarried (transport_of side d.config.delays)) (all_delayed side d)

-- the windows pass the check, nothing is injected, and each frame that is sent to the radio unit is carried
pub record IsUndisturbed (d : Document) : Type 0 where
  pub check : PassesCheck d.config.delays
  pub alone : d.injections ≡ []
  pub carried : AreCarried Ru d

-- and so is each frame that the radio unit sends
pub record IsUndisturbedBothWays (d : Document) : Type 0 where
  pub down : IsUndisturbed d
  pub up : AreCarried Du d

-- ---- what radiates then

-- what the endpoints' compression leaves of each cell's samples
abbrev pub blocks_for : Document → Blocks
blocks_for d = blocks_of d.config (source_for d)

-- the cells of a unit among all events of what lands
abbrev pub told_for : Side → Document → Traffic → List AirCell
told_for side d t = cells_heard side (events d.config t)

-- the fragments of data that were received at a unit, the newest first
abbrev pub fragments_at : Side → Document → Traffic → List Fragment
fragments_at side d t = fragments (met side d.config (all_arrivals (landings_at side t)))

-- the data messages that are sent for each endpoint
abbrev pub messages_for : Document → ℕ → Flow
messages_for d = flow_of d.config (lines_of d) (texts_of d.config (lines_of d) (source_for d))

-- Each command carries a line of the plan, the first of it is Accepted and each further one is Repeat; each data message becomes whole
-- once, over any number of messages; each generation at the radio unit holds fragments of one message only, and every copy of them; the
-- cells that radiate are, cell for cell and in order, those of the plan's `dl` lines with the source's shrunk samples, and none is missing;
-- and of each cell in which a `dl` line names an element there is exactly one event.
pub record RadiatesOnce (d : Document) (t : Traffic) : Type 0 where
  pub commands : AreCommandedOnce d.config (lines_of d) (all_arrivals t.at_ru)
  pub messages : AreDecodedOnce d.config (lines_of d) (texts_of d.config (lines_of d) (source_for d)) (blocks_for d) (all_arrivals t.at_ru)
  pub generations : EachHoldsOneMessage (bounds_of d.config) (messages_for d) (fragments_at Ru d t)
  pub cells : told_for Ru d t ≡ planned_air d.config (blocks_for d) (lines_of d) end_of_time
  pub once : (p : PlannedLine) (symbol prb re : ℕ) → IsIn p (lines_of d) → (line_allocation p).down ≡ true → (line_allocation p).idle ≡ false → re < 12
      → names (line_allocation p) (cell_of (line_allocation p) symbol prb) re ≡ true
      → filter (same_cell (event_of (blocks_for d) (lines_of d) p symbol prb)) (told_for Ru d t) ≡ event_of (blocks_for d) (lines_of d) p symbol prb ∷ []

-- ---- what is taken in then

-- what the endpoints' compression leaves of the antenna's samples of each cell
abbrev pub answers_for : Document → Blocks
answers_for d = answer_blocks_of d.config (antenna_for d)

-- the uplink messages that are sent for each endpoint
abbrev pub answered_for : Document → ℕ → Flow
answered_for d = answer_flow_of d.config (antenna_for d) (lines_of d)

-- The uplink sections that are accepted are those of the plan's `ul` lines, each once; each uplink message becomes whole once, within
-- Ta4, over any number of messages, and is decoded once; each generation at the distributed unit holds fragments of one message only, and
-- every copy of them; the cells that the distributed unit takes in are, cell for cell and in order, those of the `ul` lines with the
-- antenna's shrunk samples, and none is missing; and of each cell in which a `ul` line names an element there is exactly one event.
pub record IsTakenInOnce (d : Document) (t : Traffic) : Type 0 where
  pub jobs : AreJobsOfPlan d.config (lines_of d) (all_arrivals t.at_ru)
  pub messages : AreTakenOnce d.config (antenna_for d) (lines_of d) (all_arrivals t.at_du)
  pub sections : AreAnswersDecodedOnce d.config (lines_of d) (antenna_for d) (all_arrivals t.at_du)
  pub generations : EachHoldsOneMessage (answer_bounds_of d.config) (answered_for d) (fragments_at Du d t)
  pub cells : told_for Du d t ≡ taken_air d.config (answers_for d) (lines_of d) end_of_time
  pub once : (p : PlannedLine) (symbol prb re : ℕ) → IsIn p (lines_of d) → is_up_line p ≡ true → re < 12
      → names (line_allocation p) (cell_of (line_allocation p) symbol prb) re ≡ true
      → filter (same_cell (taken_event_of (answers_for d) (lines_of d) p symbol prb)) (told_for Du d t) ≡ taken_event_of (answers_for d) (lines_of d) p symbol prb ∷ []
