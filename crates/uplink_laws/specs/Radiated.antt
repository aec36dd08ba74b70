-- What radiates of a plan whose very bytes are received within T12, whatever is repeated, reordered or delayed (O-RAN.WG4.CUS, delay
-- management). Times are ticks.
use Rattle.std.specs.Prelude.{◌≡◌, ℕ, ℤ, ◌+ℤ◌, ◌<◌, ◌≤ℤ◌, true, false, List, [], ◌∷◌, filter}
use Rattle.fh_base.specs.Air.{air_of}
use Rattle.window_config.specs.Relations.{PassesCheck}
use Rattle.window_config.specs.Windows.{ticks_of_ns}
use Rattle.window_config.specs.declared.config.Config.{Config}
use Rattle.window_config.specs.declared.plan.PlanLine.{PlanLine}
use Rattle.unit_model.specs.Claims.{cell_of, names}
use Rattle.unit_model.specs.Meetings.{Arrival}
use Rattle.unit_model.specs.Reports.{ru_reported}
use Rattle.unit_model.specs.Standing.{same_cell}
use Rattle.plan_model.specs.Lines.{line_allocation, planned}
use Rattle.plan_model.specs.Sent.{SentFrame, sent}
use Rattle.plan_model.specs.declared.lines.PlannedLine.{PlannedLine}
use Rattle.schedule_laws.specs.Cells.{planned_air}
use Rattle.schedule_laws.specs.Least.{with_least_delay}
use Rattle.schedule_laws.specs.Premise.{AreInOrder}
use Rattle.schedule_laws.specs.Singles.{event_of}
use Rattle.sent_frames.specs.Frames.{sent_bytes}
use Rattle.uplink_laws.specs.Frames.{blocks_of}
use Rattle.sent_frames.specs.Messages.{Source}
use Rattle.uplink_laws.specs.Sent.{IsSendable}
use Rattle.fh_base.specs.Members.{IsIn}

-- a copy of a frame: its very bytes, no sooner than T12's minimum after it left and no later than the maximum
pub record IsSentCopy (c : Config) (source : Source) (f : SentFrame) (a : Arrival) : Type 0 where
  pub from : (f.at +ℤ ticks_of_ns c.delays.t12.min) ≤ℤ a.at
  pub to : a.at ≤ℤ (f.at +ℤ ticks_of_ns c.delays.t12.max)
  pub bytes : a.frame ≡ sent_bytes c source f

-- What was received at the radio unit, the newest first, where the windows pass the check: each arrival is a copy of a frame that is
-- sent, and of each frame that is sent a copy was received.
pub record CopiesArrive (c : Config) (ps : List PlannedLine) (source : Source) (arrivals : List Arrival) : Type 0 where
  pub check : PassesCheck c.delays
  pub in_order : AreInOrder arrivals
  pub came : (a : Arrival) → IsIn a arrivals → (f : SentFrame) × IsIn f (sent c ps) × IsSentCopy c source f a
  pub every : (f : SentFrame) → IsIn f (sent c ps) → (a : Arrival) × IsIn a arrivals × IsSentCopy c source f a

-- what the radio unit reports is, cell for cell and in order, what the plan and the source say
abbrev pub SentPlanRadiates : Type 0
SentPlanRadiates =
    (c : Config) (lines : List PlanLine) (source : Source) (arrivals : List Arrival) → IsSendable c lines source
    → CopiesArrive c (planned c.endpoints lines) source arrivals → (to : ℤ)
    → ru_reported c arrivals to ≡ planned_air c (blocks_of c source) (planned c.endpoints lines) to

-- of a cell in which a `dl` line names an element, one event is reported once its symbol has started, and it is the plan's
abbrev pub SentCellRadiatesOnce : Type 0
SentCellRadiatesOnce =
    (c : Config) (lines : List PlanLine) (source : Source) (arrivals : List Arrival) → IsSendable c lines source
    → CopiesArrive c (planned c.endpoints lines) source arrivals
    → (p : PlannedLine) (symbol prb re : ℕ) (to : ℤ) → IsIn p (planned c.endpoints lines) → (line_allocation p).down ≡ true → (line_allocation p).idle ≡ false → re < 12
    → names (line_allocation p) (cell_of (line_allocation p) symbol prb) re ≡ true → air_of p.endpoint.numerology p.line.slot symbol ≤ℤ to
    → filter (same_cell (event_of (blocks_of c source) (planned c.endpoints lines) p symbol prb)) (ru_reported c arrivals to)
    ≡ event_of (blocks_of c source) (planned c.endpoints lines) p symbol prb ∷ []

-- such arrivals are there for every such plan whose windows pass the check: each frame once, with T12's minimum
abbrev pub LeastCopiesArrive : Type 0
LeastCopiesArrive =
    (c : Config) (lines : List PlanLine) (source : Source) → IsSendable c lines source → PassesCheck c.delays
    → CopiesArrive c (planned c.endpoints lines) source (with_least_delay c (planned c.endpoints lines) (sent_bytes c source))
