-- What a unit has to know, and the histories that it stands for (this project's profile). A unit in fixed memory answers for slots that
-- are live, one that keeps complete lists for all.
use Rattle.std.specs.Prelude.{◌≡◌, ℕ, ℤ, pos, ◌<◌, ◌+ℤ◌, ◌-ℤ◌, ◌≤ℤ◌, ◌==◌, Bool, true, false, not, ◌&&◌, All, List, [], ◌∷◌, ◌++◌, length, drop, filter}
use Rattle.std.specs.List.{list_any}
use Rattle.fh_base.specs.declared.values.Slot.{Slot}
use Rattle.fh_base.specs.Air.{air_of}
use Rattle.fh_base.specs.Numbering.{symbols_of}
use Rattle.air_source.specs.declared.events.AirCell.{AirCell}
use Rattle.air_source.specs.declared.events.Side.{Side}
use Rattle.air_source.specs.declared.events.Side.TheVariants.{Ru, Du}
use Rattle.ecpri_fragments.specs.declared.assembly.Assembly.{Assembly}
use Rattle.ecpri_fragments.specs.Assemblies.{StandsFor, hold_of as assembly_hold}
use Rattle.window_config.specs.declared.config.Config.{Config}
use Rattle.window_config.specs.declared.delays.Delays.{Delays}
use Rattle.window_config.specs.declared.endpoints.EndpointConfig.{EndpointConfig}
use Rattle.unit_model.specs.Claims.{claim_at, same_slot, same_way}
use Rattle.unit_model.specs.Commands.{is_uplink}
use Rattle.unit_model.specs.Counts.{StandAt, cells_counted}
use Rattle.unit_model.specs.Meetings.{Arrival, fragments}
use Rattle.unit_model.specs.Proper.{IsAt, IsSlot}
use Rattle.unit_model.specs.Radiated.{Known, symbol_report, first_clock, wait_of, used_mask}
use Rattle.unit_model.specs.Reports.{met, accepted_of, hold_of, ru_known, du_known, arrivals_counted}
use Rattle.unit_model.specs.Sides.{IsLiveFor}
use Rattle.unit_model.specs.Sweeps.{sweep}
use Rattle.unit_model.specs.Uplink.{jobs}
use Rattle.unit_model.specs.declared.allocations.Allocation.{Allocation}
use Rattle.unit_model.specs.declared.cells.Cell.{Cell}
use Rattle.unit_model.specs.declared.jobs.UplinkJob.{UplinkJob}
use Rattle.air_source.specs.Units.{is_down}

-- a clock; what arrived, the newest first; the cells that an air heard, and the jobs that were given, in order
pub record History : Type 0 where
  pub clock : ℤ
  pub arrivals : List Arrival
  pub reported : List AirCell
  pub given : List UplinkJob

abbrev pub nothing_yet : History
nothing_yet = record { clock = first_clock; arrivals = []; reported = []; given = [] }

-- ---- what is still to follow

-- both are reports of one cell: one unit's, of one direction
abbrev pub same_cell : AirCell → AirCell → Bool
same_cell a b =
    same_way (is_down a.side) (is_down b.side) && ((a.id == b.id) && (same_slot a.slot b.slot && ((a.symbol == b.symbol) && (a.prb == b.prb))))

abbrev pub is_reported : List AirCell → AirCell → Bool
is_reported heard a = list_any (same_cell a) heard

unfoldable pub still_reported : Side → Known → List AirCell → ℕ → EndpointConfig → Slot → ℕ → List AirCell
still_reported side k heard ep e slot symbol = filter (λ a. not (is_reported heard a)) (symbol_report side k ep e slot symbol)

-- the cells with their moments up to a time that an air did not hear, in order
unfoldable pub due : Side → Delays → List EndpointConfig → Known → List AirCell → ℤ → List AirCell
due side d es k heard to = sweep (still_reported side k heard) es (first_clock -ℤ wait_of side d) ((to -ℤ wait_of side d) +ℤ pos 1)

-- the jobs up to a time that were not given: they are given in their order
abbrev pub still_given : Config → List Allocation → List UplinkJob → ℤ → List UplinkJob
still_given c accepted given to = drop (length given) (jobs c.endpoints accepted to)

-- those that a history has still to give
abbrev pub owed_until : Config → History → ℤ → List UplinkJob
owed_until c h to = still_given c (accepted_of c h.arrivals) h.given to

-- ---- a history after a call

abbrev pub arrived : History → List ℕ → History
arrived h frame = record {
  clock = h.clock;
  arrivals = (let a : Arrival = record { at = h.clock; frame = frame } in a) ∷ h.arrivals;
  reported = h.reported;
  given = h.given;
}

abbrev pub heard : History → List AirCell → History
heard h cells = record { clock = h.clock; arrivals = h.arrivals; reported = h.reported ++ cells; given = h.given }

abbrev pub at_clock : History → ℤ → History
at_clock h to = record { clock = to; arrivals = h.arrivals; reported = h.reported; given = h.given }

abbrev pub handed : History → UplinkJob → History
handed h job = record { clock = h.clock; arrivals = h.arrivals; reported = h.reported; given = h.given ++ job ∷ [] }

-- ---- what a unit keeps, as contracts see it

-- of both units
pub record Kept : Type 0 where
  pub clock : ℤ
  pub counts : List ℕ
  pub known : Known
  pub assembly : Assembly

-- and of the radio unit
pub record View : Type 0 where
  pub kept : Kept
  -- the uplink sections of an endpoint's slot that were accepted, the newest first
  pub uplink : ℕ → Slot → List Allocation
  -- whether a downlink cell was reported
  pub reported : Cell → Bool
  -- the jobs up to a time that it has still to give
  pub jobs : ℤ → List UplinkJob

-- the slots for which a unit answers: all, or those that are live at a clock
abbrev pub Every : ℕ → Slot → Type 0
Every ep slot = Unit {0}

abbrev pub IsLiveAt : Config → ℤ → ℕ → Slot → Type 0
IsLiveAt c clock ep slot = IsLiveFor Ru c clock ep slot

abbrev pub uplink_of : ℕ → Slot → List Allocation → List Allocation
uplink_of ep slot accepted = filter (λ a. is_uplink a && ((a.ep == ep) && same_slot a.slot slot)) accepted

-- the cell is one of this endpoint of the configuration
pub record IsCell (c : Config) (e : EndpointConfig) (cell : Cell) : Type 0 where
  pub endpoint : IsAt c.endpoints cell.ep e
  pub slot : IsSlot e.numerology cell.slot
  pub symbol : cell.symbol < symbols_of e.numerology
  pub prb : cell.prb < e.prbs

-- a report of the cell, by the unit of its direction
abbrev pub cell_heard : EndpointConfig → Cell → AirCell → Bool
cell_heard e cell a =
    same_way (is_down a.side) cell.down && ((a.id == e.id) && (same_slot a.slot cell.slot && ((a.symbol == cell.symbol) && (a.prb == cell.prb))))

-- times do not go back
abbrev pub AreInTime : ℤ → List Arrival → Type 0
AreInTime clock [] = Unit {0}
AreInTime clock (a ∷ earlier) = (a.at ≤ℤ clock) × AreInTime a.at earlier

-- ---- a history

-- no two of these are reports of one cell
abbrev pub AreDifferent : List AirCell → Type 0
AreDifferent [] = Unit {0}
AreDifferent (a ∷ rest) = All (λ b. same_cell a b ≡ false) rest × AreDifferent rest

-- a report of a cell of the unit's direction that is in use, at the start of its symbol
pub record IsOwed (side : Side) (c : Config) (k : Known) (a : AirCell) : Type 0 where
  pub endpoint : EndpointConfig
  pub cell : Cell
  pub is_cell : IsCell c endpoint cell
  pub down : cell.down ≡ is_down side
  pub of_cell : cell_heard endpoint cell a ≡ true
  pub starts : a.at.0 ≡ air_of endpoint.numerology cell.slot cell.symbol
  pub used : 0 < used_mask (k.claims cell)

-- the messages that arrivals ask of a unit, up to a time: the distributed unit sends none for what arrives at it
abbrev pub asked_jobs : Side → Config → List Arrival → ℤ → List UplinkJob
asked_jobs Ru c arrivals to = jobs c.endpoints (accepted_of c arrivals) to
asked_jobs Du c arrivals to = []

-- A history of a unit, where this is to be known: its reported cells differ from each other and are owed, and its jobs are the first
-- of those that are asked of it.
pub record IsHistory (side : Side) (c : Config) (k : Known) (h : History) : Type 0 where
  pub differ : AreDifferent h.reported
  pub owed : All (IsOwed side c k) h.reported
  pub later : List UplinkJob
  pub given : asked_jobs side c h.arrivals h.clock ≡ h.given ++ later

-- ---- the histories that a unit stands for

-- the time up to which all is reported at a clock: the clock at the radio unit, whose cells of a tick precede its arrivals; one
-- tick before it at the distributed unit, whose arrivals precede its cells
abbrev pub past_of : Side → ℤ → ℤ
past_of Ru clock = clock
past_of Du clock = clock -ℤ pos 1

-- What both units keep of a history, where a unit answers for these slots and this is to be known.
pub record IsKept (side : Side) (answers : ℕ → Slot → Type 0) (c : Config) (k : Known) (v : Kept) (h : History) : Type 0 where
  pub clock : v.clock ≡ h.clock
  pub came : AreInTime h.clock h.arrivals
  pub counts : StandAt v.counts (arrivals_counted side c h.arrivals ++ cells_counted h.reported)
  pub fragments : StandsFor v.assembly (fragments (met side c h.arrivals))
  pub hold : assembly_hold v.assembly ≡ hold_of side c.delays
  pub blocks : (e : EndpointConfig) (cell : Cell) → IsCell c e cell → cell.down ≡ is_down side → answers cell.ep cell.slot → v.known.blocks cell ≡ k.blocks cell
  -- what is past is reported, and nothing is reported that is not in use
  pub past : due side c.delays c.endpoints k h.reported (past_of side h.clock) ≡ []
  pub told : (e : EndpointConfig) (cell : Cell) → IsCell c e cell → cell.down ≡ is_down side → list_any (cell_heard e cell) h.reported ≡ true
      → 0 < used_mask (k.claims cell)
  pub history : IsHistory side c k h

-- The radio unit stands for a history, where it answers for these slots: beside what both units keep, the claims and the uplink
-- sections that it accepted, which cells it reported, and which messages it has still to give.
pub record StandsBy (answers : ℕ → Slot → Type 0) (c : Config) (v : View) (h : History) : Type 0 where
  pub kept : IsKept Ru answers c (ru_known c h.arrivals) v.kept h
  pub claims : (e : EndpointConfig) (cell : Cell) (re : ℕ) → IsCell c e cell → answers cell.ep cell.slot → re < 12
      → v.kept.known.claims cell re ≡ (ru_known c h.arrivals).claims cell re
  pub uplink : (e : EndpointConfig) (ep : ℕ) (slot : Slot) → IsAt c.endpoints ep e → IsSlot e.numerology slot → answers ep slot → v.uplink ep slot ≡ uplink_of ep slot (accepted_of c h.arrivals)
  pub reported : (e : EndpointConfig) (cell : Cell) → IsCell c e cell → cell.down ≡ true → answers cell.ep cell.slot → v.reported cell ≡ list_any (cell_heard e cell) h.reported
  pub jobs : (to : ℤ) → v.jobs to ≡ still_given c (accepted_of c h.arrivals) h.given to

-- The distributed unit stands for a history, where these uplink allocations are planned: beside what both units keep, the claims of
-- every slot are the plan's.
pub record StandsByPlan (answers : ℕ → Slot → Type 0) (c : Config) (planned : List Allocation) (v : Kept) (h : History) : Type 0 where
  pub kept : IsKept Du answers c (du_known c planned h.arrivals) v h
  pub claims : (e : EndpointConfig) (cell : Cell) (re : ℕ) → IsCell c e cell → cell.down ≡ false → re < 12 → v.known.claims cell re ≡ claim_at planned cell re

-- it has heard nothing yet
abbrev pub planned_yet : Config → List Allocation → List ℕ → Assembly → Kept
planned_yet c planned counts assembly =
    record { clock = first_clock; counts = counts; known = du_known c planned []; assembly = assembly }
