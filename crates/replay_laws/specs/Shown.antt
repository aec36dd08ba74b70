-- What a cell shows was received in time: its samples in one message of data whose fragments all lay in their window; at the radio unit
-- each of its elements by a command that was on time and was accepted, at the distributed unit by an allocation of the plan
-- (O-RAN.WG4.CUS for the windows; the rest is this project's profile).
--
-- `data_of` are the sections of complete messages among all frames that landed, and none else: a message becomes complete only by
-- fragments that landed and are stored together in one generation, which holds for as long as the configuration says (`data_sections`,
-- `whole_now`); the time of its first fragment and that of its last are kept with each section.
use Rattle.std.specs.Prelude.{◌≡◌, ℕ, ℤ, ◌-◌, ◌<◌, ◌≤ℤ◌, true, false, All, Contains, List, ◌∷◌, ◌++◌, Some, slice_get}
use Rattle.fh_base.specs.Air.{air_of}
use Rattle.bfp_codec.specs.declared.samples.Wide.{Wide}
use Rattle.air_source.specs.declared.events.AirCell.{AirCell}
use Rattle.air_source.specs.declared.events.Side.{Side}
use Rattle.air_source.specs.declared.events.Side.TheVariants.{Ru, Du}
use Rattle.window_config.specs.Classes.{IsOnTime, IsOnTimeUp}
use Rattle.window_config.specs.Windows.{data_window_of}
use Rattle.window_config.specs.declared.config.Config.{Config}
use Rattle.window_config.specs.declared.delays.Delays.{Delays}
use Rattle.window_config.specs.declared.endpoints.EndpointConfig.{EndpointConfig}
use Rattle.window_config.specs.declared.verdicts.Class.TheVariants.{OnTime}
use Rattle.unit_model.specs.Blocks.{block_of, data_class, data_covers, first_data_prb}
use Rattle.unit_model.specs.Claims.{cell_at, claim_at, in_mask, names}
use Rattle.unit_model.specs.Commands.{accepted, allocation_of, command_class, command_verdict}
use Rattle.unit_model.specs.Meetings.{Arrival}
use Rattle.unit_model.specs.Proper.{IsAt}
use Rattle.unit_model.specs.Reports.{commands_of, data_of}
use Rattle.unit_model.specs.declared.allocations.Allocation.{Allocation}
use Rattle.unit_model.specs.declared.cells.Cell.{Cell}
use Rattle.unit_model.specs.declared.cells.Claim.{Claim}
use Rattle.unit_model.specs.declared.decoded.ControlSection.{ControlSection}
use Rattle.unit_model.specs.declared.decoded.UserSection.{UserSection}
use Rattle.unit_model.specs.declared.verdicts.CommandVerdict.TheVariants.{Accepted}
use Rattle.replay_laws.specs.Events.{events}
use Rattle.unit_model.specs.Heard.{cells_heard}
use Rattle.replay_laws.specs.Moments.{all_arrivals}
use Rattle.replay_laws.specs.Passing.{AreLandings}
use Rattle.replay_laws.specs.Traffic.{Traffic, landings_at}
use Rattle.air_source.specs.Units.{is_down}

-- the cell that a unit reported, of the endpoint with this index
abbrev pub cell_shown : Side → ℕ → AirCell → Cell
cell_shown side ep a = cell_at ep (is_down side) a.slot a.symbol a.prb

-- a message of data was received within its window, of a symbol that starts then: before it at the radio unit, after it at the
-- distributed unit
abbrev pub IsInWindow : Side → Delays → ℤ → ℤ → ℤ → Type 0
IsInWindow Ru d first last start = IsOnTime first last start (data_window_of d)
IsInWindow Du d first last start = IsOnTimeUp first last start d.ta4

-- a section of data that landed gave these samples: it covers the cell, its fragments from the first to the last lie in the window
-- of the cell's symbol, it has the cell's section id, and the samples are its block for the cell's PRB
pub record GaveSamples (side : Side) (c : Config) (arrivals : List Arrival) (ep : ℕ) (a : AirCell) (samples : List Wide) : Type 0 where
  pub part : UserSection
  pub landed : Contains (data_of side c arrivals) part
  pub covers : data_covers part (cell_shown side ep a) ≡ true
  pub on_time : data_class side c.delays part ≡ OnTime
  pub order : part.first.0 ≤ℤ part.last.0
  pub in_window : IsInWindow side c.delays part.first.0 part.last.0 a.at.0
  pub section : part.section.id ≡ a.section
  pub samples_are : (block_of part (cell_shown side ep a)).samples ≡ samples
  pub samples_there : slice_get part.blocks (a.prb - first_data_prb part) ≡ Some samples

-- a command that landed at the radio unit, after the earlier ones and before the later ones, gave an element of the cell: it names the
-- element and is not idle, it was on time, it was accepted over what the earlier ones left, and it has the cell's section id
pub record GaveElement (c : Config) (arrivals : List Arrival) (ep : ℕ) (a : AirCell) (re : ℕ) : Type 0 where
  pub later : List ControlSection
  pub command : ControlSection
  pub earlier : List ControlSection
  pub landed : commands_of Ru c arrivals ≡ later ++ command ∷ earlier
  pub named : names (allocation_of command) (cell_shown Ru ep a) re ≡ true
  pub busy : (allocation_of command).idle ≡ false
  pub on_time : command_class c.delays command ≡ OnTime
  pub accepted_is : command_verdict c.delays (accepted c.delays earlier) command ≡ Accepted
  pub section : command.section.id ≡ a.section

-- an allocation of the plan gave it: it names the element and is not idle, and it has the cell's section id
pub record PlannedElement (planned : List Allocation) (ep : ℕ) (a : AirCell) (re : ℕ) : Type 0 where
  pub allocation : Allocation
  pub there : Contains planned allocation
  pub named : names allocation (cell_shown Du ep a) re ≡ true
  pub busy : allocation.idle ≡ false
  pub section : allocation.section ≡ a.section

abbrev pub ElementIsGiven : Side → Config → List Allocation → List Arrival → ℕ → AirCell → ℕ → Type 0
ElementIsGiven Ru c planned arrivals ep a re = GaveElement c arrivals ep a re
ElementIsGiven Du c planned arrivals ep a re = PlannedElement planned ep a re

-- a cell of the unit, of an endpoint of the configuration, at its symbol's start, whose elements were commanded in time or planned, and
-- whose samples, where it has some, were received in time
pub record IsInTime (side : Side) (c : Config) (planned : List Allocation) (arrivals : List Arrival) (a : AirCell) : Type 0 where
  pub side_is : a.side ≡ side
  pub ep : ℕ
  pub endpoint : EndpointConfig
  pub endpoint_is : IsAt c.endpoints ep endpoint
  pub id : a.id ≡ endpoint.id
  pub at : a.at.0 ≡ air_of endpoint.numerology a.slot a.symbol
  pub elements_given : (re : ℕ) → re < 12 → in_mask a.mask re ≡ true → ElementIsGiven side c planned arrivals ep a re
  pub samples_given : (samples : List Wide) → a.block ≡ Some samples → GaveSamples side c arrivals ep a samples

-- so it is with each cell of the unit among the events
abbrev pub IsShownInTime : Side → Config → Traffic → Type 0
IsShownInTime side c t = All (IsInTime side c t.planned (all_arrivals (landings_at side t))) (cells_heard side (events c t))

-- all claims in a cell have one section id: an overlap is refused by the radio unit, and by the test of a plan
abbrev pub HaveOneId : List Allocation → Cell → Type 0
HaveOneId allocations cell =
    (re other : ℕ) (k l : Claim) → re < 12 → other < 12 → claim_at allocations cell re ≡ Some k → claim_at allocations cell other ≡ Some l → k.id ≡ l.id

-- at each unit, in every configuration, for all frames that may be replayed, and any plan without overlaps
abbrev pub ShownOnlyInTime : Type 0
ShownOnlyInTime =
    (c : Config) (t : Traffic) → AreLandings t.at_ru → AreLandings t.at_du → ((cell : Cell) → HaveOneId t.planned cell)
    → (side : Side) → IsShownInTime side c t
