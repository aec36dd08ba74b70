-- The configurations, plans and events whose explanations are drawable.
use Rattle.std.specs.Prelude.{◌≡◌, ℕ, ℤ, ◌+◌, ◌^◌, ◌<◌, ◌≤◌, All, List, [], Some, None, true, false}
use Rattle.std.specs.List.{AllByRecursion}
use Rattle.air_source.specs.declared.events.AirCell.{AirCell}
use Rattle.air_source.specs.declared.events.Event.{Event}
use Rattle.air_source.specs.declared.events.Event.TheVariants as event
use Rattle.air_source.specs.declared.events.Side.{Side}
use Rattle.drawn_laws.specs.Drawable.{IsDrawable, IsNear, IsShort}
use Rattle.explain_model.specs.Subjects.{Subject, reasons_of}
use Rattle.explain_model.specs.Stories.{arrival_count}
use Rattle.explain_model.specs.Text.{explained}
use Rattle.fh_base.specs.Carrier.{is_outside}
use Rattle.fh_base.specs.Numbering.{code_of, offsets_of, slots_of, symbols_of}
use Rattle.fh_base.specs.Spacing.{is_normal_code}
use Rattle.plan_model.specs.Lines.{planned}
use Rattle.plan_model.specs.declared.lines.PlannedLine.{PlannedLine}
use Rattle.unit_model.specs.Heard.{arrivals_heard}
use Rattle.unit_model.specs.Meetings.{find_endpoint}
use Rattle.unit_model.specs.Proper.{IsSlot, IsTime}
use Rattle.unit_model.specs.Standing.{AreInTime}
use Rattle.window_config.specs.Configs.{IsConfig}
use Rattle.window_config.specs.Plans.{IsPlanLine}
use Rattle.window_config.specs.declared.config.Config.{Config}
use Rattle.window_config.specs.declared.endpoints.EndpointConfig.{EndpointConfig}

-- ---- a configuration and a plan

-- an id of 16 bits, and 1.25 or 5 kHz at an offset endpoint alone
pub record IsNamed (e : EndpointConfig) : Type 0 where
  pub id : e.id < 2 ^ 16
  pub spacing : offsets_of e.numerology ≡ None → is_normal_code (code_of e.numerology) ≡ true

-- a line of its endpoint, whose slot, symbols and PRBs are those of the endpoint
pub record IsPlacedLine (es : List EndpointConfig) (p : PlannedLine) : Type 0 where
  pub named : find_endpoint es p.endpoint.id ≡ Some (p.ep, p.endpoint)
  pub fits : IsPlanLine p.line
  pub slot : p.line.slot.slot < slots_of p.endpoint.numerology
  pub within : p.line.symbol + p.line.count ≤ symbols_of p.endpoint.numerology
  pub prbs : is_outside p.endpoint.prbs p.line.start_prb p.line.num_prb ≡ false

pub record IsDrawnSubject (s : Subject) : Type 0 where
  pub config : IsConfig s.config
  pub named : AllByRecursion IsNamed s.config.endpoints
  pub plan : AllByRecursion (IsPlacedLine s.config.endpoints) (planned s.config.endpoints s.plan)
  pub numbers : AllByRecursion IsShort s.numbers

-- ---- events

-- a cell of an endpoint, in its slots, its symbols and its carrier
pub record IsPlacedCell (es : List EndpointConfig) (a : AirCell) : Type 0 where
  pub at : IsNear a.at.0
  pub section : a.section < 2 ^ 12
  pub ep : ℕ
  pub endpoint : EndpointConfig
  pub named : find_endpoint es a.id ≡ Some (ep, endpoint)
  pub slot : IsSlot endpoint.numerology a.slot
  pub symbol : a.symbol < symbols_of endpoint.numerology
  pub prb : a.prb < endpoint.prbs

abbrev pub IsPlacedEvent : List EndpointConfig → Event → Type 0
IsPlacedEvent es (event.Cell a) = IsPlacedCell es a
IsPlacedEvent es (event.Arrival side at frame) = Unit {0}
IsPlacedEvent es (event.Delay at side id value) = Unit {0}
IsPlacedEvent es (event.Count side counter value) = Unit {0}

-- the arrivals at each unit are in the order of their times, and the number of all has at most 16 digits
pub record AreDrawnEvents (c : Config) (events : List Event) : Type 0 where
  pub clock : ℤ
  pub order : (side : Side) → AreInTime clock (arrivals_heard side [] events)
  pub times : (side : Side) → All (λ a. IsTime a.at) (arrivals_heard side [] events)
  pub few : IsShort (arrival_count events)
  pub cells : AllByRecursion (IsPlacedEvent c.endpoints) events

-- ---- their explanation

abbrev pub EventsAreDrawable : Type 0
EventsAreDrawable = (s : Subject) (events : List Event) → IsDrawnSubject s → AreDrawnEvents s.config events → IsDrawable (explained false s.config (reasons_of s events) events)
