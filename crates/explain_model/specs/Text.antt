-- The text of an explanation, and of its faults alone (this project's profile).
use Rattle.std.specs.Prelude.{ℕ, ◌==◌, Bool, true, false, ◌&&◌, is_some, if◌then◌else◌, List, [], ◌∷◌, ◌++◌, length, map, filter}
use Rattle.std.specs.List.{flat_map}
use Rattle.air_source.specs.Units.{same_side}
use Rattle.air_source.specs.declared.events.Event.{Event}
use Rattle.air_source.specs.declared.events.Event.TheVariants as event
use Rattle.air_source.specs.declared.events.Side.{Side}
use Rattle.air_source.specs.declared.events.Side.TheVariants.{Ru, Du}
use Rattle.window_config.specs.Windows.{cp_dl_of}
use Rattle.window_config.specs.declared.config.Config.{Config}
use Rattle.window_config.specs.declared.delays.Delays.{Delays}
use Rattle.window_config.specs.declared.endpoints.EndpointConfig.{EndpointConfig}
use Rattle.explain_model.specs.Lines.{lines_text}
use Rattle.explain_model.specs.Faults.{is_fault}
use Rattle.explain_model.specs.declared.values.ExplainLine.{ExplainLine}
use Rattle.explain_model.specs.declared.values.ExplainLine.TheVariants as line
use Rattle.explain_model.specs.declared.values.WindowName.TheVariants.{T1aUp, T1aCpDl, T1aCpUl, T2aUp, T2aCpDl, T2aCpUl, Ta3, Ta4}
use Rattle.explain_model.specs.Cells.{event_lines}
use Rattle.explain_model.specs.Margins.{margin_lines}

-- ---- what is before the events

abbrev pub window_lines : Delays → List ExplainLine
window_lines d = line.Window T1aUp d.t1a_up ∷ line.Window T1aCpDl (cp_dl_of d.t1a_up d.advance) ∷ line.Window T1aCpUl d.t1a_cp_ul
    ∷ line.Window T2aUp d.t2a_up ∷ line.Window T2aCpDl (cp_dl_of d.t2a_up d.advance) ∷ line.Window T2aCpUl d.t2a_cp_ul
    ∷ line.Window Ta3 d.ta3 ∷ line.Window Ta4 d.ta4 ∷ []

abbrev pub endpoint_lines : List EndpointConfig → List ExplainLine
endpoint_lines es = map line.Endpoint es

abbrev pub first_lines : Config → List ExplainLine
first_lines c = window_lines c.delays ++ endpoint_lines c.endpoints

-- ---- what is after them

-- a cell of the unit and of the endpoint with this id, with samples
abbrev pub is_shown : Side → ℕ → Event → Bool
is_shown side id (event.Cell a) = same_side a.side side && ((a.id == id) && is_some a.block)
is_shown side id (event.Arrival at_side at frame) = false
is_shown side id (event.Delay at at_side number value) = false
is_shown side id (event.Count at_side counter value) = false

unfoldable pub shown_count : Side → ℕ → List Event → ℕ
shown_count side id events = length (filter (is_shown side id) events)

abbrev pub shown_by : Side → ℕ → ℕ → List ExplainLine
shown_by side id number = if number == 0 then [] else line.ShownCells side id number ∷ []

-- What the reasons add: the lines of why and of unused blocks, and for each unit and endpoint the sums of what is missing or silent.
pub record Reasoned : Type 0 where
  pub whys : List ExplainLine
  pub sums : Side → EndpointConfig → List ExplainLine

-- the sums of an endpoint, what is shown first
abbrev pub sums_of : Side → Reasoned → List Event → EndpointConfig → List ExplainLine
sums_of side r events e = shown_by side e.id (shown_count side e.id events) ++ r.sums side e

abbrev pub sum_lines : Config → Reasoned → List Event → List ExplainLine
sum_lines c r events = flat_map (sums_of Ru r events) c.endpoints ++ flat_map (sums_of Du r events) c.endpoints

abbrev pub count_line : Event → List ExplainLine
count_line (event.Count side counter value) = line.Count side counter value ∷ []
count_line (event.Cell a) = []
count_line (event.Arrival at_side at frame) = []
count_line (event.Delay at at_side number value) = []

-- the counters
abbrev pub count_lines : List Event → List ExplainLine
count_lines events = flat_map count_line events

abbrev pub last_lines : Config → Reasoned → List Event → List ExplainLine
last_lines c r events = r.whys ++ (margin_lines c events ++ (sum_lines c r events ++ (count_lines events ++ line.End ∷ [])))

-- ---- the text

-- all lines but the first
abbrev pub lines_of : Config → Reasoned → List Event → List ExplainLine
lines_of c r events = first_lines c ++ (event_lines c events ++ last_lines c r events)

-- of these the ones that are kept, and before them the first, which says which they are
abbrev pub kept : Bool → List ExplainLine → List ExplainLine
kept true lines = filter is_fault lines
kept false lines = lines

abbrev pub explained : Bool → Config → Reasoned → List Event → List ExplainLine
explained faults c r events = line.Head faults ∷ kept faults (lines_of c r events)

unfoldable pub explain_of : Bool → Config → Reasoned → List Event → List ℕ
explain_of faults c r events = lines_text (explained faults c r events)
