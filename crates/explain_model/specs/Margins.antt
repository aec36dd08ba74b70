-- How near to the ends of their windows the sections of an endpoint were received (this project's profile).
use Rattle.std.specs.Prelude.{ℕ, ℤ, pos, ◌==◌, max, if◌then◌else◌, Bool, true, false, ◌&&◌, List, [], ◌∷◌, ◌++◌, fold, length, map, filter, Option, Some, None}
use Rattle.std.specs.Int.{int_gap, int_min}
use Rattle.std.specs.List.{flat_map}
use Rattle.air_source.specs.declared.events.Side.{Side}
use Rattle.air_source.specs.declared.events.Side.TheVariants.{Ru, Du}
use Rattle.window_config.specs.declared.config.Config.{Config}
use Rattle.window_config.specs.declared.delays.Delays.{Delays}
use Rattle.window_config.specs.declared.endpoints.EndpointConfig.{EndpointConfig}
use Rattle.window_config.specs.declared.verdicts.Class.{Class}
use Rattle.window_config.specs.declared.verdicts.Class.TheVariants.{OnTime, Late, Early}
use Rattle.unit_model.specs.declared.verdicts.CommandVerdict.{CommandVerdict}
use Rattle.unit_model.specs.declared.verdicts.CommandVerdict.TheVariants as control
use Rattle.unit_model.specs.declared.verdicts.DataVerdict.{DataVerdict}
use Rattle.unit_model.specs.declared.verdicts.DataVerdict.TheVariants as user
use Rattle.unit_model.specs.Judgements.{Judgement, Met, Commanded, Fragmented, Unread, Turned, Given}
use Rattle.explain_model.specs.declared.places.Timing.{Timing}
use Rattle.explain_model.specs.declared.values.ExplainLine.{ExplainLine}
use Rattle.explain_model.specs.declared.values.ExplainLine.TheVariants as line
use Rattle.explain_model.specs.declared.values.Margin.{Margin}
use Rattle.explain_model.specs.declared.values.MarginClass.{MarginClass}
use Rattle.explain_model.specs.declared.values.MarginClass.TheVariants.{Down, Up, Data}
use Rattle.explain_model.specs.Stories.{Story, stories}
use Rattle.explain_model.specs.Timings.{control_timing, data_timing}
use Rattle.air_source.specs.Units.{same_side}
use Rattle.air_source.specs.declared.events.Event.{Event}

-- ---- the class of a section, by its verdict

-- a mismatch has none
abbrev pub control_class : CommandVerdict → Option Class
control_class control.Mismatch = None
control_class control.Late = Some Late
control_class control.Early = Some Early
control_class control.Range = Some OnTime
control_class control.Repeat = Some OnTime
control_class control.Overlap = Some OnTime
control_class control.Full = Some OnTime
control_class control.Accepted = Some OnTime

abbrev pub data_class_of : DataVerdict → Class
data_class_of user.Late = Late
data_class_of user.Early = Early
data_class_of user.Repeat = OnTime
data_class_of user.Taken = OnTime

-- a section: of which it is, its endpoint's id, its class and how far it is from the ends of its window
pub record Dated : Type 0 where
  pub of : MarginClass
  pub id : ℕ
  pub class : Class
  pub timing : Timing

abbrev pub way_of : Bool → MarginClass
way_of true = Down
way_of false = Up

abbrev pub dated_by : MarginClass → ℕ → Option Class → Timing → List Dated
dated_by of id None timing = []
dated_by of id (Some class) timing = record { of = of; id = id; class = class; timing = timing } ∷ []

-- what is judged of a section, as such
abbrev pub dated_of : Side → Delays → Judgement → List Dated
dated_of side d (Met m) = []
dated_of side d (Commanded s v) = dated_by (way_of s.head.down) s.endpoint.id (control_class v) (control_timing d s)
dated_of side d (Fragmented e f v) = []
dated_of side d (Unread ep e m why) = []
dated_of side d (Turned ep e m) = []
dated_of side d (Given h v) = dated_by Data h.endpoint.id (Some (data_class_of v)) (data_timing side d h)

-- the sections of a unit, in the order of its arrivals
abbrev pub dated_in : Side → Delays → Story → List Dated
dated_in side d s = if same_side s.side side then flat_map (dated_of side d) s.judged else []

unfoldable pub dated : Side → Config → List Event → List Dated
dated side c events = flat_map (dated_in side c.delays) (stories c events)

-- ---- their margin

abbrev pub same_class : Class → Class → Bool
same_class OnTime OnTime = true
same_class Late Late = true
same_class Early Early = true
same_class _ _ = false

abbrev pub same_margin : MarginClass → MarginClass → Bool
same_margin Down Down = true
same_margin Up Up = true
same_margin Data Data = true
same_margin _ _ = false

abbrev pub timings : Class → List Dated → List Timing
timings class ds = map (λ d. d.timing) (filter (λ d. same_class d.class class) ds)

abbrev pub least : List ℤ → ℤ
least [] = pos 0
least (x ∷ xs) = fold int_min x xs

abbrev pub greatest : List ℕ → ℕ
greatest ns = fold max 0 ns

-- the distances of a late one from the close of its window, and of an early one from its opening
abbrev pub late_by : Timing → ℕ
late_by t = int_gap t.until (pos 0)

abbrev pub early_by : Timing → ℕ
early_by t = int_gap t.since (pos 0)

-- of those on time, late and early
abbrev pub margin_from : List Timing → List Timing → List Timing → Margin
margin_from ontime late early = record {
  ontime = length ontime;
  least = record { since = least (map (λ t. t.since) ontime); until = least (map (λ t. t.until) ontime) };
  late = length late;
  late_by = greatest (map late_by late);
  early = length early;
  early_by = greatest (map early_by early);
}

unfoldable pub margin_of : List Dated → Margin
margin_of ds = margin_from (timings OnTime ds) (timings Late ds) (timings Early ds)

-- those of an endpoint and of a class of sections
abbrev pub dated_at : MarginClass → ℕ → List Dated → List Dated
dated_at of id ds = filter (λ d. same_margin d.of of && (d.id == id)) ds

-- a line where there is a section
abbrev pub margin_line : Side → MarginClass → ℕ → List Dated → List ExplainLine
margin_line side of id [] = []
margin_line side of id (d ∷ ds) = line.Margin side of id (margin_of (d ∷ ds)) ∷ []

abbrev pub margins_of : Side → MarginClass → List EndpointConfig → List Dated → List ExplainLine
margins_of side of es ds = flat_map (λ e. margin_line side of e.id (dated_at of e.id ds)) es

abbrev pub margins_at : Side → List EndpointConfig → List Dated → List ExplainLine
margins_at side es ds = margins_of side Down es ds ++ (margins_of side Up es ds ++ margins_of side Data es ds)

-- of both units, all classes and all endpoints
unfoldable pub margin_lines : Config → List Event → List ExplainLine
margin_lines c events = margins_at Ru c.endpoints (dated Ru c events) ++ margins_at Du c.endpoints (dated Du c events)
