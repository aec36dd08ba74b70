-- The sign of a distance is the class (this project's profile).
use Rattle.std.specs.Prelude.{◌≡◌, pos, int_lt, ⊤, List, Option, Some, None}
use Rattle.std.specs.List.{AllByRecursion}
use Rattle.air_source.specs.declared.events.Event.{Event}
use Rattle.window_config.specs.Classes.{classified}
use Rattle.window_config.specs.declared.config.Config.{Config}
use Rattle.window_config.specs.declared.verdicts.Class.{Class}
use Rattle.explain_model.specs.declared.places.Timing.{Timing}
use Rattle.explain_model.specs.declared.values.ExplainLine.{ExplainLine}
use Rattle.explain_model.specs.declared.values.ExplainLine.TheVariants as line
use Rattle.explain_model.specs.Cells.{event_lines}
use Rattle.explain_model.specs.Margins.{control_class, data_class_of}

-- late where the close of the window is past, else early where its opening is to follow, else on time
abbrev pub class_by : Timing → Class
class_by t = classified (int_lt t.until (pos 0)) (int_lt t.since (pos 0))

-- a class is that one; a mismatch has none
abbrev pub IsBySign : Option Class → Timing → Type 0
IsBySign None t = ⊤
IsBySign (Some class) t = class ≡ class_by t

-- in the line of a section the verdict's class is that of the distances
abbrev pub HasSign : ExplainLine → Type 0
HasSign (line.Control s) = IsBySign (control_class s.verdict) s.timing
HasSign (line.Data s) = IsBySign (Some (data_class_of s.verdict)) s.timing
HasSign _ = ⊤

-- in every line of events
abbrev pub SignsAreClasses : Config → List Event → Type 0
SignsAreClasses c events = AllByRecursion HasSign (event_lines c events)

-- in every configuration, of every list of events
abbrev pub EachSignIsItsClass : Type 0
EachSignIsItsClass = (c : Config) (events : List Event) → SignsAreClasses c events
