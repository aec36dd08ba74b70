-- The lines of the margins that are kept.
use Rattle.std.specs.Prelude.{List, [], ◌∷◌, ◌++◌, if◌then◌else◌}
use Rattle.std.specs.List.{flat_map}
use Rattle.air_source.specs.declared.events.Side.{Side}
use Rattle.explain_units.specs.Margins.{is_of_some}
use Rattle.explain_units.specs.declared.kept_margins.EndpointMargins.{EndpointMargins}
use Rattle.explain_model.specs.declared.values.ExplainLine.{ExplainLine}
use Rattle.explain_model.specs.declared.values.ExplainLine.TheVariants as line
use Rattle.explain_model.specs.declared.values.Margin.{Margin}
use Rattle.explain_model.specs.declared.values.MarginClass.{MarginClass}
use Rattle.explain_model.specs.declared.values.MarginClass.TheVariants.{Down, Up, Data}

abbrev pub margin_at : MarginClass → EndpointMargins → Margin
margin_at Down m = m.down
margin_at Up m = m.up
margin_at Data m = m.«data»

-- where it is of a section
abbrev pub margin_said : Side → MarginClass → EndpointMargins → List ExplainLine
margin_said side of m = if is_of_some (margin_at of m) then line.Margin side of m.id (margin_at of m) ∷ [] else []

abbrev pub class_said : Side → MarginClass → List EndpointMargins → List ExplainLine
class_said side of ms = flat_map (margin_said side of) ms

abbrev pub margins_said : Side → List EndpointMargins → List ExplainLine
margins_said side ms = class_said side Down ms ++ (class_said side Up ms ++ class_said side Data ms)
