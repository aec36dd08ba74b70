-- The margins of a unit's endpoints, as sections are received.
use Rattle.std.specs.Prelude.{ℕ, zero, suc, List, [], ◌∷◌, map, ◌==◌, Bool, not, ◌||◌, pos}
use Rattle.explain_units.specs.declared.kept_margins.EndpointMargins.{EndpointMargins}
use Rattle.explain_model.specs.declared.places.Timing.{Timing}
use Rattle.explain_model.specs.declared.values.Margin.{Margin}
use Rattle.explain_model.specs.declared.values.MarginClass.{MarginClass}
use Rattle.explain_model.specs.declared.values.MarginClass.TheVariants.{Down, Up, Data}
use Rattle.explain_model.specs.Growing.{margin_by}
use Rattle.explain_model.specs.Margins.{Dated, dated_at, margin_of}
use Rattle.window_config.specs.declared.endpoints.EndpointConfig.{EndpointConfig}
use Rattle.window_config.specs.declared.verdicts.Class.{Class}

abbrev pub no_margin : Margin
no_margin = record { ontime = 0; least = record { since = pos 0; until = pos 0 }; late = 0; late_by = 0; early = 0; early_by = 0 }

abbrev pub no_margins : EndpointConfig → EndpointMargins
no_margins e = record { id = e.id; down = no_margin; up = no_margin; «data» = no_margin }

-- it is of a section
abbrev pub is_of_some : Margin → Bool
is_of_some m = not (m.ontime == 0) || (not (m.late == 0) || not (m.early == 0))

-- with one section more
abbrev pub with_one : MarginClass → Class → Timing → EndpointMargins → EndpointMargins
with_one Down class t m = record m { down = margin_by class m.down t }
with_one Up class t m = record m { up = margin_by class m.up t }
with_one Data class t m = record m { «data» = margin_by class m.«data» t }

-- the margins with one section more of the endpoint with this index; after the last one none changes
abbrev pub added_at : ℕ → MarginClass → Class → Timing → List EndpointMargins → List EndpointMargins
added_at k of class t [] = []
added_at zero of class t (m ∷ ms) = with_one of class t m ∷ ms
added_at (suc k) of class t (m ∷ ms) = m ∷ added_at k of class t ms

-- ---- the margins of the lines

-- those of an endpoint after these sections of its unit
abbrev pub margins_by : List Dated → EndpointConfig → EndpointMargins
margins_by ds e = record { id = e.id; down = margin_of (dated_at Down e.id ds); up = margin_of (dated_at Up e.id ds); «data» = margin_of (dated_at Data e.id ds) }

abbrev pub margins_after : List EndpointConfig → List Dated → List EndpointMargins
margins_after es ds = map (margins_by ds) es
