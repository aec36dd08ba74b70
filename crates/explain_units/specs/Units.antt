-- What is kept of a unit after some events, and the lines of a further frame of it.
use Rattle.std.specs.Prelude.{◌≡◌, ℕ, ℤ, List, [], false}
use Rattle.air_source.specs.Units.{same_side}
use Rattle.air_source.specs.declared.events.Event.{Event}
use Rattle.air_source.specs.declared.events.Event.TheVariants as event
use Rattle.air_source.specs.declared.events.Side.{Side}
use Rattle.explain_units.specs.Laws.{kept_from}
use Rattle.explain_model.specs.declared.values.ExplainLine.{ExplainLine}
use Rattle.explain_model.specs.Judged.{judged_before}
use Rattle.explain_model.specs.Margins.{dated}
use Rattle.explain_model.specs.Sections.{story_lines}
use Rattle.explain_model.specs.Stories.{arrival_with, stories, story, told}
use Rattle.explain_units.specs.Known.{IsKnown}
use Rattle.explain_units.specs.Knowing.{known_of}
use Rattle.explain_units.specs.declared.units.UnitLines.{UnitLines}
use Rattle.unit_model.specs.Heard.{arrivals_heard}
use Rattle.window_config.specs.declared.config.Config.{Config}

-- after these events: what lines say of earlier judgements is what the unit judged
pub record IsUnitAfter (side : Side) (c : Config) (events : List Event) (u : UnitLines) : Type 0 where
  pub side_is : u.side ≡ side
  pub earlier : IsKnown c (kept_from side (stories c events)) (judged_before side (told c events)) (dated side c events) (known_of u.earlier)

-- the lines of a frame that arrives then, where it is the arrival with this number
abbrev pub frame_lines : Side → Config → List Event → ℕ → ℤ → List ℕ → List ExplainLine
frame_lines side c events number at frame =
    story_lines c (judged_before side (told c events)) (story c number side (arrivals_heard side [] events) (arrival_with at frame))

-- an event that is no arrival at the unit
abbrev pub IsElsewhere : Side → Event → Type 0
IsElsewhere side (event.Arrival at_side at frame) = same_side at_side side ≡ false
IsElsewhere side (event.Cell a) = Unit {0}
IsElsewhere side (event.Delay at at_side id value) = Unit {0}
IsElsewhere side (event.Count at_side counter value) = Unit {0}
