-- What is known of what a unit heard, where its frames were received in time (this project's profile).
use Rattle.explain_heard.specs.declared.heard.Heard.{Heard}
use Rattle.explain_heard.specs.declared.heard.Heard.TheVariants as heard
use Rattle.unit_model.specs.Headings.{IsSoundHeading}
use Rattle.unit_model.specs.Proper.{IsTime}
use Rattle.unit_model.specs.Sound.{IsSoundCommand}

-- a section names a slot and a symbol of its endpoint, and a complete message was received at a time that a unit is given
abbrev pub IsSoundHeard : Heard → Type 0
IsSoundHeard (heard.Message m) = Unit {0}
IsSoundHeard (heard.Command s v) = IsSoundCommand s
IsSoundHeard (heard.Fragment f) = Unit {0}
IsSoundHeard (heard.Whole w) = IsTime w.last.0
IsSoundHeard (heard.Data h v) = IsSoundHeading h
