-- A frame of a unit, and what the unit judged of it.
use Rattle.std.specs.Prelude.{◌≡◌, ℕ, ℤ, suc, All, List, [], length}
use Rattle.air_source.specs.declared.events.Event.{Event}
use Rattle.air_source.specs.declared.events.Side.{Side}
use Rattle.ecpri_frames.specs.Messages.{pdu}
use Rattle.explain_heard.specs.Heard.{all_heard}
use Rattle.explain_heard.specs.Judged.{all_judged}
use Rattle.explain_heard.specs.declared.judged.Judged.{Judged}
use Rattle.explain_model.specs.Stories.{arrival_count, arrival_with}
use Rattle.explain_model.specs.declared.values.ExplainLine.{ExplainLine}
use Rattle.explain_model.specs.declared.values.ExplainLine.TheVariants as line
use Rattle.explain_units.specs.declared.frames.FrameHeard.{FrameHeard}
use Rattle.unit_laws.specs.Sound.{IsSoundJudgement}
use Rattle.unit_model.specs.Heard.{arrivals_heard}
use Rattle.unit_model.specs.Judgements.{Judgement, judgements}
use Rattle.window_config.specs.Configs.{IsConfig}
use Rattle.window_config.specs.declared.config.Config.{Config}

-- its own line
abbrev pub line_of : FrameHeard → ExplainLine
line_of f = line.Frame f.number f.side f.at f.bytes f.refusal

-- what the unit judges of a frame that arrives after these events
abbrev pub judged_next : Side → Config → List Event → ℤ → List ℕ → List Judgement
judged_next side c events at frame = judgements side c (arrivals_heard side [] events) (arrival_with at frame)

-- the frame has these bytes and is received after these events, and this was judged of it; the judgements are on endpoints of a configuration
pub record IsFrame (c : Config) (events : List Event) (bytes : List ℕ) (f : FrameHeard) (judged : List Judged) : Type 0 where
  pub config : IsConfig c
  pub sound : All (IsSoundJudgement c.endpoints) (judged_next f.side c events f.at.0 bytes)
  pub number_is : f.number ≡ suc (arrival_count events)
  pub bytes_are : f.bytes ≡ length bytes
  pub refusal_is : f.refusal ≡ (pdu bytes).refusal
  pub judged_is : judged ≡ all_judged f.side c.delays (all_heard f.side c.endpoints (judged_next f.side c events f.at.0 bytes))
