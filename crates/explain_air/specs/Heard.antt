-- What is kept of events until the last of them (this project's profile).
use Rattle.std.specs.Prelude.{◌≡◌, ◌<◌, ◌^◌, ℕ, Bool, suc, List, None, Some, false}
use Rattle.air_source.specs.declared.events.Event.{Event}
use Rattle.air_source.specs.declared.events.Event.TheVariants.{Arrival}
use Rattle.air_source.specs.declared.events.Side.TheVariants.{Ru, Du}
use Rattle.air_source.specs.declared.events.Side.{Side}
use Rattle.explain_air.specs.LastFrames.{LastHeard, with_none}
use Rattle.explain_air.specs.Notes.{AreNotes, HasNoted}
use Rattle.explain_air.specs.Runs.{open_of}
use Rattle.explain_air.specs.declared.kept.Kept.{Kept}
use Rattle.explain_air.specs.declared.runs.RunLines.{RunLines}
use Rattle.explain_heard.specs.Judged.{all_judged}
use Rattle.explain_heard.specs.declared.heard.Heard.{Heard}
use Rattle.explain_model.specs.Subjects.{Subject}
use Rattle.explain_model.specs.declared.values.ExplainLine.{ExplainLine}
use Rattle.explain_model.specs.Cells.{closed_lines, open_run, run_lines}
use Rattle.explain_model.specs.Stories.{arrival_count, stories}
use Rattle.explain_units.specs.Frames.{IsFrame}
use Rattle.explain_units.specs.Units.{IsUnitAfter, frame_lines}
use Rattle.explain_units.specs.declared.frames.FrameHeard.{FrameHeard}
use Rattle.fh_base.specs.declared.values.Ticks.{Ticks}
use Rattle.explain_records.specs.Records.{HaveHeard}
use Rattle.plan_model.specs.Lines.{planned}
use Rattle.window_config.specs.Configs.{IsConfig}
use Rattle.window_config.specs.declared.config.Config.{Config}

-- it is what is kept of these events, and all their lines are told but that of an open run
pub record HasHeard (s : Subject) (events : List Event) (k : Kept) : Type 0 where
  pub config : IsConfig s.config
  pub number : k.number ≡ arrival_count events
  pub few : arrival_count events < 2 ^ 32
  pub ru : IsUnitAfter Ru s.config events k.ru
  pub du : IsUnitAfter Du s.config events k.du
  pub run : open_of k.runs ≡ open_run s.config events
  pub notes : AreNotes s.config.endpoints (closed_lines s.config events) k.runs.notes
  pub records : HaveHeard s.config (stories s.config events) k.records
  pub planned : k.plan.planned ≡ planned s.config.endpoints s.plan
  pub numbers : k.plan.numbers ≡ s.numbers
  pub told : k.last.frame ≡ None
  pub endpoints : k.last.endpoints ≡ s.config.endpoints
  pub delays : k.last.delays ≡ s.config.delays

-- the last frame has these bytes and arrived after these events, and this was heard of it, where memory was not wanting
pub record IsHeardOf (c : Config) (events : List Event) (bytes : List ℕ) (f : FrameHeard) (heard : List Heard) (wanting : Bool) : Type 0 where
  pub few : f.number < 2 ^ 32
  pub judged : wanting ≡ false → IsFrame c events bytes f (all_judged f.side c.delays heard)

abbrev pub IsLastOf : Config → List Event → List ℕ → FrameHeard → LastHeard → Type 0
IsLastOf c events bytes f l = IsHeardOf c events bytes f l.heard l.wanting

-- it is what is kept of these events and this frame after them, whose lines are not told yet
pub record HasPending (s : Subject) (events : List Event) (e : Event) (k : Kept) : Type 0 where
  pub frame : FrameHeard
  pub bytes : List ℕ
  pub event_is : e ≡ Arrival frame.side frame.at bytes
  pub frame_is : k.last.frame ≡ Some frame
  pub last : IsLastOf s.config events bytes frame k.last
  pub heard : HasHeard s events (record k { last = with_none k.last })

-- the run of the last cells was ended, and its line told
pub record HasEnded (s : Subject) (events : List Event) (k : Kept) : Type 0 where
  pub before : RunLines
  pub heard : HasHeard s events (record k { runs = before })
  pub none : open_of k.runs ≡ None
  pub noted : HasNoted before.notes (run_lines (open_of before)) k.runs.notes

-- the lines of a frame that arrives then
abbrev pub lines_at : Subject → List Event → Side → Ticks → List ℕ → List ExplainLine
lines_at s events side at frame = frame_lines side s.config events (suc (arrival_count events)) at.0 frame
