-- What holds of the lines of every replay (this project's profile).
use Rattle.window_config.specs.declared.config.Config.{Config}
use Rattle.replay_laws.specs.Events.{events}
use Rattle.replay_laws.specs.Traffic.{Traffic}
use Rattle.explain_model.specs.Text.{Reasoned}
use Rattle.explain_laws.specs.Counted.{LinesAreCounters}
use Rattle.explain_laws.specs.Each.{EachHasOneLine}
use Rattle.explain_laws.specs.Runs.{FaultsAreOfAll, RunsAreMaximal}
use Rattle.explain_laws.specs.Signs.{SignsAreClasses}

-- each judged thing has one line; each counter that a unit counts itself is the number of lines with its word; the sign of a distance is
-- the class; runs are maximal; one list of lines makes the whole text and that of the faults
pub record IsExplained (c : Config) (t : Traffic) (r : Reasoned) : Type 0 where
  pub each : EachHasOneLine c (events c t)
  pub counters : LinesAreCounters c t
  pub signs : SignsAreClasses c (events c t)
  pub runs : RunsAreMaximal c (events c t)
  pub faults : FaultsAreOfAll c r (events c t)

abbrev pub EachIsExplained : Type 0
EachIsExplained = (c : Config) (t : Traffic) (r : Reasoned) → IsExplained c t r
