-- A unit that gave a message or none still stands for some history.
use Rattle.std.specs.Prelude.{◌≡◌, Option, Some, None, IfSome, IfNone}
use Rattle.std.proofs.Common.{sym, subst}
use Rattle.window_config.specs.declared.config.Config.{Config}
use Rattle.unit_model.specs.Standing.{History, handed}
use Rattle.unit_model.specs.declared.jobs.UplinkJob.{UplinkJob}
use Rattle.ru_buffers.specs.declared.unit.Ru.{Ru}
use Rattle.ru_buffers.specs.Calls.{GivesJob, StandsFor, StandsForSome}

pub gave : (c : Config) (h : History) (job : Option UplinkJob) (old new : Ru) → StandsFor c old h → IfSome job (λ j. GivesJob c h j new)
    → IfNone job (new ≡ old) → StandsForSome new
gave c h (Some j) old new all given same = record { config = c; history = handed h j; stands = given.stands }
gave c h None old new all given same = record { config = c; history = h; stands = subst (λ (u : Ru). StandsFor c u h) (sym same) all }
