use Rattle.window_plan.specs.Fitting.{fitted}
use Rattle.top_call.specs.Answers.{fit_shown}
use Rattle.top_call.proofs.Written.{put_as, fit_is_verdict}
use Rattle.top_call.proofs.commands.fit.show_fit.Goals as goal

pub returns : goal.returns
returns g c =
    put_as (fit_shown c.args.delays.now) _ _ _ _ _ _ c.put_fit.result c.fitted_status-status.result _ c.ending_of.ensures c.fitted_status-status.ensures
    (fit_is_verdict (fitted c.args.delays.now)) c.put_fit.ensures.ok c.put_fit.ensures.front c.put_fit.ensures.part c.put_fit.ensures.cause
