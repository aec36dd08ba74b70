use Rattle.window_config.specs.Relations.{checked}
use Rattle.top_call.specs.Answers.{windows_shown}
use Rattle.top_call.proofs.Written.{put_as, check_is_verdict}
use Rattle.top_call.proofs.commands.windows.show_windows.Goals as goal

pub returns : goal.returns
returns g c =
    put_as (windows_shown c.args.config.now) _ _ _ _ _ _ c.put_windows.result c.checked_status-status.result _ c.ending_of.ensures c.checked_status-status.ensures
    (check_is_verdict (checked c.args.config.now.delays)) c.put_windows.ensures.ok c.put_windows.ensures.front c.put_windows.ensures.part c.put_windows.ensures.cause
