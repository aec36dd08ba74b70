use Rattle.pictures.specs.WindowPicture.{drawn as windows_of}
use Rattle.top_call.proofs.Drawn.{drawn_as}
use Rattle.top_call.proofs.commands.draw.write_arrivals.Goals as goal

pub returns : goal.returns
returns g c =
    drawn_as (windows_of c.args.bytes.now) _ _ _ _ c.draw_windows.result c.drawn_status.result c.drawn_status.ensures c.draw_windows.ensures.draws c.draw_windows.ensures.cause
