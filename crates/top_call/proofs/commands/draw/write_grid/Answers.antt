use Rattle.pictures.specs.Picture.{drawn as grid_of, span_of}
use Rattle.top_call.proofs.Drawn.{drawn_as}
use Rattle.top_call.proofs.commands.draw.write_grid.Goals as goal

pub returns : goal.returns
returns g c =
    drawn_as (grid_of (span_of c.args.frame c.args.subframe c.args.count) c.args.bytes.now) _ _ _ _ c.draw_grid.result c.drawn_status.result c.drawn_status.ensures c.draw_grid.ensures.draws c.draw_grid.ensures.cause
