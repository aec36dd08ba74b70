use Rattle.fh_base.proofs.OwedTelling.{anyhow}
use Rattle.pictures.proofs.Drawn.{nothing_yet}
use Rattle.pictures.proofs.window_drawing.write_picture.Goals as goal

pub returns-in_err-picture-clause-part : goal.returns-in_err-picture-clause-part
returns-in_err-picture-clause-part g c = anyhow c.from_residual.result (nothing_yet c.args.windows.now c.args.rows.now (g.K.Sink.written c.args.out.now))
