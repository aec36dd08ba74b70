use Rattle.fh_base.proofs.OwedTelling.{anyhow}
use Rattle.pictures.proofs.Writing.{nothing_yet}
use Rattle.pictures.proofs.drawing.write_picture.Goals as goal

pub returns-in_err-head-clause-part : goal.returns-in_err-head-clause-part
returns-in_err-head-clause-part g c = anyhow c.from_residual.result (nothing_yet c.args.span c.args.endpoints.now c.args.text.now (g.K.Sink.written c.args.out.now))

pub returns-in_err-foot-clause-part : goal.returns-in_err-foot-clause-part
returns-in_err-foot-clause-part g c = anyhow c.from_residual-in_err-foot.result (nothing_yet c.args.span c.args.endpoints.now c.args.text.now (g.K.Sink.written c.args.out.now))
