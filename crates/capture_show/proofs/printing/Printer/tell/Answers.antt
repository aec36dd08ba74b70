use Rattle.std.proofs.Common.{refl}
use Rattle.capture_show.proofs.Telling.{told_one, stopped_one}
use Rattle.capture_show.proofs.printing.Printer.tell.Goals as goal
use Rattle.fh_base.proofs.OwedTelling.{anyhow}

pub returns-in_err-tell_piece-clause-part : goal.returns-in_err-tell_piece-clause-part
returns-in_err-tell_piece-clause-part g c = anyhow c.from_residual.result (stopped_one _ _ _ _ _ _ c.in_err-tell_piece.ensures.part)

pub returns-clause-told : goal.returns-clause-told
returns-clause-told g c = told_one _ _ _ _ _ _ _ _ _ c.in_ok-tell_piece.ensures.carried c.in_ok-tell_piece.ensures.json refl
