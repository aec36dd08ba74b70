use Rattle.std.proofs.Common.{refl}
use Rattle.fronthaul_replay.proofs.Cuts.{summary_none}
use Rattle.fronthaul_replay.proofs.FaultLemmas.{write_wanted}
use Rattle.fronthaul_replay.proofs.summary.summarize_document.Goals as goal
use Rattle.fh_base.proofs.CommonLemmas.{on_err as at_error}

pub returns-in_err-make-clause-part : goal.returns-in_err-make-clause-part
returns-in_err-make-clause-part g c = at_error c.from_residual.result _ (summary_none c.args.document.now (g.K.Sink.written c.args.out.now))

pub returns-in_err-make-clause-cause : goal.returns-in_err-make-clause-cause
returns-in_err-make-clause-cause g c = write_wanted (g.K.Sink.faults c.args.out.now) (g.K.Sink.faults c.args.out.now) c.from_residual.result c.from_residual.ensures.1 refl
