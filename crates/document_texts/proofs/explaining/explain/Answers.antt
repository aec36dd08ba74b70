use Rattle.std.proofs.Common.{rules}
use Rattle.document_texts.proofs.DocumentLemmas.{explained}
use Rattle.document_texts.proofs.TellLemmas.{front_by, nothing_told}
use Rattle.why_lines.proofs.LineLemmas.{lines_fit}
use Rattle.document_texts.proofs.explaining.explain.Goals as goal
use Rattle.uplink_path.proofs.EmitLemmas.{on_ok as at_ok}
use Rattle.fh_base.proofs.CommonLemmas.{on_err as at_error}

pub kept_for-requires-clause-lines : goal.kept_for-requires-clause-lines
kept_for-requires-clause-lines g c =
    let d = c.args.document.now in
    lines_fit d.config d.plan c.requires.plan.config c.requires.plan.fit c.requires.plan.valid

pub returns-in_err-kept-clause-part : goal.returns-in_err-kept-clause-part
returns-in_err-kept-clause-part g c = at_error c.from_residual.result _ (nothing_told c.args.faults c.args.document.now (g.K.Sink.written c.args.out.now))

pub returns-clause-front : goal.returns-clause-front
returns-clause-front g c =
    let front = front_by c.tell_all-told.result _ _ _ c.tell_all-told.ensures.part c.tell_all-told.ensures.done in
    search (rules, front)

pub returns-clause-explained : goal.returns-clause-explained
returns-clause-explained g c =
    let holds = at_ok c.tell_all-told.result _ (explained c.args.document.now (record { document = c.requires.document; valid = c.requires.plan.valid })) in
    search (rules, holds)
