use Rattle.std.proofs.Common.{◌≡◌, refl, subst, sym}
use Rattle.std.specs.Prelude.{OnOk}
use Rattle.std.specs.Io.KnownBytes.{append_known}
use Rattle.fh_base.specs.Told.{WritesFront}
use Rattle.fh_document.specs.Proper.{IsDocument}
use Rattle.fh_document.specs.declared.document.Document.{Document}
use Rattle.fronthaul_replay.specs.Replaying.{events_of}
use Rattle.document_texts.specs.UnitText.{all_taken}
use Rattle.document_texts.proofs.Moved.{are_documents}
use Rattle.document_texts.specs.Shared.{lines_with, unit_lines}
use Rattle.document_texts.proofs.Causes.{share_wanted}
use Rattle.document_texts.proofs.shared_units.share_unit.Goals as goal

pub unit_plan-requires : goal.unit_plan-requires
unit_plan-requires g c = subst IsDocument (sym c.in_ok-document.ensures) (are_documents c.args.doc.now c.args.unit c.args.step c.requires)

pub write_unit-requires-clause-document : goal.write_unit-requires-clause-document
write_unit-requires-clause-document g c = subst IsDocument (sym c.in_ok-document.ensures) (are_documents c.args.doc.now c.args.unit c.args.step c.requires)

pub returns-clause-front : goal.returns-clause-front
unfolding unit_lines
returns-clause-front g c =
    subst (λ (d : Document). WritesFront (g.K.Sink.written c.args.out.now) (g.K.Sink.written c.write_unit.new.out) (lines_with c.args.unit (events_of d))) c.in_ok-document.ensures c.write_unit.ensures.front

pub returns-clause-done : goal.returns-clause-done
unfolding unit_lines
returns-clause-done g c =
    subst (λ (d : Document). OnOk c.write_unit.result (g.K.Sink.written c.write_unit.new.out ≡ append_known (g.K.Sink.written c.args.out.now) (lines_with c.args.unit (events_of d)))) c.in_ok-document.ensures
    c.write_unit.ensures.done

pub returns-clause-mixed : goal.returns-clause-mixed
returns-clause-mixed g c =
    subst (λ (d : Document). OnOk c.write_unit.result (c.write_unit.new.mixer ≡ all_taken (events_of d) c.args.mixer.now)) c.in_ok-document.ensures c.write_unit.ensures.mixed

pub returns-in_err-document-clause-cause : goal.returns-in_err-document-clause-cause
returns-in_err-document-clause-cause g c = share_wanted (g.K.Sink.faults c.args.out.now) (g.K.Sink.faults c.args.out.now) c.from_residual.result c.from_residual.ensures.1 refl

pub returns-in_err-plan-clause-cause : goal.returns-in_err-plan-clause-cause
returns-in_err-plan-clause-cause g c =
    share_wanted (g.K.Sink.faults c.args.out.now) (g.K.Sink.faults c.args.out.now) c.from_residual-in_err-plan.result c.from_residual-in_err-plan.ensures.1 refl
