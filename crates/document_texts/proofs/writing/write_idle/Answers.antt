use Rattle.std.proofs.Common.{◌≡◌, Result, OnErr, OnOk, sym, subst}
use Rattle.std.specs.Io.KnownBytes.{append_known}
use Rattle.fh_base.specs.Told.{WritesPart}
use Rattle.fh_base.proofs.Progress.{front_none}
use Rattle.fronthaul_replay.specs.Replay.{HasWriteCause}
use Rattle.fronthaul_replay.specs.declared.report.TextFault.{TextFault}
use Rattle.fh_base.proofs.OwedTelling.{anyhow}
use Rattle.document_texts.specs.Idle.{cells_for, document_idle}
use Rattle.document_texts.proofs.FaultLemmas.{cause_told, err_told, none_written, ok_told}
use Rattle.document_texts.proofs.IdleLemmas.{is_idle}
use Rattle.document_texts.proofs.writing.write_idle.Goals as goal

pub idle_text-requires-clause-stands : goal.idle_text-requires-clause-stands
idle_text-requires-clause-stands g c = (c.args.first, c.args.last, cells_for c.args.document.now, c.in_ok-spans.ensures)

pub returns-in_err-spans-clause-front : goal.returns-in_err-spans-clause-front
returns-in_err-spans-clause-front g c = front_none _ _

pub returns-in_err-spans-clause-part : goal.returns-in_err-spans-clause-part
returns-in_err-spans-clause-part g c =
    let d = c.args.document.now in
    anyhow c.from_residual.result (none_written d.config.endpoints d.plan c.args.first c.args.last c.args.min (cells_for d) _)

pub returns-in_err-spans-clause-laws : goal.returns-in_err-spans-clause-laws
returns-in_err-spans-clause-laws g c = is_idle c.args.document.now c.args.first c.args.last c.args.min c.requires.document c.requires.plan.valid c.requires.frames

pub returns-clause-front : goal.returns-clause-front
returns-clause-front g c = c.idle_text.ensures.front c.args.first c.args.last (cells_for c.args.document.now) c.in_ok-spans.ensures

pub returns-clause-part : goal.returns-clause-part
returns-clause-part g c =
    let d = c.args.document.now in
    subst (λ (r : Result (Unit {0}) TextFault). OnErr r (WritesPart (g.K.Sink.written c.args.out.now) (g.K.Sink.written c.idle_text.new.out) (document_idle d c.args.first c.args.last c.args.min))) (sym c.text_result.ensures)
    (err_told _ c.idle_text.result (c.idle_text.ensures.part c.args.first c.args.last (cells_for d) c.in_ok-spans.ensures))

pub returns-clause-done : goal.returns-clause-done
returns-clause-done g c =
    let d = c.args.document.now in
    subst (λ (r : Result (Unit {0}) TextFault). OnOk r (g.K.Sink.written c.idle_text.new.out ≡ append_known (g.K.Sink.written c.args.out.now) (document_idle d c.args.first c.args.last c.args.min))) (sym c.text_result.ensures)
    (ok_told _ c.idle_text.result (c.idle_text.ensures.done c.args.first c.args.last (cells_for d) c.in_ok-spans.ensures))

pub returns-clause-cause : goal.returns-clause-cause
returns-clause-cause g c =
    subst (HasWriteCause (g.K.Sink.faults c.args.out.now) (g.K.Sink.faults c.idle_text.new.out)) (sym c.text_result.ensures)
    (cause_told (g.K.Sink.faults c.args.out.now) (g.K.Sink.faults c.idle_text.new.out) c.idle_text.result c.idle_text.ensures.cause)

pub returns-clause-laws : goal.returns-clause-laws
returns-clause-laws g c = is_idle c.args.document.now c.args.first c.args.last c.args.min c.requires.document c.requires.plan.valid c.requires.frames
