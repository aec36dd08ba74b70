use Rattle.std.proofs.Common.{◌≡◌, List, subst}
use Rattle.std.specs.Io.KnownBytes.{append_known}
use Rattle.std.proofs.lemmas.Result.{on_ok_weaker, on_err_weaker}
use Rattle.fh_base.specs.Told.{WritesFront, WritesPart}
use Rattle.fh_base.proofs.OwedTelling.{all_written, last_front, anyhow}
use Rattle.fh_base.proofs.Parts.{part_front, last_part}
use Rattle.shared_cell.specs.declared.values.Mixed.{Mixed}
use Rattle.document_texts.specs.Lines.{mixes_text}
use Rattle.document_texts.proofs.Whole.{all_told, cells_cut, end_cut}
use Rattle.document_texts.proofs.combined.put_combined.Goals as goal

pub returns-in_err-tell_cells-clause-front : goal.returns-in_err-tell_cells-clause-front
returns-in_err-tell_cells-clause-front g c =
    part_front _ _ _
    (subst (λ (ms : List Mixed). WritesPart (g.K.Sink.written c.args.out.now) (g.K.Sink.written c.tell_cells.new.out) (mixes_text ms)) c.as_slice.ensures
    (cells_cut c.as_slice.result.now _ _ _ c.new-owed.result _ c.new-owed.ensures c.in_ok-tell.ensures.carried c.in_err-tell_cells.ensures.part))

pub returns-in_err-tell_cells-clause-part : goal.returns-in_err-tell_cells-clause-part
returns-in_err-tell_cells-clause-part g c =
    anyhow c.from_residual-in_err-tell_cells.result
    (subst (λ (ms : List Mixed). WritesPart (g.K.Sink.written c.args.out.now) (g.K.Sink.written c.tell_cells.new.out) (mixes_text ms)) c.as_slice.ensures
    (cells_cut c.as_slice.result.now _ _ _ c.new-owed.result _ c.new-owed.ensures c.in_ok-tell.ensures.carried c.in_err-tell_cells.ensures.part))

pub returns-in_err-tell-2-clause-front : goal.returns-in_err-tell-2-clause-front
returns-in_err-tell-2-clause-front g c =
    part_front _ _ _
    (subst (λ (ms : List Mixed). WritesPart (g.K.Sink.written c.args.out.now) (g.K.Sink.written c.tell-2.new.sink) (mixes_text ms)) c.as_slice.ensures
    (end_cut c.as_slice.result.now _ _ _ _ c.new-owed.result _ _ c.new-owed.ensures c.in_ok-tell.ensures.carried c.in_ok-tell_cells.ensures.carried c.in_err-tell-2.ensures.part))

pub returns-in_err-tell-2-clause-part : goal.returns-in_err-tell-2-clause-part
returns-in_err-tell-2-clause-part g c =
    anyhow c.from_residual-in_err-tell-2.result
    (subst (λ (ms : List Mixed). WritesPart (g.K.Sink.written c.args.out.now) (g.K.Sink.written c.tell-2.new.sink) (mixes_text ms)) c.as_slice.ensures
    (end_cut c.as_slice.result.now _ _ _ _ c.new-owed.result _ _ c.new-owed.ensures c.in_ok-tell.ensures.carried c.in_ok-tell_cells.ensures.carried c.in_err-tell-2.ensures.part))

pub returns-clause-ok : goal.returns-clause-ok
returns-clause-ok g c =
    let all = all_told c.as_slice.result.now _ _ _ _ _ _ _ _ c.in_ok-tell.ensures.carried c.in_ok-tell_cells.ensures.carried c.in_ok-tell-2.ensures.carried in
    on_ok_weaker c.push_out.result
    (λ is. subst (λ (ms : List Mixed). g.K.Sink.written c.push_out.new.sink ≡ append_known (g.K.Sink.written c.args.out.now) (mixes_text ms)) c.as_slice.ensures
    (all_written _ _ _ c.new-owed.result _ _ c.new-owed.ensures all is))
    c.push_out.ensures.all

pub returns-clause-front : goal.returns-clause-front
returns-clause-front g c =
    let all = all_told c.as_slice.result.now _ _ _ _ _ _ _ _ c.in_ok-tell.ensures.carried c.in_ok-tell_cells.ensures.carried c.in_ok-tell-2.ensures.carried in
    subst (λ (ms : List Mixed). WritesFront (g.K.Sink.written c.args.out.now) (g.K.Sink.written c.push_out.new.sink) (mixes_text ms)) c.as_slice.ensures
    (last_front _ _ _ c.new-owed.result _ _ c.new-owed.ensures all c.push_out.ensures.front)

pub returns-clause-part : goal.returns-clause-part
returns-clause-part g c =
    let all = all_told c.as_slice.result.now _ _ _ _ _ _ _ _ c.in_ok-tell.ensures.carried c.in_ok-tell_cells.ensures.carried c.in_ok-tell-2.ensures.carried in
    on_err_weaker c.push_out.result (λ h.
    subst (λ (ms : List Mixed). WritesPart (g.K.Sink.written c.args.out.now) (g.K.Sink.written c.push_out.new.sink) (mixes_text ms)) c.as_slice.ensures
    (last_part _ _ _ c.new-owed.result _ _ c.new-owed.ensures all h)) c.push_out.ensures.part
