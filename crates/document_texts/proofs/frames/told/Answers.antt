use Rattle.std.proofs.Common.{◌<◌, List, length, get_or, ap, sym, subst, arith}
use Rattle.document_traffic.specs.Sending.{lines_of}
use Rattle.du_scheduler.specs.declared.kept.PlacedLine.{PlacedLine}
use Rattle.document_texts.proofs.FrameLemmas.{line_is}
use Rattle.document_texts.proofs.PartLemmas.{no_place}
use Rattle.document_texts.proofs.frames.told.Goals as goal

pub bounds-parts-0 : goal.bounds-parts-0
bounds-parts-0 c =
    let r = c.requires in
    let d = c.args.document.now in
    let are = c.message-parts.ensures d.config (lines_of d) r.frame r.table_is r.turn.there r.turn.is in
    subst (λ (xs : List PlacedLine). 0 < length xs) (sym are) (omega arith)

pub planned_line-p-requires : goal.planned_line-p-requires
planned_line-p-requires c =
    let r = c.requires in
    let d = c.args.document.now in
    let are = c.message-parts.ensures d.config (lines_of d) r.frame r.table_is r.turn.there r.turn.is in
    record { frame = (r.frame, r.turn, ap (λ (xs : List PlacedLine). get_or xs 0 no_place) are) }

pub piece_of-piece-requires : goal.piece_of-piece-requires
piece_of-piece-requires c =
    let r = c.requires in
    let d = c.args.document.now in
    let are = c.message-parts.ensures d.config (lines_of d) r.frame r.table_is r.turn.there r.turn.is in
    record {
      frame = (
        r.frame,
        record { turn = r.turn; parts_are = are },
        c.planned_line-p.ensures r.frame r.turn (ap (λ (xs : List PlacedLine). get_or xs 0 no_place) are),
      );
    }

pub returns : goal.returns
returns c = λ f h.
    let d = c.args.document.now in
    let are = c.message-parts.ensures d.config (lines_of d) f c.requires.table_is h.there h.is in
    let first = ap (λ (xs : List PlacedLine). get_or xs 0 no_place) are in
    let planned = c.planned_line-p.ensures f h first in
    line_is d f c.args.turn.now h c.class_of.result c.args.number c.planned_line-p.result (get_or c.message-parts.result.now 0 no_place) c.line_number.result c.piece_of-piece.result.field
    c.piece_of-piece.result.bytes c.class_of.ensures.value planned first c.line_number.ensures (c.piece_of-piece.ensures.field f (record { turn = h; parts_are = are }) planned)
    (c.piece_of-piece.ensures.bytes f (record { turn = h; parts_are = are }) planned)
