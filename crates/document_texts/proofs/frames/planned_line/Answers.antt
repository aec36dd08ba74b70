use Rattle.document_texts.proofs.FrameLemmas.{endpoint_there, line_there, planned_is}
use Rattle.document_texts.proofs.frames.planned_line.Goals as goal

pub bounds-as_slice-ep : goal.bounds-as_slice-ep
bounds-as_slice-ep c =
    let r = c.requires.frame in
    endpoint_there c.args.document.now r.0 c.args.turn.now r.1 c.as_slice.result.now c.as_slice.ensures.items

pub line_at-requires : goal.line_at-requires
line_at-requires c = let r = c.requires.frame in line_there c.args.document.now r.0 c.args.turn.now r.1 c.args.first r.2

pub returns : goal.returns
returns c = λ f h is.
    planned_is c.args.document.now f c.args.turn.now h c.args.first c.as_slice.result.now c.index-as_slice-ep.result c.line_at.result is c.as_slice.ensures.items c.index-as_slice-ep.is c.line_at.ensures
