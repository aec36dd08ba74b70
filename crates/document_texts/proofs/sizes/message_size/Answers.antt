use Rattle.std.proofs.Common.{◌+◌, arith}
use Rattle.document_texts.proofs.PartLemmas.{line_there, size_all, size_more, size_within}
use Rattle.document_texts.proofs.sizes.message_size.Goals as goal

pub line_at-requires : goal.line_at-requires
line_at-requires c =
    let r = c.requires.message in
    line_there c.args.plan.now c.args.endpoint.now c.args.parts.now r.0 c.loop-part.part-index r.1 c.loop-part-test.true

pub overflow_add-size : goal.overflow_add-size
overflow_add-size c =
    let r = c.requires.message in
    let more = size_more c.args.plan.now c.args.endpoint.now c.args.parts.now r.0 c.loop-part.part-index c.line_at.result c.section_size-size.result c.loop-part.size r.1 c.loop-part-test.true
    c.line_at.ensures c.section_size-size.ensures.value (c.loop-part.invariant r.0 r.1) in
    let within = size_within r.0 (c.loop-part.part-index + 1) (c.loop-part.size + c.section_size-size.result) more in
    let most = r.2 in
    omega (arith, within, most)

pub loop-part-preserved : goal.loop-part-preserved
loop-part-preserved c = λ m p.
    size_more c.args.plan.now c.args.endpoint.now c.args.parts.now m c.loop-part.part-index c.line_at.result c.section_size-size.result c.loop-part.size p c.loop-part-test.true
    c.line_at.ensures c.section_size-size.ensures.value (c.loop-part.invariant m p)

pub returns : goal.returns
returns c = λ m p.
    size_all c.args.plan.now c.args.endpoint.now c.args.parts.now m c.loop-part.part-index c.loop-part.size p c.loop-part-test.false (c.loop-part.invariant m p)
