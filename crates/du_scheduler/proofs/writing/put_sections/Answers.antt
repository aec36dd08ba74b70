use Rattle.std.proofs.Common.{arith, ap, ◌∙◌, rules}
use Rattle.std.proofs.lemmas.Option.{get_or_from_slice_get, slice_get-get_or, slice_get_within}
use Rattle.plan_model.specs.Streams.{part_in}
use Rattle.plan_model.specs.declared.lines.PlannedLine.{PlannedLine}
use Rattle.sent_frames.specs.Messages.{data_section}
use Rattle.du_scheduler.proofs.PartLemmas.{no_place, part_at, sections_more, sections_all}
use Rattle.du_scheduler.proofs.writing.put_sections.Goals as goal

pub bounds-lines-part : goal.bounds-lines-part
bounds-lines-part c =
    let d = c.requires.data in
    let r = part_at c.args.lines.now c.args.parts.now d.0 c.loop-k.k _ d.1 (slice_get-get_or c.args.parts.now c.loop-k.k no_place c.loop-k-test.true) in
    slice_get_within c.args.lines.now _ r.x.planned r.line

pub loop-k-preserved : goal.loop-k-preserved
loop-k-preserved c =
    let inv = c.loop-k.invariant in (
      search rules,
      λ xs s.
          let r = part_at c.args.lines.now c.args.parts.now xs c.loop-k.k _ s (slice_get-get_or c.args.parts.now c.loop-k.k no_place c.loop-k-test.true) in
          let line = c.index-lines-part.is ∙ get_or_from_slice_get c.args.lines.now _ r.x.planned c.index-lines-part.result r.line in
          let is = c.data_section.ensures 0 ∙ ap (λ (p : PlannedLine). data_section (part_in 0 p)) line in
          sections_more c.loop-k.into xs c.loop-k.k c.data_section.result r.x (omega (arith, c.loop-k-test.true, c.requires.room, inv.0)) r.at is (inv.1 xs s),
    )

pub returns-clause-sections : goal.returns-clause-sections
returns-clause-sections c xs s =
    sections_all c.args.lines.now c.args.parts.now xs c.loop-k.into c.loop-k.k s (search rules) (c.loop-k.invariant.1 xs s)
