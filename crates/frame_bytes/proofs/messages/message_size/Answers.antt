use Rattle.std.proofs.Common.{arith}
use Rattle.frame_bytes.proofs.Sections.{no_section, size_last}
use Rattle.frame_bytes.proofs.messages.message_size.Goals as goal

pub loop-section-preserved : goal.loop-section-preserved
loop-section-preserved c = (
  omega (arith, c.loop-section.invariant.0, c.section_size-size.ensures.value, size_last c.args.carrier.now c.loop-section.section-index c.args.sections.now no_section c.loop-section-test.true),
  omega (arith, c.loop-section.invariant.1, c.section_size-size.ensures.short),
)
