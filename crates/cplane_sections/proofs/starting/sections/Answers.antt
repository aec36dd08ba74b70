use Rattle.cplane_sections.proofs.Onward.{can_start}
use Rattle.cplane_sections.proofs.starting.sections.Goals as goal

pub invariant_of-result : goal.invariant_of-result
invariant_of-result c = record {
  passes = rw c.head_size.ensures (can_start c.args.head.now c.args.bytes.now c.requires);
}
