use Rattle.std.proofs.Common.{refl, ◌∙◌}
use Rattle.capture_show.specs.Texts.{member_text}
use Rattle.capture_show.proofs.printing.tell_members.Goals as goal
use Rattle.fh_base.proofs.OwedTelling.{carried_one_more, anyhow}
use Rattle.fh_base.proofs.Parts.{part_at}

pub returns-in_err-tell_member-clause-part : goal.returns-in_err-tell_member-clause-part
returns-in_err-tell_member-clause-part g c =
    anyhow c.from_residual.result
    (part_at (member_text c.args.bare) c.args.members.now c.loop-m.m-index _ _ _ _ _ _ _ c.loop-m-test.true refl c.loop-m.invariant.carried
    c.in_err-tell_member.ensures.part)

pub loop-m-preserved : goal.loop-m-preserved
loop-m-preserved g c = record {
  carried = carried_one_more (member_text c.args.bare) c.args.members.now c.loop-m.m-index _ _ _ _ _ _ _ _ c.loop-m-test.true refl c.loop-m.invariant.carried
      c.in_ok-tell_member.ensures.carried;
  still = c.in_ok-tell_member.ensures.cause ∙ c.loop-m.invariant.still;
}
