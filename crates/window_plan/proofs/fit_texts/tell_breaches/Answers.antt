use Rattle.std.proofs.Common.{refl, ◌∙◌}
use Rattle.window_plan.specs.Fit.{breach_text}
use Rattle.window_plan.proofs.fit_texts.tell_breaches.Goals as goal
use Rattle.fh_base.proofs.OwedTelling.{carried_one_more, anyhow}
use Rattle.fh_base.proofs.Parts.{part_at}

pub returns-in_err-tell_breach-clause-part : goal.returns-in_err-tell_breach-clause-part
returns-in_err-tell_breach-clause-part g c =
    anyhow c.from_residual.result
    (part_at (breach_text c.args.d.now) c.args.relations.now c.loop-r.r-index _ _ _ _ _ _ _ c.loop-r-test.true refl c.loop-r.invariant.carried
    c.in_err-tell_breach.ensures.part)

pub loop-r-preserved : goal.loop-r-preserved
loop-r-preserved g c = record {
  carried = carried_one_more (breach_text c.args.d.now) c.args.relations.now c.loop-r.r-index _ _ _ _ _ _ _ _ c.loop-r-test.true refl c.loop-r.invariant.carried
      c.in_ok-tell_breach.ensures.carried;
  still = c.in_ok-tell_breach.ensures.cause.faults ∙ c.loop-r.invariant.still;
  refused_still = c.in_ok-tell_breach.ensures.cause.refusals ∙ c.loop-r.invariant.refused_still;
}
