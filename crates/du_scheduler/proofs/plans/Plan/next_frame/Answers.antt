use Rattle.std.proofs.Common.{refl, ap, ◌∙◌}
use Rattle.fh_base.specs.declared.values.Ticks.{Ticks}
use Rattle.du_scheduler.proofs.plans.Plan.next_frame.Goals as goal

pub returns : goal.returns
returns g c = (
  (refl, (λ _. tt), λ cf lines left h. c.in-Some.ensures.leaves cf lines left h),
  record {
    gives = λ cf lines left h answer by.
        (let w = c.in-Some.ensures.writes cf lines left h answer by in (
          w.0,
          w.1,
          w.2,
          record {
            at = ap (λ (t : Ticks). t.0) c.lent.ensures.at ∙ w.3.at;
            plane = c.lent.ensures.plane ∙ w.3.plane;
            ep = c.lent.ensures.ep ∙ w.3.ep;
            bytes = c.lent.ensures.bytes ∙ w.3.bytes;
          },
        ));
    after = tt;
  },
)
