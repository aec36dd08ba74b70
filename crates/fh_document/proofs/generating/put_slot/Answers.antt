use Rattle.fh_document.specs.Generated.{plan_text}
use Rattle.line_words.proofs.EachTexts.{each_none, each_more}
use Rattle.fh_document.proofs.generating.put_slot.Goals as goal

pub loop-e-init : goal.loop-e-init
loop-e-init c = each_none (plan_text c.args.n) c.args.text.now

pub loop-e-preserved : goal.loop-e-preserved
loop-e-preserved c = each_more (plan_text c.args.n) c.args.text.now c.loop-e.text c.put_plan.new.text c.loop-e.e c.loop-e.invariant c.in_ok-put_plan.ensures
