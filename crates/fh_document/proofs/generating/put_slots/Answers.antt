use Rattle.fh_document.specs.Generated.{plans_text}
use Rattle.line_words.proofs.EachTexts.{each_none, each_more}
use Rattle.fh_document.proofs.generating.put_slots.Goals as goal

pub loop-n-init : goal.loop-n-init
loop-n-init c = each_none plans_text c.args.text.now

pub loop-n-preserved : goal.loop-n-preserved
loop-n-preserved c = each_more plans_text c.args.text.now c.loop-n.text c.put_slot.new.text c.loop-n.n c.loop-n.invariant c.in_ok-put_slot.ensures
