use Rattle.fh_document.specs.Generated.{deliver_text}
use Rattle.line_words.proofs.EachTexts.{each_none, each_more}
use Rattle.fh_document.proofs.generating.put_deliveries.Goals as goal

pub loop-j-init : goal.loop-j-init
loop-j-init c = each_none (deliver_text c.args.seed) c.args.text.now

pub loop-j-preserved : goal.loop-j-preserved
loop-j-preserved c = each_more (deliver_text c.args.seed) c.args.text.now c.loop-j.text c.put_delivery.new.text c.loop-j.j c.loop-j.invariant c.in_ok-put_delivery.ensures
