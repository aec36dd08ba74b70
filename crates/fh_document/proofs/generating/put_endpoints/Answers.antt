use Rattle.fh_document.specs.Generated.{endpoint_text}
use Rattle.line_words.proofs.EachTexts.{each_none, each_more}
use Rattle.fh_document.proofs.generating.put_endpoints.Goals as goal

pub loop-e-init : goal.loop-e-init
loop-e-init c = each_none endpoint_text c.args.text.now

pub loop-e-preserved : goal.loop-e-preserved
loop-e-preserved c = each_more endpoint_text c.args.text.now c.loop-e.text c.put_endpoint.new.text c.loop-e.e c.loop-e.invariant c.in_ok-put_endpoint.ensures
