-- Line by line.
use Rattle.du_scheduler.proofs.ListedLemmas.{listed_more, listed_end, timeable}
use Rattle.du_scheduler.proofs.parts.listed.Goals as goal

pub put_sent-requires : goal.put_sent-requires
put_sent-requires c =
    let t = timeable c.args.stream c.args.lines.now c.loop-line.line-index c.line-item.result c.requires c.loop-line-test.true c.line-item.is in
    record { endpoint = t.endpoint; slot = t.slot; symbols = t.symbols }

pub loop-line-preserved : goal.loop-line-preserved
loop-line-preserved c =
    listed_more c.args.stream c.args.ep c.args.lines.now c.loop-line.line-index c.line-item.result c.loop-line.parts.items c.put_sent.new.parts.items c.loop-line-test.true c.line-item.is
    c.loop-line.invariant c.in_ok-put_sent.ensures

pub returns : goal.returns
returns c = listed_end c.args.stream c.args.ep c.args.lines.now c.loop-line.line-index c.loop-line.parts.items c.loop-line-test.false c.loop-line.invariant
