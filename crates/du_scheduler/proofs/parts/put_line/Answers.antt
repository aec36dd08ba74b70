-- Symbol by symbol.
use Rattle.std.proofs.Common.{◌+◌, refl}
use Rattle.du_scheduler.proofs.ListedLemmas.{put_start, put_more}
use Rattle.du_scheduler.proofs.parts.put_line.Goals as goal

pub loop-k-init : goal.loop-k-init
loop-k-init c = put_start c.args.stream c.args.parts.now.items c.args.p.now.line.symbol _

pub loop-k-preserved : goal.loop-k-preserved
loop-k-preserved c =
    put_more c.args.stream c.args.parts.now.items c.loop-k.parts.items c.push.new.self.items c.args.p.now c.args.p.now.line.symbol c.loop-k.k (c.args.p.now.line.symbol + c.loop-k.k) c.timed.result refl c.timed.ensures
    c.loop-k.invariant c.in_ok-push.ensures.items
