use Rattle.std.proofs.Common.{rules, pos}
use Rattle.frame_ways.proofs.QueueLemmas.{listed_step}
use Rattle.frame_ways.proofs.sorting.listed.Goals as goal

pub loop-index-preserved : goal.loop-index-preserved
loop-index-preserved c = record {
  items = listed_step c.args.times.now c.loop-index.index (record { 0 = pos 0 }) c.loop-index.landings.items c.push.new.self.items (search rules) c.loop-index.invariant.items (search rules);
}
