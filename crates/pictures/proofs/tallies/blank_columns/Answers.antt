use Rattle.pictures.proofs.Counting.{columns_next, columns_none}
use Rattle.pictures.proofs.tallies.blank_columns.Goals as goal

pub loop-c-init : goal.loop-c-init
loop-c-init c = columns_none c.new-columns.result.items c.new-columns.ensures.items

pub loop-c-preserved : goal.loop-c-preserved
loop-c-preserved c = columns_next c.loop-c.columns.items c.push.new.self.items c.loop-c.c c.new.result c.loop-c.invariant c.new.ensures c.in_ok-push.ensures.items
