-- Message by message.
use Rattle.du_scheduler.proofs.FillLemmas.{one_more}
use Rattle.du_scheduler.proofs.queues.queue_of.Goals as goal

pub loop-run-preserved : goal.loop-run-preserved
loop-run-preserved c =
    one_more c.args.gap c.args.runs.now c.loop-run.run-index _ c.loop-run.queue c.add.new.self c.loop-run-test.true c.loop-run.invariant c.add.ensures.queue c.add.ensures.gap c.add.ensures.room c.add.ensures.held c.add.ensures.stands
