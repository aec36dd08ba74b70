use Rattle.run_vectors.proofs.Repeats.{repeated_none, repeated_more}
use Rattle.run_vectors.proofs.cases.push_times.Goals as goal

pub loop-init : goal.loop-init
loop-init c = repeated_none c.args.piece.now c.args.into.now

pub loop-preserved : goal.loop-preserved
loop-preserved c = repeated_more c.args.piece.now c.args.into.now c.loop.into c.push_all.new.self c.loop.counter c.loop.invariant c.in_ok-push_all.ensures.ok
