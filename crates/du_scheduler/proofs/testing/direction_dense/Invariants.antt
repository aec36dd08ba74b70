use Rattle.std.proofs.Common.{◌≡◌, drop}
use Rattle.plan_model.specs.Dense.{dense_from, lesser}
use Rattle.schedule_laws.specs.DenseWays.{distance_of, stream_of}
use Rattle.du_scheduler.proofs.testing.direction_dense.Given as goal

abbrev pub invariant-loop-ep : goal.invariant-loop-ep
invariant-loop-ep l =
    lesser l.first (dense_from l.config l.lines (stream_of l.up) (distance_of l.config.delays l.up) l.ep (drop l.ep l.config.endpoints))
    ≡ dense_from l.config l.lines (stream_of l.up) (distance_of l.config.delays l.up) 0 l.config.endpoints
