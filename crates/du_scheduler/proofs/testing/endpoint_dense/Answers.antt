-- The parts, their messages, and the messages that leave too near.
use Rattle.std.proofs.Common.{ℤ, List, map, ap, ap₂, ◌∙◌}
use Rattle.plan_model.specs.Dense.{dense_in, sendings}
use Rattle.plan_model.specs.declared.dense.Sending.{Sending}
use Rattle.plan_model.specs.declared.streams.Stream.{Stream}
use Rattle.du_scheduler.specs.Walks.{complete}
use Rattle.du_scheduler.specs.declared.limits.Limits.{Limits}
use Rattle.du_scheduler.specs.declared.parts.TimedPart.{TimedPart}
use Rattle.du_scheduler.specs.PlanWalks.{sending_from}
use Rattle.du_scheduler.proofs.WalkingLemmas.{sendings_are}
use Rattle.du_scheduler.proofs.testing.endpoint_dense.Goals as goal

pub returns : goal.returns
returns c = λ e ends.
    c.dense_in.ensures
    ∙ ap₂ (λ (d : ℤ) (xs : List Sending). dense_in d xs) c.distance_of.ensures
    (c.deref-2.ensures.value ∙ c.in_ok-sent.ensures.value
    ∙ ap₂ (λ (l : Limits) (ps : List TimedPart). map (sending_from l) (complete l ps)) c.of.ensures.value (c.deref.ensures.value ∙ c.in_ok-parts.ensures.value e ends)
    ∙ sendings_are c.args.config.now c.stream_of-stream.result c.args.ep c.args.lines.now c.args.ep e
    ∙ ap (λ (s : Stream). sendings c.args.config.now c.args.lines.now s c.args.ep e) c.stream_of-stream.ensures)
