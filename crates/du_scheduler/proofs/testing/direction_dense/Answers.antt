-- Endpoint after endpoint.
use Rattle.std.proofs.Common.{◌<◌, ◌≤◌, length, List, subst}
use Rattle.window_config.specs.declared.endpoints.EndpointConfig.{EndpointConfig}
use Rattle.schedule_laws.proofs.PlacedLemmas.{are_placed, has_endpoint, some_of}
use Rattle.schedule_laws.proofs.PlanTestLemmas.{dense_more, dense_end}
use Rattle.du_scheduler.proofs.testing.direction_dense.Goals as goal

pub endpoint_dense-requires-clause-lines : goal.endpoint_dense-requires-clause-lines
endpoint_dense-requires-clause-lines c = are_placed c.args.config.now.endpoints c.args.lines.now c.requires.config.endpoints.each c.requires.lines

pub loop-ep-preserved : goal.loop-ep-preserved
loop-ep-preserved c =
    let below : c.loop-ep.ep < length c.args.config.now.endpoints =
    subst (λ (es : List EndpointConfig). c.loop-ep.ep < length es) c.as_slice-ep-end.ensures.items c.loop-ep-test.true in
    let d = some_of c.args.config.now.endpoints c.loop-ep.ep below in
    dense_more c.args.config.now c.args.lines.now c.args.up c.loop-ep.ep c.loop-ep.first c.in_ok-dense.dense c.lesser-first.result d below c.loop-ep.invariant
    (c.in_ok-dense.ensures _ (has_endpoint c.args.config.now.endpoints c.args.lines.now c.loop-ep.ep d c.requires.lines)) c.lesser-first.ensures

pub returns : goal.returns
returns c =
    dense_end c.args.config.now c.args.lines.now c.args.up c.loop-ep.ep c.loop-ep.first
    (subst (λ (es : List EndpointConfig). length es ≤ c.loop-ep.ep) c.as_slice-ep-end.ensures.items c.loop-ep-test.false) c.loop-ep.invariant
