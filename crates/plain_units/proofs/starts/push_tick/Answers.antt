use Rattle.std.proofs.Common.{◌≡◌, ◌++◌, subst}
use Rattle.unit_model.specs.Terms.{EndpointConfig}
use Rattle.plain_units.specs.ClaimedStarts.{claimed_start}
use Rattle.unit_model.specs.Sweeps.{of_endpoint}
use Rattle.plain_units.proofs.StartLaws.{tick_more, tick_end}
use Rattle.plain_units.proofs.starts.push_tick.Goals as goal

pub loop-ep-preserved : goal.loop-ep-preserved
loop-ep-preserved c =
    let told = c.loop-ep.found.items in
    let more = subst (λ (e : EndpointConfig). c.push_endpoint.new.found.items ≡ told ++ of_endpoint (claimed_start c.args.accepted.now c.args.down c.loop-ep.ep e) e c.args.s.0)
    c.index-endpoints-ep.is c.in_ok-push_endpoint.ensures in
    tick_more (claimed_start c.args.accepted.now c.args.down) c.args.endpoints.now c.loop-ep.ep c.index-endpoints-ep.result c.args.s.0 _ told c.push_endpoint.new.found.items
    c.loop-ep-test.true more c.loop-ep.invariant

pub returns : goal.returns
returns c =
    tick_end (claimed_start c.args.accepted.now c.args.down) c.args.endpoints.now c.loop-ep.ep c.args.s.0 _ c.loop-ep.found.items c.loop-ep-test.false c.loop-ep.invariant
