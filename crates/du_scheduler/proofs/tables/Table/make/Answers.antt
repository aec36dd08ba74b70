-- Endpoint after endpoint, and the queue.
use Rattle.std.proofs.Common.{◌<◌, ◌≤◌, List, length, map, ◌∙◌, subst}
use Rattle.window_config.specs.declared.endpoints.EndpointConfig.{EndpointConfig}
use Rattle.plan_model.specs.Sent.{sent}
use Rattle.du_scheduler.specs.Runs.{turn_of}
use Rattle.schedule_laws.proofs.PlacedLemmas.{some_of}
use Rattle.du_scheduler.proofs.TableLemmas.{filled_more, filled_table, filled_runs, runs_fit, runs_ordered}
use Rattle.du_scheduler.proofs.tables.Table.make.Goals as goal

pub loop-ep-preserved : goal.loop-ep-preserved
loop-ep-preserved c =
    let below : c.loop-ep.ep < length c.args.config.now.endpoints =
    subst (λ (es : List EndpointConfig). c.loop-ep.ep < length es) c.as_slice-ep-end.ensures.items c.loop-ep-test.true in
    filled_more c.args.config.now c.args.lines.now c.loop-ep.ep c.loop-ep.streams.items c.add_endpoint.new.streams.items c.loop-ep.runs.items c.add_endpoint.new.runs.items
    (some_of c.args.config.now.endpoints c.loop-ep.ep below) c.loop-ep.invariant below c.in_ok-add_endpoint.ensures.streams c.in_ok-add_endpoint.ensures.runs

pub queue_of-requires : goal.queue_of-requires
queue_of-requires c =
    let end : length c.args.config.now.endpoints ≤ c.loop-ep.ep =
    subst (λ (es : List EndpointConfig). length es ≤ c.loop-ep.ep) c.as_slice-ep-end.ensures.items c.loop-ep-test.false in
    record {
      runs = runs_fit c.args.config.now c.args.lines.now c.deref.result.now c.requires.config c.requires.plan
          (c.deref.ensures.value ∙ filled_runs c.args.config.now c.args.lines.now c.loop-ep.ep c.loop-ep.streams.items c.loop-ep.runs.items c.loop-ep.invariant end);
    }

pub returns-clause-table : goal.returns-clause-table
returns-clause-table c =
    let end : length c.args.config.now.endpoints ≤ c.loop-ep.ep =
    subst (λ (es : List EndpointConfig). length es ≤ c.loop-ep.ep) c.as_slice-ep-end.ensures.items c.loop-ep-test.false in
    λ stream i e s at. filled_table c.args.config.now c.args.lines.now c.loop-ep.ep c.loop-ep.streams.items c.loop-ep.runs.items c.loop-ep.invariant end stream i e s at

pub returns-clause-stands : goal.returns-clause-stands
returns-clause-stands c =
    let end : length c.args.config.now.endpoints ≤ c.loop-ep.ep =
    subst (λ (es : List EndpointConfig). length es ≤ c.loop-ep.ep) c.as_slice-ep-end.ensures.items c.loop-ep-test.false in
    c.in_ok-queue.ensures.stands (map turn_of (sent c.args.config.now c.args.lines.now))
    (runs_ordered c.args.config.now c.args.lines.now c.deref.result.now c.gap_ticks.result c.requires.config c.requires.plan
    (c.deref.ensures.value ∙ filled_runs c.args.config.now c.args.lines.now c.loop-ep.ep c.loop-ep.streams.items c.loop-ep.runs.items c.loop-ep.invariant end) c.gap_ticks.ensures)
