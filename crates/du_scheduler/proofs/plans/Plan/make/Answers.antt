use Rattle.std.proofs.Common.{◌≡◌, List, [], map, refl, ap, subst, ◌∙◌, arith}
use Rattle.window_config.specs.declared.endpoints.EndpointConfig.{EndpointConfig}
use Rattle.plan_model.specs.Lines.{planned}
use Rattle.plan_model.specs.Sent.{sent}
use Rattle.plan_model.specs.declared.lines.PlannedLine.{PlannedLine}
use Rattle.du_scheduler.specs.Queues.{StandsFor}
use Rattle.du_scheduler.specs.Runs.{turn_of}
use Rattle.du_scheduler.specs.Tables.{IsTable}
use Rattle.du_scheduler.proofs.plans.Plan.make.Goals as goal

pub returns : goal.returns
returns c =
    let config = c.args.config.now in
    let lines = c.args.lines.now in
    let all : c.in_ok-planned.planned.items ≡ planned config.endpoints lines = c.in_ok-planned.ensures ∙ ap (λ (es : List EndpointConfig). planned es lines) c.as_slice.ensures.items in
    let seen : c.deref.result.now ≡ planned config.endpoints lines = c.deref.ensures.value ∙ all in
    record {
      config = c.requires.config;
      fit = c.requires.fit;
      valid = c.requires.valid;
      given = [];
      all = refl;
      lines_are = all;
      fragment = refl;
      table = subst (λ (ps : List PlannedLine). IsTable config ps c.in_ok-table.table) seen c.in_ok-table.ensures.table;
      queue = c.in_ok-table.ensures.queue;
      stands = subst (λ (ps : List PlannedLine). StandsFor c.in_ok-table.queue (map turn_of (sent config ps))) seen c.in_ok-table.ensures.stands;
      room = omega (arith, c.in_ok-room.ensures.len);
    }
