-- The tests in their order.
use Rattle.std.proofs.Common.{◌≡◌, List, map, ap, sym, ◌∙◌, subst}
use Rattle.std.specs.Prelude.{All}
use Rattle.window_config.specs.Endpoints.{IsEndpoint}
use Rattle.window_config.specs.declared.endpoints.EndpointConfig.{EndpointConfig}
use Rattle.plan_model.specs.Lines.{line_allocation}
use Rattle.plan_model.specs.Valid.{dense_refused}
use Rattle.plan_model.specs.declared.lines.PlannedLine.{PlannedLine}
use Rattle.schedule_laws.specs.SlotTests.{entry_of, numbered_lines}
use Rattle.schedule_laws.proofs.PlacedLemmas.{placed_numbered, placed_lines}
use Rattle.schedule_laws.proofs.PlanTestLemmas.{placed_at, stop_at, tests_first, judged_first, stop_first, dense_last}
use Rattle.du_scheduler.proofs.testing.refusal.Goals as goal

pub judge_lines-requires : goal.judge_lines-requires
judge_lines-requires c = record {
  endpoints = subst (λ (es : List EndpointConfig). All IsEndpoint es) (sym c.as_slice-endpoints.ensures.items) c.requires.config.endpoints.each;
  lines = placed_lines c.as_slice-endpoints.result.now c.args.lines.now c.deref.result.now c.requires.lines (c.deref.ensures.value ∙ c.in_ok-placed.ensures.lines);
  numbers = subst (λ (ps : List PlannedLine). map entry_of ps ≡ numbered_lines 0 (map line_allocation ps)) (sym (c.deref.ensures.value ∙ c.in_ok-placed.ensures.lines))
      (placed_numbered c.as_slice-endpoints.result.now 0 c.args.lines.now);
}

pub returns-then-is_some : goal.returns-then-is_some
returns-then-is_some c =
    judged_first c.args.config.now c.args.lines.now c.in_ok-judged.judged c.in_ok-placed.placed.stop
    (tests_first c.args.config.now c.args.lines.now c.as_slice-endpoints.result.now c.in_ok-placed.placed.lines.items c.deref.result.now c.in_ok-judged.judged c.in_ok-placed.placed.stop
    c.as_slice-endpoints.ensures.items c.in_ok-placed.ensures.lines c.deref.ensures.value c.in_ok-placed.ensures.stop c.in_ok-judged.ensures)
    (sym c.is_some.ensures ∙ c.if-is_some.true)

pub returns-then-is_some-2 : goal.returns-then-is_some-2
returns-then-is_some-2 c =
    stop_first c.args.config.now c.args.lines.now c.in_ok-judged.judged c.in_ok-placed.placed.stop
    (tests_first c.args.config.now c.args.lines.now c.as_slice-endpoints.result.now c.in_ok-placed.placed.lines.items c.deref.result.now c.in_ok-judged.judged c.in_ok-placed.placed.stop
    c.as_slice-endpoints.ensures.items c.in_ok-placed.ensures.lines c.deref.ensures.value c.in_ok-placed.ensures.stop c.in_ok-judged.ensures)
    (sym c.is_some.ensures ∙ c.if-is_some.false) (sym c.is_some-2.ensures ∙ c.if-is_some-2.true)

pub first_dense-requires-clause-lines : goal.first_dense-requires-clause-lines
first_dense-requires-clause-lines c =
    placed_lines c.args.config.now.endpoints c.args.lines.now c.deref-2.result.now c.requires.lines
    (placed_at c.args.config.now c.args.lines.now c.as_slice-endpoints.result.now c.in_ok-placed.placed.lines.items c.deref-2.result.now c.as_slice-endpoints.ensures.items
    c.in_ok-placed.ensures.lines c.deref-2.ensures.value)

pub returns-in-None : goal.returns-in-None
returns-in-None c =
    ap dense_refused (sym c.in-None.is)
    ∙ dense_last c.args.config.now c.args.lines.now c.deref-2.result.now c.in_ok-judged.judged c.in_ok-placed.placed.stop c.in_ok-first_dense.field-0
    (tests_first c.args.config.now c.args.lines.now c.as_slice-endpoints.result.now c.in_ok-placed.placed.lines.items c.deref.result.now c.in_ok-judged.judged c.in_ok-placed.placed.stop
    c.as_slice-endpoints.ensures.items c.in_ok-placed.ensures.lines c.deref.ensures.value c.in_ok-placed.ensures.stop c.in_ok-judged.ensures)
    (sym c.is_some.ensures ∙ c.if-is_some.false) (sym c.is_some-2.ensures ∙ c.if-is_some-2.false)
    (placed_at c.args.config.now c.args.lines.now c.as_slice-endpoints.result.now c.in_ok-placed.placed.lines.items c.deref-2.result.now c.as_slice-endpoints.ensures.items
    c.in_ok-placed.ensures.lines c.deref-2.ensures.value)
    (stop_at c.args.config.now c.args.lines.now c.as_slice-endpoints.result.now c.in_ok-placed.placed.stop c.as_slice-endpoints.ensures.items c.in_ok-placed.ensures.stop)
    c.in_ok-first_dense.ensures

pub returns : goal.returns
returns c =
    ap dense_refused (sym c.in-Some.is)
    ∙ dense_last c.args.config.now c.args.lines.now c.deref-2.result.now c.in_ok-judged.judged c.in_ok-placed.placed.stop c.in_ok-first_dense.field-0
    (tests_first c.args.config.now c.args.lines.now c.as_slice-endpoints.result.now c.in_ok-placed.placed.lines.items c.deref.result.now c.in_ok-judged.judged c.in_ok-placed.placed.stop
    c.as_slice-endpoints.ensures.items c.in_ok-placed.ensures.lines c.deref.ensures.value c.in_ok-placed.ensures.stop c.in_ok-judged.ensures)
    (sym c.is_some.ensures ∙ c.if-is_some.false) (sym c.is_some-2.ensures ∙ c.if-is_some-2.false)
    (placed_at c.args.config.now c.args.lines.now c.as_slice-endpoints.result.now c.in_ok-placed.placed.lines.items c.deref-2.result.now c.as_slice-endpoints.ensures.items
    c.in_ok-placed.ensures.lines c.deref-2.ensures.value)
    (stop_at c.args.config.now c.args.lines.now c.as_slice-endpoints.result.now c.in_ok-placed.placed.stop c.as_slice-endpoints.ensures.items c.in_ok-placed.ensures.stop)
    c.in_ok-first_dense.ensures
