-- One line after the other.
use Rattle.std.proofs.Common.{Some, refl, ap, ◌∙◌}
use Rattle.plan_model.specs.declared.refusals.PlanWhy.{PlanWhy}
use Rattle.du_scheduler.proofs.KnowLemmas.{others_free}
use Rattle.schedule_laws.proofs.SlotWalkLemmas.{line_at, rest_end}
use Rattle.du_scheduler.proofs.PlanStepLemmas.{ring_slot, at_start, at_more, at_refused}
use Rattle.du_scheduler.proofs.judging.judge_slot.Goals as goal

pub loop-line-init : goal.loop-line-init
loop-line-init c =
    at_start _ c.args.first.now.ep c.args.first.now.line.slot c.args.ring.now c.open.new.self c.args.lines.now refl c.requires.one c.requires.free
    c.open.ensures.has c.open.ensures.claims c.open.ensures.uplink c.open.ensures.touches

pub judge-requires-clause-slot : goal.judge-requires-clause-slot
judge-requires-clause-slot c =
    ring_slot _ _ _ c.loop-line.ring _ c.line-item.result c.line_allocation-named.result c.loop-line.invariant.knows
    (line_at _ _ _ c.args.lines.now c.loop-line.line-index c.line-item.result c.requires.lines c.loop-line-test.true c.line-item.is) c.line_allocation-named.ensures

pub claim-requires-clause-slot : goal.claim-requires-clause-slot
claim-requires-clause-slot c =
    ring_slot _ _ _ c.loop-line.ring _ c.line-item.result c.line_allocation-named.result c.loop-line.invariant.knows
    (line_at _ _ _ c.args.lines.now c.loop-line.line-index c.line-item.result c.requires.lines c.loop-line-test.true c.line-item.is) c.line_allocation-named.ensures

pub returns-in_default : goal.returns-in_default
returns-in_default c = record {
  value = ap (λ (w : PlanWhy). Some (c.line-item.result.index, w)) c.why_of.ensures
      ∙ at_refused _ _ _ c.loop-line.ring c.args.lines.now c.loop-line.line-index c.line-item.result c.line_allocation-named.result c.judge.result
      c.loop-line.invariant c.loop-line-test.true c.line-item.is
      (line_at _ _ _ c.args.lines.now c.loop-line.line-index c.line-item.result c.requires.lines c.loop-line-test.true c.line-item.is) c.line_allocation-named.ensures
      c.judge.ensures c.in_default.not-Accepted;
  endpoint = c.loop-line.invariant.knows.endpoint;
  one = c.loop-line.invariant.knows.one;
  others = λ other apart. others_free c.loop-line.ring c.args.first.now.line.slot other c.loop-line.invariant.knows.one c.loop-line.invariant.knows.has apart;
}

pub loop-line-preserved : goal.loop-line-preserved
loop-line-preserved c =
    at_more _ _ _ c.loop-line.ring c.claim.new.self c.args.lines.now c.loop-line.line-index c.line-item.result c.line_allocation-named.result c.judge.result
    c.loop-line.invariant c.loop-line-test.true c.line-item.is
    (line_at _ _ _ c.args.lines.now c.loop-line.line-index c.line-item.result c.requires.lines c.loop-line-test.true c.line-item.is) c.line_allocation-named.ensures
    c.judge.ensures c.in-Accepted.is c.claim.ensures.claims c.claim.ensures.uplink c.claim.ensures.has c.claim.ensures.touches

pub returns-clause-value : goal.returns-clause-value
returns-clause-value c = rest_end c.args.lines.now c.loop-line.line-index c.loop-line.invariant.rest c.loop-line-test.false

pub returns-clause-others : goal.returns-clause-others
returns-clause-others c = λ other apart. others_free c.loop-line.ring c.args.first.now.line.slot other c.loop-line.invariant.knows.one c.loop-line.invariant.knows.has apart
