-- Its own lines, sorted.
use Rattle.std.proofs.Common.{sym, subst, List}
use Rattle.plan_model.specs.declared.lines.PlannedLine.{PlannedLine}
use Rattle.schedule_laws.specs.SlotOrder.{ArePlannedInOrder}
use Rattle.schedule_laws.proofs.EndpointTestLemmas.{Own, own_is, own_lines, own_endpoint, covers_own}
use Rattle.du_scheduler.proofs.judging.judge_endpoint.Goals as goal

pub judge_own-requires : goal.judge_own-requires
judge_own-requires c =
    let own = subst (λ (xs : List PlannedLine). Own c.args.lines.now c.args.ep xs) (sym c.deref.ensures.value)
    (own_is c.args.lines.now c.args.ep c.in_ok-own.own.items c.sort_by_slot.new.lines.items c.in_ok-own.ensures c.sort_by_slot.ensures.homes) in
    record {
      endpoint = own_endpoint c.args.lines.now c.args.ep c.deref.result.now own c.requires.lines;
      lines = own_lines c.args.lines.now c.args.ep c.deref.result.now own c.requires.lines;
      order = subst ArePlannedInOrder (sym c.deref.ensures.value) c.in_ok-sort_by_slot.ensures.order;
    }

pub returns : goal.returns
returns c =
    covers_own c.args.lines.now c.args.ep c.deref.result.now c.args.least c.in_ok-first.first c.lesser.result
    (subst (λ (xs : List PlannedLine). Own c.args.lines.now c.args.ep xs) (sym c.deref.ensures.value)
    (own_is c.args.lines.now c.args.ep c.in_ok-own.own.items c.sort_by_slot.new.lines.items c.in_ok-own.ensures c.sort_by_slot.ensures.homes))
    c.in_ok-first.ensures c.lesser.ensures
