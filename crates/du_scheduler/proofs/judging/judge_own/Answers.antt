-- A ring of one place for the endpoint of the first line.
use Rattle.std.proofs.Common.{sym, ◌∙◌, subst}
use Rattle.std.specs.List.{AllByRecursion}
use Rattle.window_config.specs.declared.endpoints.EndpointConfig.{EndpointConfig}
use Rattle.schedule_laws.specs.SlotOrder.{IsEndpointLine, ep_of}
use Rattle.schedule_laws.proofs.EndpointTestLemmas.{first_in, none_is}
use Rattle.du_scheduler.proofs.judging.judge_own.Goals as goal

pub returns-then-is_empty : goal.returns-then-is_empty
returns-then-is_empty c = none_is c.args.own.now (sym c.is_empty.ensures ∙ c.if-is_empty.true)

pub make-requires-clause-prbs_some : goal.make-requires-clause-prbs_some
make-requires-clause-prbs_some c = (c.requires.endpoint _ (first_in c.args.own.now c.index-own-0.result (sym c.is_empty.ensures ∙ c.if-is_empty.false))).some

pub make-requires-clause-prbs_few : goal.make-requires-clause-prbs_few
make-requires-clause-prbs_few c = (c.requires.endpoint _ (first_in c.args.own.now c.index-own-0.result (sym c.is_empty.ensures ∙ c.if-is_empty.false))).most

pub judge_slots-requires-clause-lines : goal.judge_slots-requires-clause-lines
judge_slots-requires-clause-lines c =
    subst (λ (e : EndpointConfig). AllByRecursion (IsEndpointLine e (ep_of c.args.own.now)) c.args.own.now) (sym c.in_ok-ring.ensures.endpoint)
    (c.requires.lines _ (first_in c.args.own.now c.index-own-0.result (sym c.is_empty.ensures ∙ c.if-is_empty.false)))
