-- Endpoint after endpoint.
use Rattle.schedule_laws.proofs.PlacedLemmas.{are_placed}
use Rattle.schedule_laws.proofs.EndpointTestLemmas.{found_start, found_more, found_all}
use Rattle.du_scheduler.proofs.judging.judge_lines.Goals as goal

pub loop-ep-init : goal.loop-ep-init
loop-ep-init c = found_start c.args.lines.now

pub judge_endpoint-requires : goal.judge_endpoint-requires
judge_endpoint-requires c = record { lines = are_placed c.args.endpoints.now c.args.lines.now c.requires.endpoints c.requires.lines }

pub loop-ep-preserved : goal.loop-ep-preserved
loop-ep-preserved c = found_more c.args.lines.now c.loop-ep.ep c.loop-ep.least c.in_ok-least.least c.loop-ep.invariant c.in_ok-least.ensures

pub returns : goal.returns
returns c = found_all c.args.endpoints.now c.args.lines.now c.loop-ep.ep c.loop-ep.least c.requires.endpoints c.requires.lines c.requires.numbers c.loop-ep.invariant c.loop-ep-test.false
