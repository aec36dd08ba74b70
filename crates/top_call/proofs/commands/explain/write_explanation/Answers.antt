use Rattle.std.proofs.Common.{IfOk, sym, subst}
use Rattle.document_texts.specs.Text.{HasFewFrames}
use Rattle.top_call.specs.Answers.{explained}
use Rattle.top_call.proofs.Planned.{performs_planned}
use Rattle.top_call.proofs.commands.explain.write_explanation.Goals as goal

pub returns-in-Ok-clause-does : goal.returns-in-Ok-clause-does
returns-in-Ok-clause-does g c = performs_planned (explained c.args.faults) c.args.bytes.now c.in-Ok.document _ c.in-Ok.plan _ _ _ _ c.put_explanation.result c.in-Ok.ensures.ok.1.0 c.in-Ok.ensures.ok.1.1 c.put_explanation.ensures.does

pub returns-in-Ok-clause-few : goal.returns-in-Ok-clause-few
returns-in-Ok-clause-few g c done = subst (λ (r : _). IfOk r HasFewFrames) (sym c.in-Ok.ensures.ok.1.0) (c.put_explanation.ensures.few done)

pub returns-in-Err-clause-does : goal.returns-in-Err-clause-does
returns-in-Err-clause-does g c = c.in-Err.ensures.err (explained c.args.faults) _ _
