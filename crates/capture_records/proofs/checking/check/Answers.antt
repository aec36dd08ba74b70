use Rattle.std.proofs.Common.{◌∙◌, sym, rules}
use Rattle.capture_records.proofs.Steps.{goes_on, stops, ends}
use Rattle.capture_records.proofs.Written.{passes}
use Rattle.capture_records.proofs.checking.check.Goals as goal

pub loop-place-preserved : goal.loop-place-preserved
loop-place-preserved c = record {
  within = search rules;
  goes_on = goes_on c.args.bytes.now c.loop-place.place c.in-Ok.size (sym c.in-Ok.ensures.value) c.loop-place.invariant.goes_on;
}

pub returns-in-Err-clause-value : goal.returns-in-Err-clause-value
returns-in-Err-clause-value c = stops c.args.bytes.now c.loop-place.place c.in-Err.why c.loop-place-test.true (sym c.in-Err.ensures.value) c.loop-place.invariant.goes_on

pub returns-in-Err-clause-written : goal.returns-in-Err-clause-written
returns-in-Err-clause-written c = λ landed have is. returns-in-Err-clause-value c ∙ passes c.args.bytes.now landed have is

pub returns-clause-value : goal.returns-clause-value
returns-clause-value c = ends c.args.bytes.now c.loop-place.place c.loop-place-test.false c.loop-place.invariant.goes_on
