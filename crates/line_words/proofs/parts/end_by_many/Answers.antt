use Rattle.std.specs.Prelude.{◌==◌}
use Rattle.line_words.proofs.Cuts.{found_at, found_nowhere}
use Rattle.line_words.proofs.parts.end_by_many.Goals as goal

pub returns-in-Some-clause-value : goal.returns-in-Some-clause-value
returns-in-Some-clause-value c = found_at (λ b. b == c.args.separator) c.args.bytes.now c.in-Some.end c.in-Some.ensures.0 c.in-Some.ensures.1

pub returns-in-None-clause-value : goal.returns-in-None-clause-value
returns-in-None-clause-value c = found_nowhere (λ b. b == c.args.separator) c.args.bytes.now c.in-None.ensures
