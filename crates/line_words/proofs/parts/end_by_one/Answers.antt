use Rattle.std.proofs.Common.{sym, arith, rules}
use Rattle.std.specs.Prelude.{◌==◌}
use Rattle.line_words.proofs.Cuts.{position_at}
use Rattle.line_words.proofs.parts.end_by_one.Goals as goal

pub returns-then-bytes-i-clause-value : goal.returns-then-bytes-i-clause-value
returns-then-bytes-i-clause-value c = sym (position_at (λ b. b == c.args.separator) c.args.bytes.now c.loop-i.i (omega arith) c.loop-i.invariant (search rules))
