use Rattle.std.proofs.Common.{rules}
use Rattle.idle_spans.proofs.NumberLemmas.{frame_is}
use Rattle.idle_spans.proofs.numbers.frame_symbols.Goals as goal

pub returns-clause-value : goal.returns-clause-value
returns-clause-value c = rw (frame_is c.args.n.now) (search rules)
