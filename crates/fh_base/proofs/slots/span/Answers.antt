use Rattle.fh_base.proofs.Order.{symbol_in_span}
use Rattle.fh_base.proofs.slots.span.Goals as goal

pub returns-clause-covers : goal.returns-clause-covers
returns-clause-covers c = λ slot symbol is_slot below. symbol_in_span c.args.n.now slot symbol below
