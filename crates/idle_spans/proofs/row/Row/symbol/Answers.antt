use Rattle.std.proofs.Common.{arith}
use Rattle.idle_spans.proofs.TableLemmas.{few_seen}
use Rattle.idle_spans.proofs.row.Row.symbol.Goals as goal

pub symbol_at-requires : goal.symbol_at-requires
symbol_at-requires c = record { k = omega (arith, few_seen _ c.args.self.now c.self.view_is c.self.invariant) }

pub returns-clause-few : goal.returns-clause-few
returns-clause-few c = few_seen _ c.args.self.now c.self.view_is c.self.invariant
