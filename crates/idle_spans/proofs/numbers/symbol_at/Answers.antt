use Rattle.std.proofs.Common.{ap, arith}
use Rattle.fh_base.specs.declared.values.Shape.{Shape}
use Rattle.idle_spans.proofs.NumberLemmas.{made_symbol}
use Rattle.idle_spans.proofs.numbers.symbol_at.Goals as goal

pub returns : goal.returns
returns c = made_symbol c.args.n.now c.args.frame c.args.k c.frame_symbols-each.result c.shape-shape.result.slots c.shape-shape.result.symbols
    (omega (arith, c.ranges.frame)) (omega (arith, c.requires.k)) c.frame_symbols-each.ensures.value
    (ap (λ (s : Shape). s.slots) c.shape-shape.ensures) (ap (λ (s : Shape). s.symbols) c.shape-shape.ensures)
