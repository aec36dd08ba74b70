use Rattle.std.proofs.Common.{◌∙◌, ap, arith, get_or-set_same}
use Rattle.slot_rings.specs.Written.{is_in_span, no_prbs}
use Rattle.slot_rings.specs.declared.rows.Span.{Span}
use Rattle.slot_rings.proofs.WrittenLemmas.{written_at}
use Rattle.slot_rings.proofs.written.widen.Goals as goal

pub returns-clause-more : goal.returns-clause-more
returns-clause-more c all n below inside =
    written_at all _ c.args.symbol n below
    ∙ ap (λ (s : Span). is_in_span s n) (get_or-set_same c.args.spans.now c.args.symbol c.widened.result no_prbs (omega (arith, c.requires.symbol, c.told-spans)))
    ∙ c.widened.ensures.more n inside
