-- One unit after the other.
use Rattle.std.proofs.lemmas.Result.{IfErr-weaker}
use Rattle.air_source.specs.declared.events.Side.TheVariants.{Ru, Du}
use Rattle.why_lines.specs.Unused.{symbols_text}
use Rattle.why_lines.proofs.TellLemmas.{stops_last}
use Rattle.why_lines.proofs.telling.tell_units.Goals as goal

pub returns-clause-stop : goal.returns-clause-stop
returns-clause-stop g c =
    IfErr-weaker c.tell_symbols-2.result _ _
    (λ f h.
    stops_last g.W.LineSink.grew g.met.W.LineSink.grew_more (g.W.LineSink.stopped f) c.args.out.now c.tell_symbols.new.out c.tell_symbols-2.new.out
    (symbols_text c.args.kept.now c.args.cells.now Ru c.args.radio.now) (symbols_text c.args.kept.now c.args.cells.now Du c.args.distributed.now) c.in_ok-tell_symbols.ensures.heard h)
    c.tell_symbols-2.ensures.stop
