-- The line of a part, and what is kept of it.
use Rattle.std.proofs.Common.{rules, subst}
use Rattle.explain_units.specs.Known.{as_lines}
use Rattle.explain_heard.specs.Stops.{StopsSome, Within}
use Rattle.explain_units.proofs.telling.tell_one.Goals as goal

pub returns-in_err-tell_some-clause-stop : goal.returns-in_err-tell_some-clause-stop
returns-in_err-tell_some-clause-stop g c =
    let stop =
    subst (λ o. StopsSome g.W.LineSink.grew (g.W.LineSink.stopped c.in_err-tell_some.field-0.0) (as_lines o) c.args.out.now c.tell_some.new.out) c.line_of-line.ensures (Within c.in_err-tell_some.ensures.stop) in
    search (rules, stop)
