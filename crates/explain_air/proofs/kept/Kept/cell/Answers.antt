use Rattle.std.proofs.Common.{List, subst}
use Rattle.std.proofs.lemmas.Result.{IfErr-weaker, on_ok_weaker}
use Rattle.explain_air.proofs.KeptLemmas.{after_cell, cell_lines, on_ok_two}
use Rattle.explain_model.specs.declared.values.ExplainLine.{ExplainLine}
use Rattle.explain_heard.specs.Stops.{StopsSome}
use Rattle.explain_air.proofs.kept.Kept.cell.Goals as goal

pub returns-clause-after : goal.returns-clause-after
returns-clause-after g c =
    on_ok_two c.cell.result
    (λ run noted s events h. after_cell s events c.args.self.now h c.args.c.now c.word_of-word.result c.cell.new.self (c.word_of-word.ensures s events h) run noted)
    c.cell.ensures.run c.cell.ensures.noted

pub returns-clause-heard : goal.returns-clause-heard
returns-clause-heard g c =
    on_ok_weaker c.cell.result
    (λ told s events h.
    subst (λ (ls : List ExplainLine). g.W.LineSink.grew c.args.out.now ls c.cell.new.out)
    (cell_lines s events c.args.self.now h c.args.c.now c.word_of-word.result (c.word_of-word.ensures s events h)) told) c.cell.ensures.heard

pub returns-clause-stop : goal.returns-clause-stop
returns-clause-stop g c =
    IfErr-weaker c.cell.result _ _
    (λ f told s events h.
    subst (λ (ls : List ExplainLine). StopsSome g.W.LineSink.grew (g.W.LineSink.stopped f) ls c.args.out.now c.cell.new.out)
    (cell_lines s events c.args.self.now h c.args.c.now c.word_of-word.result (c.word_of-word.ensures s events h)) told) c.cell.ensures.stop
