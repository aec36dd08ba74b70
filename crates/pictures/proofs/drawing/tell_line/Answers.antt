use Rattle.std.proofs.Common.{rules}
use Rattle.pictures.proofs.Writing.{carries_nothing}
use Rattle.pictures.proofs.drawing.tell_line.Goals as goal

pub returns-then-not-names_cells-clause-carried : goal.returns-then-not-names_cells-clause-carried
returns-then-not-names_cells-clause-carried g c =
    carries_nothing c.args.span c.args.endpoints.now c.args.line.now (g.K.Sink.written c.args.out.now) c.args.owed.now (search rules)
