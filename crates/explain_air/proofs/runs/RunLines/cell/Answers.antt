use Rattle.std.proofs.Common.{rules, sym}
use Rattle.explain_air.proofs.RunLemmas.{next_prb}
use Rattle.explain_units.specs.Runs.{cells_of}
use Rattle.explain_air.proofs.runs.RunLines.cell.Goals as goal

pub with_next-requires : goal.with_next-requires
with_next-requires g c =
    let next = next_prb (cells_of c.in-Some.run') c.args.c.now c.args.word (sym c.if-goes_on_with.ensures) in
    search (rules, next)
