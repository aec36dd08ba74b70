use Rattle.std.proofs.Common.{rules, ◌≡◌, sym}
use Rattle.std.proofs.lemmas.Result.{IfErr-weaker}
use Rattle.air_source.specs.declared.events.Event.TheVariants.{Cell}
use Rattle.air_source.proofs.Stops.{stops_at}
use Rattle.text_tests.proofs.telling.tell_cells.Goals as goal

pub returns-in_err-cell-clause-stop : goal.returns-in_err-cell-clause-stop
returns-in_err-cell-clause-stop g c =
    let same : c.cell.result ≡ c.from_residual.result = search rules in
    rw (sym same) (IfErr-weaker c.cell.result _ _ (λ f stop.
    stops_at g.A.Air.grew (g.A.Air.stopped f) Cell c.args.cells.now c.loop-cell.cell-index _ c.args.air.now c.loop-cell.air c.cell.new.self
    c.loop-cell-test.true c.loop-cell.invariant.heard stop) c.cell.ensures.stop)
