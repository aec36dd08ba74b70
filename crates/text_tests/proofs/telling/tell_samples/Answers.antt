use Rattle.std.proofs.Common.{rules, ◌≡◌, map, ap, sym, ◌∙◌}
use Rattle.std.proofs.lemmas.Result.{IfErr-weaker}
use Rattle.air_source.specs.Answers.{widened}
use Rattle.air_source.specs.Tellings.{cell_by}
use Rattle.air_source.proofs.Stops.{stops_at}
use Rattle.text_tests.proofs.telling.tell_samples.Goals as goal

pub returns-in_err-cell-clause-stop : goal.returns-in_err-cell-clause-stop
returns-in_err-cell-clause-stop g c = λ answer by.
    let same : c.cell.result ≡ c.from_residual.result = search rules in
    let samples = c.wide_block.ensures ∙ ap (map widened) (c.block-block.ensures.block answer by) in
    let stops = rw samples at c.cell.ensures.stop in
    rw (sym same) (IfErr-weaker c.cell.result _ _ (λ f stop.
    stops_at g.A.Air.grew (g.A.Air.stopped f) (cell_by answer c.args.slot) c.args.prbs.now c.loop-prb.prb-index 0 c.args.air.now c.loop-prb.air c.cell.new.self
    c.loop-prb-test.true (c.loop-prb.invariant.heard answer by) stop) stops)
