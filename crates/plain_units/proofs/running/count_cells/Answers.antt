use Rattle.std.proofs.Common.{◌<◌, ◌+◌, length, ap, ◌∙◌, arith}
use Rattle.std.proofs.lemmas.List.{take_all}
use Rattle.fault_counters.specs.Counts.{capped, times}
use Rattle.unit_model.specs.Counts.{cells_counted}
use Rattle.unit_model.proofs.CountLemmas.{added_as}
use Rattle.plain_units.proofs.RunLemmas.{some_cell, cells_more, cell_number}
use Rattle.plain_units.proofs.running.count_cells.Goals as goal

pub loop-k-preserved : goal.loop-k-preserved
loop-k-preserved c n h k =
    let xs = c.args.cells.now in
    let i = c.loop-k.k in
    let inside : i < length xs = omega (arith, c.loop-k-test.true, c.len-k-end.ensures) in
    let d = some_cell xs i inside in
    cell_number _ _ (n k) _ _ _ (c.loop-k.invariant n h k) (added_as _ _ _ _ k (c.counter_at.ensures d) (c.add.ensures.each k)) (cells_more xs i d k inside)

pub returns : goal.returns
returns c n h k =
    let xs = c.args.cells.now in
    c.loop-k.invariant n h k ∙ ap (λ ys. capped (n k + times (cells_counted ys) k)) (take_all c.loop-k.k xs (omega (arith, c.loop-k-test.false, c.len-k-end.ensures)))
