use Rattle.std.proofs.Common.{arith}
use Rattle.fh_base.proofs.Rows.{row_in}
use Rattle.fh_base.proofs.small_numbers.row.Goals as goal

pub overflow_sub-result : goal.overflow_sub-result
overflow_sub-result c = let r = row_in c.args.n c.rows-rows.result.now c.rows-rows.ensures c.requires in omega (arith, r.low, c.from.ensures)

pub returns-clause-text : goal.returns-clause-text
returns-clause-text c =
    let r = row_in c.args.n c.rows-rows.result.now c.rows-rows.ensures c.requires in rw c.from.ensures r.text

pub returns-clause-count : goal.returns-clause-count
returns-clause-count c =
    let r = row_in c.args.n c.rows-rows.result.now c.rows-rows.ensures c.requires in omega (arith, r.high, c.from.ensures)
