use Rattle.std.proofs.Common.{rules, arith}
use Rattle.std.proofs.lemmas.List.Sorted.{IsPartitionPoint-from_clause}
use Rattle.frame_ways.specs.Rows.{row_of}
use Rattle.frame_ways.proofs.RowLemmas.{found, missing, is_below, parts}
use Rattle.frame_ways.proofs.rows.place_of.Goals as goal
use Rattle.frame_ways.proofs.rows.place_of.Goals.{else-at-rows-via-then-at-rows+else-rows-at, else-at-rows-via-else-at-rows}

pub returns-then-rows-at : goal.returns-then-rows-at
returns-then-rows-at c =
    found c.args.number c.args.rows.now c.partition_point-at.result (row_of 0 0)
    (IsPartitionPoint-from_clause (is_below c.args.number) _ _ c.partition_point-at.ensures.partitioned (parts c.args.number c.args.rows.now c.requires) (λ a r f k. search rules))
    (search rules) c.if-rows-at.true

pub returns-else-at-rows : goal.returns-else-at-rows
returns-else-at-rows c =
    missing c.args.number c.args.rows.now c.partition_point-at.result (row_of 0 0) c.requires
    (IsPartitionPoint-from_clause (is_below c.args.number) _ _ c.partition_point-at.ensures.partitioned (parts c.args.number c.args.rows.now c.requires) (λ a r f k. search rules))
    (λ lt is. elim c.else-at-rows.branch [
      | else-at-rows-via-then-at-rows+else-rows-at w ↦ w.if-rows-at.false is
      | else-at-rows-via-else-at-rows w ↦ omega arith
    ])
