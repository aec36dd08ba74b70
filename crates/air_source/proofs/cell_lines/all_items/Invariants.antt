use Rattle.std.proofs.Common.{◌≡◌, ◌+◌, ◌*◌, ◌≤◌, ◌++◌, length}
use Rattle.air_source.specs.CellLines.{items_text}
use Rattle.air_source.proofs.cell_lines.all_items.Given as goal

abbrev pub invariant-loop-k : goal.invariant-loop-k
invariant-loop-k l =
    (l.line ≡ l.initial.line ++ items_text l.mask l.block l.k) × (length l.line ≤ 180 + 24 * l.k)
