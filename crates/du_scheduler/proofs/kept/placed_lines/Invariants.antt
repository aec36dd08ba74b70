use Rattle.std.proofs.Common.{◌≡◌, ◌++◌, map, drop}
use Rattle.du_scheduler.specs.Kept.{placed_line_of}
use Rattle.du_scheduler.proofs.kept.placed_lines.Given as goal

abbrev pub invariant-loop-part : goal.invariant-loop-part
invariant-loop-part l = l.lines.items ++ map placed_line_of (drop l.part-index l.parts) ≡ map placed_line_of l.parts
