use Rattle.std.proofs.Common.{◌≡◌, take}
use Rattle.std.specs.Prelude.{map}
use Rattle.du_intake.specs.Lines.{line_of}
use Rattle.du_intake.proofs.lines.uplink_lines.Given as goal
use Rattle.plan_model.specs.Lines.{uplink_allocations}

abbrev pub invariant-loop-p : goal.invariant-loop-p
invariant-loop-p l = l.lines.items ≡ map line_of (uplink_allocations (take l.p-index l.planned))
