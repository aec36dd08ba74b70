use Rattle.std.proofs.Common.{◌≡◌, drop}
use Rattle.unit_model.specs.Meetings.{find_from}
use Rattle.plan_model.proofs.lines.planned_line.Given as goal

abbrev pub invariant-loop-ep : goal.invariant-loop-ep
invariant-loop-ep l = find_from l.ep (drop l.ep l.endpoints) l.line.id ≡ find_from 0 l.endpoints l.line.id
