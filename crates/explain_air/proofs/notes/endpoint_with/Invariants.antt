use Rattle.std.proofs.Common.{◌≡◌, drop}
use Rattle.unit_model.specs.Meetings.{find_from}
use Rattle.explain_air.proofs.notes.endpoint_with.Given as goal

abbrev pub invariant-loop-ep : goal.invariant-loop-ep
invariant-loop-ep l = find_from l.ep (drop l.ep l.endpoints) l.id ≡ find_from 0 l.endpoints l.id
