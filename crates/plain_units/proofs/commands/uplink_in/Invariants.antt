use Rattle.std.proofs.Common.{◌≡◌, ◌≤◌, ◌+◌, drop}
use Rattle.unit_model.specs.Commands.{uplink_in}
use Rattle.plain_units.proofs.commands.uplink_in.Given as goal

abbrev pub invariant-loop-a : goal.invariant-loop-a
invariant-loop-a l = record {
  counted : uplink_in l.ep l.slot l.accepted ≡ uplink_in l.ep l.slot (drop l.a-index l.accepted) + l.count;
  few : l.count ≤ l.a-index;
}
