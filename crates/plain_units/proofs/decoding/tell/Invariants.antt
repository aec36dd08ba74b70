use Rattle.std.proofs.Common.{◌≡◌, ◌-◌, ◌≤◌, length, take}
use Rattle.fh_base.specs.Numbering.{shape_of}
use Rattle.uplane_sections.specs.Messages.{told}
use Rattle.uplane_sections.specs.States.{used_by, StandsBehind}
use Rattle.unit_model.specs.Decoding.{nothing_told, gathered}
use Rattle.plain_units.proofs.decoding.tell.Given as goal

abbrev pub invariant-loop-at : goal.invariant-loop-at
invariant-loop-at l = record {
  within : l.at ≤ length l.bytes;
  used : used_by l.walker ≡ l.at;
  stands : StandsBehind l.endpoint.format l.endpoint.prbs (shape_of l.endpoint.numerology) l.walker (take l.at l.bytes);
  told_so_far : l.gathered ≡ gathered nothing_told (told l.endpoint.format l.endpoint.prbs (shape_of l.endpoint.numerology) (take l.at l.bytes)).items;
}

abbrev pub decreases-loop-at : goal.decreases-loop-at
decreases-loop-at l = length l.bytes - l.at
