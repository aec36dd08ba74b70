use Rattle.std.proofs.Common.{take, ◌≡◌}
use Rattle.std.specs.List.{flat_map}
use Rattle.fh_base.specs.Owed.{Carried}
use Rattle.capture_show.specs.Texts.{member_text}
use Rattle.capture_show.proofs.printing.tell_members.Given as goal

abbrev pub invariant-loop-m : goal.invariant-loop-m
invariant-loop-m g l = record {
  carried : Carried (g.K.Sink.written l.initial.out) l.initial.owed (flat_map (member_text l.bare) (take l.m-index l.members)) (g.K.Sink.written l.out) l.owed;
  still : g.K.Sink.faults l.out ≡ g.K.Sink.faults l.initial.out;
}
