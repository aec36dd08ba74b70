use Rattle.std.proofs.Common.{take}
use Rattle.unit_model.specs.Meetings.{meetings}
use Rattle.plain_units.specs.Plain.{PlainStands, arrivals_of}
use Rattle.plain_units.proofs.running.treated.Given as goal

abbrev pub invariant-loop-f : goal.invariant-loop-f
invariant-loop-f l =
    PlainStands l.unit l.side l.config (arrivals_of (take l.f-index l.frames)) (meetings l.side l.config.endpoints (arrivals_of (take l.f-index l.frames)))
