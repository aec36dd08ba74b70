use Rattle.std.proofs.Common.{List}
use Rattle.ecpri_frames.specs.Gathering.{whole_messages}
use Rattle.ecpri_frames.specs.Left.{left_of}
use Rattle.fh_base.specs.Lists.{onto}
use Rattle.unit_model.specs.Meetings.{Arrival, Meeting, met_in}
use Rattle.plain_units.specs.Plain.{PlainStands}
use Rattle.plain_units.proofs.PlainLemmas.{MetSoFar}
use Rattle.plain_units.proofs.plain.Plain.frame.Given as goal

abbrev pub invariant-loop-message : goal.invariant-loop-message
invariant-loop-message l = (arrivals : List Arrival) (ms : List Meeting) → PlainStands l.initial.self l.side l.config arrivals ms
    → MetSoFar l.self l.side l.config l.at.0 arrivals (onto ms (met_in l.side l.config.endpoints l.at.0 (whole_messages l.fn.frame))) (left_of l.message-iterator)
