use Rattle.std.proofs.Common.{◌≡◌, ◌||◌, List, length}
use Rattle.std.specs.List.{list_any}
use Rattle.ecpri_frames.specs.Messages.{is_delay}
use Rattle.air_source.specs.declared.events.Side.{Side}
use Rattle.ecpri_frames.specs.Left.{frame_of, left_of}
use Rattle.fault_counters.specs.declared.kinds.Counter.{Counter}
use Rattle.window_config.specs.declared.config.Config.{Config}
use Rattle.fh_base.specs.Lists.{onto}
use Rattle.unit_model.specs.Meetings.{Arrival, Meeting, met_in}
use Rattle.unit_memory.specs.Control.{is_control}
use Rattle.unit_memory.specs.Parts.{LeavesReported, MemoryStands}
use Rattle.unit_memory.proofs.HoldLemmas.{CountSoFar}
use Rattle.unit_memory.proofs.ToldLemmas.{MetHeard}
use Rattle.unit_memory.proofs.memory.UnitMemory.take_messages.Given as goal

abbrev pub invariant-loop-message : goal.invariant-loop-message
invariant-loop-message g l = record {
  frame : frame_of l.left ≡ frame_of l.fn.left;
  reports : LeavesReported l.at.0 l.fn.self.cells l.self.cells;
  counted : CountSoFar l.count (length (left_of l.left)) (length (left_of l.fn.left));
  control : (l.control || list_any is_control (left_of l.left)) ≡ list_any is_control (left_of l.fn.left);
  delay : (l.delay || list_any is_delay (left_of l.left)) ≡ list_any is_delay (left_of l.fn.left);
  holds : (side : Side) (c : Config) (arrivals : List Arrival) (ms : List Meeting) (beside : List Counter) → MemoryStands side c l.at.0 l.fn.self arrivals ms beside
      → MetHeard g.L.Listener.heard side c l.at.0 l.self arrivals ms (onto ms (met_in side c.endpoints l.at.0 (left_of l.fn.left))) (left_of l.fn.left) (left_of l.left) beside l.fn.listener l.listener;
}

abbrev pub decreases-loop-message : goal.decreases-loop-message
decreases-loop-message g l = length (left_of l.left)
