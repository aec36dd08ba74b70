use Rattle.air_source.specs.declared.events.Side.TheVariants.{Ru}
use Rattle.std.proofs.Common.{ℕ, List, All}
use Rattle.cplane_sections.specs.Left.{left_of}
use Rattle.cplane_sections.specs.Message.{sections_in}
use Rattle.ecpri_fragments.specs.Generations.{Fragment}
use Rattle.fault_counters.specs.declared.kinds.Counter.{Counter}
use Rattle.window_config.specs.declared.config.Config.{Config}
use Rattle.fh_base.specs.Lists.{onto}
use Rattle.unit_model.specs.Meetings.{commands_with}
use Rattle.unit_model.specs.Proper.{IsProperCommand}
use Rattle.unit_model.specs.declared.decoded.ControlSection.{ControlSection}
use Rattle.unit_model.specs.declared.decoded.UserSection.{UserSection}
use Rattle.unit_cells.specs.Cells.{endpoints_of}
use Rattle.unit_memory.specs.Parts.{HoldsParts, LeavesReported}
use Rattle.unit_memory.proofs.ToldLemmas.{CommandsHeard}
use Rattle.unit_memory.proofs.memory.UnitMemory.command.Given as goal

abbrev pub invariant-loop-section : goal.invariant-loop-section
invariant-loop-section g l = record {
  reports : LeavesReported l.at.0 l.fn.self.cells l.self.cells;
  proper : All (IsProperCommand (endpoints_of l.fn.self.cells)) (commands_with l.ep l.endpoint l.at.0 l.head (left_of l.section-iterator));
  holds : (c : Config) (n : Counter → ℕ) (fs : List Fragment) (cs : List ControlSection) (ds : List UserSection) → HoldsParts Ru c l.at.0 l.fn.self n fs cs ds
      → CommandsHeard g.L.Listener.heard c l.at.0 l.self n fs cs (commands_with l.ep l.endpoint l.at.0 l.head (sections_in l.head l.fn.bytes)) (onto cs (commands_with l.ep l.endpoint l.at.0 l.head (sections_in l.head l.fn.bytes)))
      (commands_with l.ep l.endpoint l.at.0 l.head (left_of l.section-iterator)) ds l.fn.listener l.listener;
}
