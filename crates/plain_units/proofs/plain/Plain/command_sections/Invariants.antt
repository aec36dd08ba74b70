use Rattle.std.proofs.Common.{ℕ, List, take}
use Rattle.unit_model.specs.Terms.{Side}
use Rattle.ecpri_fragments.specs.Generations.{Fragment}
use Rattle.fault_counters.specs.declared.kinds.Counter.{Counter}
use Rattle.fh_base.specs.Lists.{onto}
use Rattle.plain_units.specs.Plain.{PlainHolds}
use Rattle.unit_model.specs.declared.decoded.ControlSection.{ControlSection}
use Rattle.unit_model.specs.declared.decoded.UserSection.{UserSection}
use Rattle.plain_units.proofs.plain.Plain.command_sections.Given as goal

abbrev pub invariant-loop-c : goal.invariant-loop-c
invariant-loop-c l = (side : Side) (n : Counter → ℕ) (fs : List Fragment) (cs : List ControlSection) (ds : List UserSection)
    → PlainHolds l.fn.self side l.config n fs cs ds → PlainHolds l.self side l.config n fs (onto cs (take l.c-index l.c-items)) ds
