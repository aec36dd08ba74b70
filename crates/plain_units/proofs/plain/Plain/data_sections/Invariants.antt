use Rattle.std.proofs.Common.{◌≡◌, ℕ, List, ◌++◌, All, vec_len}
use Rattle.ecpri_fragments.specs.Generations.{Fragment}
use Rattle.fault_counters.specs.declared.kinds.Counter.{Counter}
use Rattle.plain_units.specs.Plain.{PlainHolds}
use Rattle.unit_model.specs.Proper.{IsProperData}
use Rattle.unit_model.specs.declared.decoded.ControlSection.{ControlSection}
use Rattle.unit_model.specs.declared.decoded.UserSection.{UserSection}
use Rattle.plain_units.proofs.plain.Plain.data_sections.Given as goal

abbrev pub invariant-loop-d : goal.invariant-loop-d
invariant-loop-d l = record {
  treated : List UserSection;
  are : l.fn.sections.items ≡ l.sections.items ++ treated;
  proper : All (IsProperData l.config.endpoints) l.sections.items;
  holds : (n : Counter → ℕ) (fs : List Fragment) (cs : List ControlSection) (ds : List UserSection)
      → PlainHolds l.fn.self l.side l.config n fs cs ds → PlainHolds l.self l.side l.config n fs cs (treated ++ ds);
}

abbrev pub decreases-loop-d : goal.decreases-loop-d
decreases-loop-d l = vec_len l.sections
