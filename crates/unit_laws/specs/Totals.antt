-- Each verdict is counted once: the counters of the verdicts add up.
use Rattle.std.specs.Prelude.{◌≡◌, ℕ, ◌+◌, List, length}
use Rattle.fault_counters.specs.Counts.{times}
use Rattle.fault_counters.specs.declared.kinds.Counter.{Counter}
use Rattle.fault_counters.specs.declared.kinds.Counter.TheVariants.{CMismatch, CLate, CEarly, CRange, CRepeat, COverlap, CFull, CAccepted, ULate, UEarly, URepeat, UTaken}
use Rattle.unit_model.specs.Counts.{commands_counted, data_counted}
use Rattle.unit_model.specs.declared.verdicts.CommandVerdict.{CommandVerdict}
use Rattle.unit_model.specs.declared.verdicts.DataVerdict.{DataVerdict}

-- the eight counters of sections of commands, and the four of sections of data
abbrev pub commands_total : List Counter → ℕ
commands_total cs =
    times cs CMismatch + times cs CLate + times cs CEarly + times cs CRange + times cs CRepeat + times cs COverlap + times cs CFull + times cs CAccepted

abbrev pub data_total : List Counter → ℕ
data_total cs = times cs ULate + times cs UEarly + times cs URepeat + times cs UTaken

abbrev pub CommandsAddUp : Type 0
CommandsAddUp = (vs : List CommandVerdict) → commands_total (commands_counted vs) ≡ length vs

abbrev pub DataAddUp : Type 0
DataAddUp = (vs : List DataVerdict) → data_total (data_counted vs) ≡ length vs
