-- When showing answers that the sink failed, and as what.
use Rattle.std.specs.Prelude.{◌≡◌, ℕ, Bool, true, false, Result, Ok, Err, MatchResult}
use Rattle.fh_base.specs.Causes.{Counts, has_failed}
use Rattle.fh_base.specs.declared.fault.SinkFault.{SinkFault}
use Rattle.fh_base.specs.declared.fault.SinkFault.TheVariants.{Failed, NoMemory}
use Rattle.capture_show.specs.declared.showing.ShowFault.{ShowFault}
use Rattle.capture_show.specs.declared.showing.ShowFault.TheVariants as show

-- the sink's count of faults rose exactly at `Failed`
abbrev pub HasWriteCause : {T : Type 0} → ℕ → ℕ → Result T SinkFault → Type 0
HasWriteCause before now result = Counts (has_failed result) before now

-- what showing answers where its sink answers a fault
abbrev pub show_fault : SinkFault → ShowFault
show_fault Failed = show.WriteFault
show_fault NoMemory = show.NoMemory

-- showing failed in the sink
abbrev pub has_write_fault : {T : Type 0} → Result T ShowFault → Bool
has_write_fault (Ok value) = false
has_write_fault (Err show.WriteFault) = true
has_write_fault (Err show.NoMemory) = false
has_write_fault (Err (show.BadCapture place why)) = false
