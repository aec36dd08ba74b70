-- When a replay answers that the air failed, or that writing failed (this project's profile).
use Rattle.std.specs.Prelude.{ℕ, Bool, true, false, Result, Ok, Err}
use Rattle.fh_base.specs.Causes.{Counts}
use Rattle.fronthaul_replay.specs.declared.replays.ReplayFault.{ReplayFault}
use Rattle.fronthaul_replay.specs.declared.replays.ReplayFault.TheVariants as replay
use Rattle.fronthaul_replay.specs.declared.report.TextFault.{TextFault}
use Rattle.fronthaul_replay.specs.declared.report.TextFault.TheVariants as text

-- the air failed in a replay
abbrev pub has_air_failed : {T : Type 0} → Result T ReplayFault → Bool
has_air_failed (Ok value) = false
has_air_failed (Err replay.AirFailed) = true
has_air_failed (Err replay.NoMemory) = false

-- the air's count of faults rose exactly where it failed
abbrev pub HasReplayCause : {T : Type 0} → ℕ → ℕ → Result T ReplayFault → Type 0
HasReplayCause before now result = Counts (has_air_failed result) before now

-- writing a text failed
abbrev pub has_write_fault : {T : Type 0} → Result T TextFault → Bool
has_write_fault (Ok value) = false
has_write_fault (Err text.WriteFault) = true
has_write_fault (Err text.NoMemory) = false

-- the count of faults rose exactly at a fault of writing; want of memory has no cause
abbrev pub HasWriteCause : {T : Type 0} → ℕ → ℕ → Result T TextFault → Type 0
HasWriteCause before now result = Counts (has_write_fault result) before now
