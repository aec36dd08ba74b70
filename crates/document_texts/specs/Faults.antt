-- Under which names the faults below are passed on, and when a fault of writing occurs (this project's profile).
use Rattle.std.specs.Prelude.{ℕ, Bool, true, false, Result, Ok, Err}
use Rattle.fh_base.specs.Causes.{Counts}
use Rattle.air_source.specs.declared.airs.AirFault.{AirFault}
use Rattle.air_source.specs.declared.airs.AirFault.TheVariants as air
use Rattle.fh_base.specs.declared.fault.SinkFault.{SinkFault}
use Rattle.fh_base.specs.declared.fault.SinkFault.TheVariants as sink
use Rattle.fronthaul_replay.specs.declared.report.TextFault.{TextFault}
use Rattle.fronthaul_replay.specs.declared.report.TextFault.TheVariants as text
use Rattle.document_texts.specs.declared.faults.ShareFault.{ShareFault}
use Rattle.document_texts.specs.declared.faults.ShareFault.TheVariants.{WriteFault, NoMemory}

-- of an air
abbrev pub of_air : AirFault → ShareFault
of_air air.Failed = WriteFault
of_air air.NoMemory = NoMemory

-- of a text's writer
abbrev pub of_text : TextFault → ShareFault
of_text text.WriteFault = WriteFault
of_text text.NoMemory = NoMemory

-- of a sink
abbrev pub of_sink : SinkFault → ShareFault
of_sink sink.Failed = WriteFault
of_sink sink.NoMemory = NoMemory

-- writing failed
abbrev pub has_share_fault : {T : Type 0} → Result T ShareFault → Bool
has_share_fault (Ok value) = false
has_share_fault (Err WriteFault) = true
has_share_fault (Err NoMemory) = false

-- the sink's count of faults rose exactly at a fault of writing; want of memory has no cause
abbrev pub HasShareCause : {T : Type 0} → ℕ → ℕ → Result T ShareFault → Type 0
HasShareCause before now result = Counts (has_share_fault result) before now
