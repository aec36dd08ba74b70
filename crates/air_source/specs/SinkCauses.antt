-- When an air over a sink answers that memory was refused.
use Rattle.std.specs.Prelude.{ℕ, Bool, true, false, Result, Ok, Err}
use Rattle.fh_base.specs.Causes.{Counts}
use Rattle.air_source.specs.declared.airs.AirFault.{AirFault}
use Rattle.air_source.specs.declared.airs.AirFault.TheVariants.{Failed, NoMemory}

-- an air wanted memory
abbrev pub wants_memory : {T : Type 0} → Result T AirFault → Bool
wants_memory (Ok value) = false
wants_memory (Err Failed) = false
wants_memory (Err NoMemory) = true

-- the sink's count of refusals rose exactly at `NoMemory`
abbrev pub HasRefusal : {T : Type 0} → ℕ → ℕ → Result T AirFault → Type 0
HasRefusal before now result = Counts (wants_memory result) before now
