-- When an air answers that it failed.
use Rattle.std.specs.Prelude.{◌≡◌, ℕ, Bool, true, false, Result, Ok, Err, MatchResult}
use Rattle.fh_base.specs.Causes.{Counts, one_more}
use Rattle.air_source.specs.declared.airs.AirFault.{AirFault}
use Rattle.air_source.specs.declared.airs.AirFault.TheVariants.{Failed, NoMemory}

-- an air failed, or heard what it was told, or wanted memory
abbrev pub has_failed : {T : Type 0} → Result T AirFault → Bool
has_failed (Ok value) = false
has_failed (Err Failed) = true
has_failed (Err NoMemory) = false

-- the count of faults rose exactly at `Failed`
abbrev pub HasAirCause : {T : Type 0} → ℕ → ℕ → Result T AirFault → Type 0
HasAirCause before now result = Counts (has_failed result) before now

-- the count of faults after an air's error
abbrev pub faults_after : AirFault → ℕ → ℕ
faults_after Failed before = one_more before
faults_after NoMemory before = before

-- the count of faults rises by one at `Failed`, and stays else
abbrev pub CountsAirFaults : {T : Type 0} → ℕ → ℕ → Result T AirFault → Type 0
CountsAirFaults before now result = MatchResult result (λ _. now ≡ before) (λ e. now ≡ faults_after e before)
