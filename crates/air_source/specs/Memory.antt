-- What the air in memory keeps, and what a call of it does.
use Rattle.std.specs.Prelude.{◌≡◌, ◌↔◌, ℕ, List, [], ◌∷◌, ◌++◌, Result, OnOk, OnErr, IsErrOf, IsTrue}
use Rattle.fh_base.specs.Ends.{next_call, fails_at}
use Rattle.air_source.specs.Causes.{HasAirCause, CountsAirFaults}
use Rattle.air_source.specs.declared.airs.AirFault.{AirFault}
use Rattle.air_source.specs.declared.airs.AirFault.TheVariants.{Failed, NoMemory}
use Rattle.air_source.specs.declared.events.Event.{Event}
use Rattle.air_source.specs.declared.memory_air.MemoryAir.{MemoryAir}

-- the events that it heard
abbrev pub heard_of : MemoryAir → List Event
heard_of a = a.heard

-- the numbers of the calls that fail
abbrev pub fails_of : MemoryAir → List ℕ
fails_of a = a.fails

-- how many calls there were, up to the greatest u64
abbrev pub calls_of : MemoryAir → ℕ
calls_of a = a.calls

-- how often it failed, up to the greatest u64
abbrev pub faults_of : MemoryAir → ℕ
faults_of a = a.faults

-- a call is counted, it fails exactly where its number is listed, and only then the count of faults rises
pub record Calls {T : Type 0} (old new : MemoryAir) (result : Result T AirFault) : Type 0 where
  pub counted : calls_of new ≡ next_call (calls_of old)
  pub listed : IsErrOf result Failed ↔ IsTrue (fails_at (fails_of old) (next_call (calls_of old)))
  pub faults : CountsAirFaults (faults_of old) (faults_of new) result
  pub fails : fails_of new ≡ fails_of old

-- a call begins: it changes no event, and fails or goes on
pub record Begins {T : Type 0} (old new : MemoryAir) (result : Result T AirFault) : Type 0 where
  pub heard : heard_of new ≡ heard_of old
  pub call : Calls old new result
  pub cause : HasAirCause (faults_of old) (faults_of new) result
  pub fails_only : IsErrOf result NoMemory → ⊥

-- the event is kept, or memory was refused; all else stays
pub record Keeps {T : Type 0} (old : MemoryAir) (event : Event) (new : MemoryAir) (result : Result T AirFault) : Type 0 where
  pub heard : OnOk result (heard_of new ≡ heard_of old ++ event ∷ [])
  pub kept : OnErr result (heard_of new ≡ heard_of old)
  pub never : IsErrOf result Failed → ⊥
  pub calls : calls_of new ≡ calls_of old
  pub fails : fails_of new ≡ fails_of old
  pub faults : faults_of new ≡ faults_of old
