-- How far the air of a unit stopped in an event (this project's profile).
use Rattle.std.specs.Prelude.{ℕ, List, ◌++◌, Option}
use Rattle.fh_base.specs.Causes.{Rose}
use Rattle.fh_base.specs.Told.{WritesFront}
use Rattle.air_source.specs.declared.airs.AirFault.{AirFault}
use Rattle.air_source.specs.declared.airs.AirFault.TheVariants.{Failed, NoMemory}

-- a failure has its cause in the sink; want of memory is of the sink or of the mixer
abbrev pub Why : AirFault → ℕ → ℕ → Type 0
Why Failed faults faults_now = Rose faults faults_now
Why NoMemory faults faults_now = Unit {0}

-- the event's line did not go on: a front of what was owed and of the line was written
pub record Ceased (fault : AirFault) (written : Option (List ℕ)) (faults : ℕ) (owed line : List ℕ) (now : Option (List ℕ)) (faults_now : ℕ) : Type 0 where
  pub front : WritesFront written now (owed ++ line)
  pub why : Why fault faults faults_now
