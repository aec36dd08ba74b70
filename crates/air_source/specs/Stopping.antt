-- Why and how far an air over a sink stopped in an event (this project's profile).
use Rattle.std.specs.Prelude.{ℕ, List, ◌++◌, Option}
use Rattle.fh_base.specs.Causes.{Rose}
use Rattle.fh_base.specs.Told.{WritesFront, WritesPart}
use Rattle.fh_base.specs.declared.fault.SinkFault.{SinkFault}
use Rattle.fh_base.specs.declared.fault.SinkFault.TheVariants.{Failed as SinkFailed, NoMemory as SinkNoMemory}
use Rattle.air_source.specs.declared.airs.AirFault.{AirFault}
use Rattle.air_source.specs.declared.airs.AirFault.TheVariants.{Failed, NoMemory}

-- a sink's fault, as an air tells it
abbrev pub air_fault : SinkFault → AirFault
air_fault SinkFailed = Failed
air_fault SinkNoMemory = NoMemory

-- the count that the fault speaks of rose
abbrev pub Why : AirFault → ℕ → ℕ → ℕ → ℕ → Type 0
Why Failed faults faults_now refusals refusals_now = Rose faults faults_now
Why NoMemory faults faults_now refusals refusals_now = Rose refusals refusals_now

-- The line of an event did not go on: a front of what was owed and of the line was written and not all, and the sink failed or was refused memory, as the fault says.
pub record Halted (fault : AirFault) (written : Option (List ℕ)) (faults refusals : ℕ) (owed line : List ℕ) (now : Option (List ℕ)) (faults_now refusals_now : ℕ) : Type 0 where
  pub front : WritesFront written now (owed ++ line)
  pub part : WritesPart written now (owed ++ line)
  pub why : Why fault faults faults_now refusals refusals_now
