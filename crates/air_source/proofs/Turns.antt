-- Two texts that an event gives, told in turn.
use Rattle.std.proofs.Common.{◌≤◌, ℕ, List, ◌++◌, Option, subst, append_assoc, arith}
use Rattle.fh_base.specs.Told.{WritesFront}
use Rattle.fh_base.proofs.Progress.{front_first}
use Rattle.air_source.specs.declared.airs.AirFault.{AirFault}
use Rattle.air_source.specs.declared.airs.AirFault.TheVariants.{Failed, NoMemory}
use Rattle.fh_base.specs.Owed.{Carried}
use Rattle.fh_base.proofs.Carrying.{front_behind}
use Rattle.fh_base.proofs.Parts.{part_before, part_behind}
use Rattle.air_source.specs.Stopping.{Halted, Why}

-- the air stopped in the first text, so in both
pub halted_first : (f : AirFault) (written : Option (List ℕ)) (faults refusals : ℕ) (owed first second : List ℕ) (now : Option (List ℕ)) (faults_now refusals_now : ℕ)
    → Halted f written faults refusals owed first now faults_now refusals_now → Halted f written faults refusals owed (first ++ second) now faults_now refusals_now
halted_first f written faults refusals owed first second now faults_now refusals_now h = record {
  front = subst (λ (t : List ℕ). WritesFront written now t) (append_assoc owed first second) (front_first written now (owed ++ first) second h.front);
  part = part_before written now owed first second h.part;
  why = h.why;
}

-- a count that rose since later rose
since : (f : AirFault) (faults refusals faults_then refusals_then faults_now refusals_now : ℕ) → faults ≤ faults_then → refusals ≤ refusals_then
    → Why f faults_then faults_now refusals_then refusals_now → Why f faults faults_now refusals refusals_now
since Failed faults refusals faults_then refusals_then faults_now refusals_now h k why = omega (arith, why)
since NoMemory faults refusals faults_then refusals_then faults_now refusals_now h k why = omega (arith, why)

-- the first went on and the air stopped in the second, so in both
pub halted_second : (f : AirFault) (written : Option (List ℕ)) (faults refusals : ℕ) (owed first second : List ℕ) (middle : Option (List ℕ)) (faults_then refusals_then : ℕ) (owed_then : List ℕ)
    (now : Option (List ℕ)) (faults_now refusals_now : ℕ)
    → Carried written owed first middle owed_then → faults ≤ faults_then → refusals ≤ refusals_then → Halted f middle faults_then refusals_then owed_then second now faults_now refusals_now
    → Halted f written faults refusals owed (first ++ second) now faults_now refusals_now
halted_second f written faults refusals owed first second middle faults_then refusals_then owed_then now faults_now refusals_now carried h k halted = record {
  front = front_behind written owed first middle owed_then second now carried halted.front;
  part = part_behind written owed first middle owed_then second now carried halted.part;
  why = since f faults refusals faults_then refusals_then faults_now refusals_now h k halted.why;
}
