-- A whole message in memory of its own, as the definitions see it.
use Rattle.std.specs.Prelude.{◌≡◌, ℤ, List, Option}
use Rattle.std.specs.Option.{option_map}
use Rattle.ecpri_fragments.specs.declared.verdict.Verdict.{Verdict}
use Rattle.ecpri_fragments.specs.Generations.{Fragment}
use Rattle.ecpri_fragments.specs.Verdicts.{Message, verdict_on, whole_now}
use Rattle.plain_units.specs.declared.taking.OwnedMessage.{OwnedMessage}
use Rattle.ecpri_fragments.specs.Pieces.{joined}

-- with its pieces joined
abbrev pub owned : Message → OwnedMessage
owned m = record { first = record { 0 = m.first }; last = record { 0 = m.last }; bytes = joined m.pieces }

-- the verdict on a fragment after these, and the message where it makes one complete
pub record IsTaken (hold : ℤ) (f : Fragment) (arrivals : List Fragment) (verdict : Verdict) (message : Option OwnedMessage) : Type 0 where
  pub verdict_is : verdict ≡ verdict_on hold f arrivals
  pub message_is : message ≡ option_map owned (whole_now hold f arrivals)
