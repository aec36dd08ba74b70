-- When the pieces of a complete message were received: each at the time of a fragment.
use Rattle.std.proofs.Common.{◌≡◌, ℤ, List, ◌∷◌, All, Some}
use Rattle.std.specs.Option.{option_map}
use Rattle.ecpri_fragments.specs.declared.verdict.Verdict.{Verdict}
use Rattle.ecpri_fragments.specs.declared.verdict.Verdict.TheVariants.{Stored, Whole, Repeat, Stray, TooLong}
use Rattle.ecpri_fragments.specs.Generations.{Fragment}
use Rattle.ecpri_fragments.specs.Verdicts.{standing_before, verdict_on, first_of, whole_of, whole_now}
use Rattle.plain_units.specs.Owned.{owned}
use Rattle.unit_model.specs.Proper.{IsTime}
use Rattle.plain_units.specs.declared.taking.OwnedMessage.{OwnedMessage}
use Rattle.ecpri_fragments.proofs.Standing.{all_stood, first_has}

abbrev pub CameInTime : Fragment → Type 0
CameInTime f = IsTime f.at

-- a message that was made whole
pub record IsOfTimes (m : OwnedMessage) : Type 0 where
  pub first : IsTime m.first.0
  pub last : IsTime m.last.0

of_times : (v : Verdict) (f : Fragment) (s : List Fragment) (m : OwnedMessage) → Some m ≡ option_map owned (whole_of v f s) → CameInTime f → All CameInTime s → IsOfTimes m
of_times Stored f s m e h all = absurd cc
of_times Repeat f s m e h all = absurd cc
of_times Stray f s m e h all = absurd cc
of_times TooLong f s m e h all = absurd cc
of_times Whole f s m e h all =
    let same : m ≡ owned (Rattle.ecpri_fragments.specs.Verdicts.message (f ∷ s)) = cc in
    let first : IsTime (first_of (f ∷ s)) = first_has IsTime f s h all in
    record {
      first = rw same first;
      last = rw same h;
    }

pub whole_came : (hold : ℤ) (f : Fragment) (fs : List Fragment) (m : OwnedMessage) → Some m ≡ option_map owned (whole_now hold f fs) → CameInTime f → All CameInTime fs → IsOfTimes m
whole_came hold f fs m e h all = of_times (verdict_on hold f fs) f (standing_before hold f fs) m e h (all_stood CameInTime hold f fs all)
