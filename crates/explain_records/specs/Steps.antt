-- What is kept of one thing that a unit judged (this project's profile).
use Rattle.std.specs.Prelude.{◌≡◌, ℕ, ℤ, List, [], ◌∷◌, ◌++◌}
use Rattle.air_source.specs.declared.events.Side.{Side}
use Rattle.air_source.specs.declared.events.Side.TheVariants.{Ru, Du}
use Rattle.explain_heard.specs.declared.heard.FragmentHeard.{FragmentHeard}
use Rattle.explain_heard.specs.declared.judged.Judged.{Judged}
use Rattle.explain_heard.specs.declared.judged.Judged.TheVariants as judged
use Rattle.explain_model.specs.Fragments.{NumberedFragment}
use Rattle.explain_model.specs.SilentReasons.{Kept}
use Rattle.explain_records.specs.OfJudged.{command_of, data_of, header_of, listed}
use Rattle.explain_records.specs.Units.{AreRecordsOf, Comes}
use Rattle.explain_records.specs.declared.fragment_records.FragmentRecords.{FragmentRecords}

-- the records of sections and of messages that were not decoded
abbrev pub kept_next : Side → ℕ → Judged → Kept → Kept
kept_next side number (judged.Message m) k = k
kept_next side number (judged.Command c) k = record k { commanded = k.commanded ++ listed (command_of number c) }
kept_next side number (judged.Fragment f) k = k
kept_next side number (judged.Whole w) k = record k { headers = k.headers ++ listed (header_of side number w) }
kept_next side number (judged.Data d) k = record k { given = k.given ++ data_of side number d ∷ [] }

-- a unit's records go on with a fragment
abbrev pub GoesOn : ℕ → FragmentHeard → FragmentRecords → FragmentRecords → Type 0
GoesOn number f old new =
    (side : Side) (hold : ℤ) (xs : List NumberedFragment) (x : NumberedFragment) → Comes hold xs number f x → AreRecordsOf side hold xs old → AreRecordsOf side hold (xs ++ x ∷ []) new

-- those of one unit, where this was judged at some unit
abbrev pub FragmentsNext : Side → Side → ℕ → Judged → FragmentRecords → FragmentRecords → Type 0
FragmentsNext Ru Ru number (judged.Fragment f) old new = GoesOn number f old new
FragmentsNext Du Du number (judged.Fragment f) old new = GoesOn number f old new
FragmentsNext _ _ _ _ old new = new ≡ old
