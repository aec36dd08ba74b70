-- The records of a unit's fragments, as they are received (this project's profile).
use Rattle.std.specs.Prelude.{◌≡◌, ℕ, ℤ, ◌+◌, ◌*◌, ◌<◌, List, ◌++◌, length, set, slice_get, Option, Some}
use Rattle.ecpri_fragments.specs.Verdicts.{verdict_on}
use Rattle.air_source.specs.declared.events.Side.{Side}
use Rattle.explain_heard.specs.Heard.{fragment_heard}
use Rattle.explain_heard.specs.declared.heard.FragmentHeard.{FragmentHeard}
use Rattle.explain_heard.specs.declared.heard.Heard.TheVariants as heard
use Rattle.explain_model.specs.Fragments.{NumberedFragment}
use Rattle.explain_records.specs.declared.generations.LastGeneration.{LastGeneration}
use Rattle.explain_records.specs.declared.fragment_records.FragmentRecords.{FragmentRecords}
use Rattle.explain_records.specs.declared.told.FragmentTold.{FragmentTold}
use Rattle.explain_records.specs.Recorded.{Recorded, backwards}
use Rattle.explain_records.specs.Turns.{begun_next, found, last_next, repeats}

-- it keeps what these fragments leave, which were received in this order
pub record AreRecordsOf (side : Side) (hold : ℤ) (xs : List NumberedFragment) (r : FragmentRecords) : Type 0 where
  pub side_is : r.side ≡ side
  pub hold_is : r.hold.0 ≡ hold
  pub recorded : Recorded side hold xs r.last.items r.begun.items r.repeated.items

-- a fragment that is received after these: it has this number, this was heard of it, and its verdict is that of its unit
pub record Comes (hold : ℤ) (xs : List NumberedFragment) (number : ℕ) (h : FragmentHeard) (x : NumberedFragment) : Type 0 where
  pub number_is : x.number ≡ number
  pub is_heard : fragment_heard x.endpoint x.fragment x.verdict ≡ heard.Fragment h
  pub verdict_is : x.verdict ≡ verdict_on hold x.fragment (backwards xs)

-- ---- what a call leaves

abbrev pub place_of_told : FragmentTold → ℕ
place_of_told t = t.ep * 256 + t.seq

-- all that it keeps is as it was
pub record Rests (old new : FragmentRecords) : Type 0 where
  pub side : new.side ≡ old.side
  pub hold : new.hold ≡ old.hold
  pub last : new.last.items ≡ old.last.items
  pub begun : new.begun.items ≡ old.begun.items
  pub repeated : new.repeated.items ≡ old.repeated.items

-- the fragment joined the generation that it finds
pub record Moves (t : FragmentTold) (old new : FragmentRecords) : Type 0 where
  pub small : t.seq < 256
  pub was : Option LastGeneration
  pub there : slice_get old.last.items (place_of_told t) ≡ Some was
  pub side : new.side ≡ old.side
  pub hold : new.hold ≡ old.hold
  pub last : new.last.items ≡ set old.last.items (place_of_told t) (Some (last_next t (found old.hold.0 t.at was) (length old.begun.items)))
  pub begun : new.begun.items ≡ begun_next old.side t (found old.hold.0 t.at was) old.begun.items
  pub repeated : new.repeated.items ≡ old.repeated.items ++ repeats old.side t (found old.hold.0 t.at was)
