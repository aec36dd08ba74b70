-- What is kept of a unit's fragments (this project's profile).
use Rattle.std.specs.Prelude.{◌≡◌, ℕ, ℤ, ◌+◌, ◌*◌, ◌<◌, List, [], map, slice_get, Option, Some}
use Rattle.ecpri_fragments.specs.Generations.{Fragment, generations_of}
use Rattle.fh_base.specs.Lists.{onto}
use Rattle.air_source.specs.declared.events.Side.{Side}
use Rattle.explain_records.specs.declared.generations.LastGeneration.{LastGeneration}
use Rattle.explain_records.specs.declared.beginnings.Beginning.{Beginning}
use Rattle.explain_model.specs.declared.headers.RepeatedRecord.{RepeatedRecord}
use Rattle.explain_model.specs.Fragments.{NumberedFragment, fragments_alone, repeated_after}
use Rattle.std.specs.List.{flat_map}
use Rattle.explain_model.specs.declared.headers.BeginningRecord.{BeginningRecord}
use Rattle.explain_records.specs.Beginnings.{begun_after, record_if}
use Rattle.explain_records.specs.Tables.{IsKeptOf, kept_of}

-- these fragments, the newest first
abbrev pub backwards : List NumberedFragment → List Fragment
backwards xs = onto [] (fragments_alone xs)

-- each place of the table is that of the last generation of its endpoint and sequence id
pub record Recorded (side : Side) (hold : ℤ) (xs : List NumberedFragment) (last : List (Option LastGeneration)) (begun : List Beginning) (repeated : List RepeatedRecord) : Type 0 where
  pub generations : (ep seq : ℕ) (o : Option LastGeneration) → seq < 256 → slice_get last (ep * 256 + seq) ≡ Some o
      → IsKeptOf (begun_after side hold [] xs) ep seq o (generations_of hold ep seq (backwards xs))
  pub beginnings : begun ≡ map (kept_of side) (begun_after side hold [] xs)
  pub repeats : repeated ≡ repeated_after side hold [] xs

-- the records of those that are not whole
abbrev pub unfinished_of : Beginning → List BeginningRecord
unfinished_of b = record_if b.is_whole b.kept

abbrev pub unfinished_in : List Beginning → List BeginningRecord
unfinished_in bs = flat_map unfinished_of bs
