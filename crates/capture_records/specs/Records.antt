-- What a capture of a list of arrivals is (this project's profile): the magic, and a record for each arrival; numbers are big-endian.
use Rattle.std.specs.Prelude.{ℕ, ℤ, ◌<◌, ◌^◌, List, ◌∷◌, ◌++◌, length}
use Rattle.std.specs.List.{flat_map, AllByRecursion}
use Rattle.std.specs.Int.{w32, w64, to_be_bytes, cast_unsigned}
use Rattle.std.specs.Int.RustNames.{FitsSigned}
use Rattle.fh_base.specs.declared.values.Ticks.{Ticks}
use Rattle.air_source.specs.declared.events.Side.{Side}
use Rattle.air_source.specs.declared.events.Side.TheVariants.{Ru, Du}
use Rattle.capture_records.specs.declared.layout.TheConstants.{MAGIC}
use Rattle.capture_records.specs.declared.values.Record.{Record}

-- an arrival: the unit, the time and the frame
pub record Arrived : Type 0 where
  pub side : Side
  pub at : Ticks
  pub frame : List ℕ

-- the arrival that a record tells
abbrev pub arrived_of : Record → Arrived
arrived_of r = record { side = r.side; at = r.at; frame = r.frame.now }

-- the way: 0 to the radio unit, 1 to the distributed unit
abbrev pub way_byte : Side → ℕ
way_byte Ru = 0
way_byte Du = 1

-- what is before a frame: the way, the time in ticks and the length
abbrev pub head_bytes : Side → ℤ → ℕ → List ℕ
head_bytes side at len = way_byte side ∷ (to_be_bytes w64 (cast_unsigned w64 at) ++ to_be_bytes w32 len)

-- the record of an arrival
abbrev pub record_bytes : Arrived → List ℕ
record_bytes a = head_bytes a.side a.at.0 (length a.frame) ++ a.frame

-- the records of arrivals
abbrev pub records_bytes : List Arrived → List ℕ
records_bytes landed = flat_map record_bytes landed

-- the capture of arrivals
abbrev pub capture_bytes : List Arrived → List ℕ
capture_bytes landed = MAGIC ++ records_bytes landed

-- an arrival whose time and length have a place in a record
pub record HasRecord (a : Arrived) : Type 0 where
  pub at : FitsSigned w64 a.at.0
  pub short : length a.frame < 2 ^ 32

-- arrivals that a capture can hold
abbrev pub HaveRecords : List Arrived → Type 0
HaveRecords landed = AllByRecursion HasRecord landed
