-- What the bytes of a capture say, by a recursion on all of them (this project's profile).
use Rattle.std.specs.Prelude.{ℕ, ℤ, zero, suc, ◌+◌, ◌-◌, ◌==◌, nat_lt, nat_eq, if◌then◌else◌, Bool, List, [], ◌∷◌, length, take, drop, slice_index, Result, Ok, Err, is_ok}
use Rattle.std.specs.List.{starts_with}
use Rattle.std.specs.Int.{w32, w64, from_be_bytes, cast_signed}
use Rattle.air_source.specs.declared.events.Side.{Side}
use Rattle.air_source.specs.declared.events.Side.TheVariants.{Ru, Du}
use Rattle.capture_records.specs.declared.layout.TheConstants.{MAGIC}
use Rattle.capture_records.specs.declared.refusals.CaptureRefusal.{CaptureRefusal}
use Rattle.capture_records.specs.declared.refusals.CaptureWhy.{CaptureWhy}
use Rattle.capture_records.specs.declared.refusals.CaptureWhy.TheVariants.{Magic, Cut, Way}
use Rattle.capture_records.specs.Records.{Arrived}

-- the unit that a record's first byte names
abbrev pub side_at : List ℕ → Side
side_at bytes = if slice_index bytes 0 == 0 then Ru else Du

-- the time in ticks, of the eight bytes from place 1
abbrev pub ticks_at : List ℕ → ℤ
ticks_at bytes = cast_signed w64 (from_be_bytes w64 (drop 1 bytes))

-- the length of the frame, of the four bytes from place 9
abbrev pub length_at : List ℕ → ℕ
length_at bytes = from_be_bytes w32 (drop 9 bytes)

-- the record that the bytes begin with
abbrev pub arrived_at : List ℕ → Arrived
arrived_at bytes = record { side = side_at bytes; at = record { 0 = ticks_at bytes }; frame = take (length_at bytes) (drop 13 bytes) }

-- how many bytes the record has that the bytes begin with, by the first test that fails
abbrev pub size_checked : List ℕ → Result ℕ CaptureWhy
size_checked bytes =
    if nat_lt (length bytes) 13 then Err Cut
    else (if nat_lt 1 (slice_index bytes 0) then Err Way
    else (if nat_lt (length bytes - 13) (length_at bytes) then Err Cut
    else Ok (13 + length_at bytes)))

-- the refusal of a record that begins at a place, or what is found after it
abbrev pub passed_by : Result ℕ CaptureWhy → ℕ → Result (Unit {0}) CaptureRefusal → Result (Unit {0}) CaptureRefusal
passed_by (Ok size) place behind = behind
passed_by (Err why) place behind = Err (record { place = place; why = why })

-- the first refusal of the records from a place on, where the first `skip` bytes belong to a record that passed
unfoldable pub checked_from : ℕ → ℕ → List ℕ → Result (Unit {0}) CaptureRefusal
checked_from place skip [] = Ok tt
checked_from place (suc skip) (b ∷ bytes) = checked_from (place + 1) skip bytes
checked_from place zero (b ∷ bytes) = passed_by (size_checked (b ∷ bytes)) place (checked_from (place + 1) (12 + length_at (b ∷ bytes)) bytes)

-- the records, where the first `skip` bytes belong to one that was read
unfoldable pub records_from : ℕ → List ℕ → List Arrived
records_from skip [] = []
records_from (suc skip) (b ∷ bytes) = records_from skip bytes
records_from zero (b ∷ bytes) = arrived_at (b ∷ bytes) ∷ records_from (12 + length_at (b ∷ bytes)) bytes

-- the first refusal of a capture
abbrev pub checked : List ℕ → Result (Unit {0}) CaptureRefusal
checked bytes =
    if starts_with nat_eq bytes MAGIC then checked_from 8 0 (drop 8 bytes)
    else Err (record { place = 0; why = Magic })

-- the records of a capture that is not refused
abbrev pub records_of : List ℕ → List Arrived
records_of bytes = records_from 0 (drop 8 bytes)

-- bytes that are records and nothing else
abbrev pub all_pass : List ℕ → Bool
all_pass bytes = is_ok (checked_from 0 0 bytes)
