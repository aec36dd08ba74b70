-- What is written before a frame is read back.
use Rattle.std.proofs.Common.{◌≡◌, ℕ, ℤ, ◌+◌, ◌-◌, ◌^◌, ◌<◌, false, ltb, List, ◌∷◌, ◌++◌, length, take, drop, Ok, refl, ap, ◌∙◌, arith, length-append}
use Rattle.std.specs.Int.{w64, cast_unsigned, cast_signed}
use Rattle.std.specs.Int.RustNames.{FitsSigned}
use mir.ValLaws.{of_z_fits}
use Rattle.std.proofs.lemmas.Bool.{le-ltb}
use Rattle.std.proofs.lemmas.List.{take_at}
use Rattle.std.proofs.lemmas.Nat.{from_be_bytes-to_be_bytes_4, from_be_bytes-to_be_bytes_8}
use Rattle.std.proofs.lemmas.Int.{to_z-of_z}
use Rattle.air_source.specs.declared.events.Side.{Side}
use Rattle.air_source.specs.declared.events.Side.TheVariants.{Ru, Du}
use Rattle.capture_records.specs.Records.{Arrived, way_byte, head_bytes, record_bytes, HasRecord}
use Rattle.capture_records.specs.Reading.{side_at, ticks_at, length_at, arrived_at, size_checked}

-- the record has 13 bytes and its frame
pub record_length : (a : Arrived) → length (record_bytes a) ≡ 13 + length a.frame
record_length a = omega (arith, length-append (head_bytes a.side a.at.0 (length a.frame)) a.frame)

side_back : (side : Side) (bytes : List ℕ) → side_at (way_byte side ∷ bytes) ≡ side
side_back Ru bytes = refl
side_back Du bytes = refl

length_back : (a : Arrived) (rest : List ℕ) → HasRecord a → length_at (record_bytes a ++ rest) ≡ length a.frame
length_back a rest h = from_be_bytes-to_be_bytes_4 (length a.frame) h.short

-- the eight bytes of a time are those of a number below 2^64
below_64 : (z : ℤ) → FitsSigned w64 z → cast_unsigned w64 z < 2 ^ 64
below_64 z h = (of_z_fits w64 z h).fits

ticks_back : (a : Arrived) (rest : List ℕ) → HasRecord a → ticks_at (record_bytes a ++ rest) ≡ a.at.0
ticks_back a rest h =
    let n = cast_unsigned w64 a.at.0 in
    ap (cast_signed w64) (from_be_bytes-to_be_bytes_8 n (below_64 a.at.0 h.at)) ∙ to_z-of_z w64 a.at.0 h.at

frame_back : (a : Arrived) (rest : List ℕ) → HasRecord a → take (length_at (record_bytes a ++ rest)) (drop 13 (record_bytes a ++ rest)) ≡ a.frame
frame_back a rest h = ap (λ n. take n (a.frame ++ rest)) (length_back a rest h) ∙ take_at a.frame rest (length a.frame) refl

-- an arrival by its parts
made : Side → ℤ → List ℕ → Arrived
made side at frame = record { side = side; at = record { 0 = at }; frame = frame }

-- the record of an arrival is read back as it
pub arrived_back : (a : Arrived) (rest : List ℕ) → HasRecord a → arrived_at (record_bytes a ++ rest) ≡ a
unfolding made
arrived_back a rest h =
    let bytes = record_bytes a ++ rest in
    ap (λ s. made s (ticks_at bytes) (take (length_at bytes) (drop 13 bytes))) (side_back a.side (drop 1 bytes))
    ∙ ap (λ t. made a.side t (take (length_at bytes) (drop 13 bytes))) (ticks_back a rest h)
    ∙ ap (λ f. made a.side a.at.0 f) (frame_back a rest h)

way_passes : (side : Side) → ltb 1 (way_byte side) ≡ false
way_passes Ru = refl
way_passes Du = refl

-- it passes, with its size
pub size_back : (a : Arrived) (rest : List ℕ) → HasRecord a → size_checked (record_bytes a ++ rest) ≡ Ok (13 + length a.frame)
size_back a rest h =
    let bytes = record_bytes a ++ rest in
    let all : length bytes ≡ 13 + length a.frame + length rest = length-append (record_bytes a) rest ∙ ap (λ n. n + length rest) (record_length a) in
    let size = length_back a rest h in
    let head : ltb (length bytes) 13 ≡ false = le-ltb _ _ (omega (arith, all)) in
    let frame : ltb (length bytes - 13) (length_at bytes) ≡ false = le-ltb _ _ (omega (arith, all, size)) in
    rw (head, way_passes a.side, frame, size) refl
