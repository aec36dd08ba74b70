-- The records of a capture have room in its bytes.
use Rattle.std.proofs.Common.{◌≡◌, ℕ, zero, suc, ◌+◌, ◌≤◌, true, List, [], ◌∷◌, length, drop, length-drop, Ok, is_ok, arith}
use Rattle.std.proofs.lemmas.List.{length-take-le}
use Rattle.capture_records.specs.Reading.{length_at, checked_from, records_from, checked, records_of}
use Rattle.capture_records.specs.Records.{Arrived}
use Rattle.capture_records.proofs.Steps.{whole, first_size, behind_magic}

-- how many bytes the records of arrivals have
abbrev pub sizes : List Arrived → ℕ
sizes [] = 0
sizes (a ∷ rest) = (13 + length a.frame) + sizes rest

sizes_are : (place skip : ℕ) (bytes : List ℕ) → skip ≤ length bytes → is_ok (checked_from place skip bytes) ≡ true → sizes (records_from skip bytes) + skip ≤ length bytes
unfolding checked_from records_from
sizes_are place zero [] h e = omega arith
sizes_are place (suc skip) [] h e = absurd (omega arith)
sizes_are place (suc skip) (b ∷ bytes) h e = omega (arith, sizes_are (place + 1) skip bytes (omega arith) e)
sizes_are place zero (b ∷ bytes) h e =
    let size = first_size place (b ∷ bytes) (omega arith) e in
    let w = whole (b ∷ bytes) (13 + length_at (b ∷ bytes)) size in
    let inside : 12 + length_at (b ∷ bytes) ≤ length bytes = omega (arith, w.within) in
    let long = length-take-le (length_at (b ∷ bytes)) (drop 12 bytes) (omega (arith, inside, length-drop 12 bytes)) in
    let behind : is_ok (checked_from (place + 1) (12 + length_at (b ∷ bytes)) bytes) ≡ true = rw size at e in
    omega (arith, sizes_are (place + 1) (12 + length_at (b ∷ bytes)) bytes inside behind, long)

pub sizes_fit : (bytes : List ℕ) → checked bytes ≡ Ok tt → sizes (records_of bytes) ≤ length bytes
sizes_fit bytes e = omega (arith, sizes_are 0 0 (drop 8 bytes) (omega arith) (behind_magic bytes e), length-drop 8 bytes)
