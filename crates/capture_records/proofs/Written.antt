-- What is written for a list of arrivals passes, and is read back as that list.
use Rattle.std.proofs.Common.{◌≡◌, ℕ, ◌+◌, List, [], ◌∷◌, ◌++◌, length, drop, Ok, refl, ap, ◌∙◌}
use Rattle.std.specs.List.{AllByRecursion}
use Rattle.std.proofs.lemmas.List.{drop_at}
use Rattle.std.proofs.lemmas.List.Concat.{flat_map-cons}
use Rattle.capture_records.specs.Records.{Arrived, record_bytes, records_bytes, capture_bytes, HasRecord, HaveRecords}
use Rattle.capture_records.specs.Reading.{checked_from, records_from, checked, records_of}
use Rattle.capture_records.proofs.HeadBytes.{record_length, arrived_back, size_back}
use Rattle.capture_records.proofs.Steps.{checked_next, records_next}

-- what is after the first record
behind : (a : Arrived) (rest : List ℕ) → drop (13 + length a.frame) (record_bytes a ++ rest) ≡ rest
behind a rest = drop_at (record_bytes a) rest (13 + length a.frame) (record_length a)

records_pass : (place : ℕ) (landed : List Arrived) → AllByRecursion HasRecord landed → checked_from place 0 (records_bytes landed) ≡ Ok tt
unfolding checked_from
records_pass place [] h = refl
records_pass place (a ∷ landed) h =
    let size = 13 + length a.frame in
    ap (checked_from place 0) (flat_map-cons record_bytes a landed)
    ∙ checked_next place (record_bytes a ++ records_bytes landed) size (size_back a (records_bytes landed) h.0)
    ∙ ap (checked_from (place + size) 0) (behind a (records_bytes landed))
    ∙ records_pass (place + size) landed h.1

records_back : (landed : List Arrived) → AllByRecursion HasRecord landed → records_from 0 (records_bytes landed) ≡ landed
unfolding records_from
records_back [] h = refl
records_back (a ∷ landed) h =
    let rest = records_bytes landed in
    ap (records_from 0) (flat_map-cons record_bytes a landed)
    ∙ records_next (record_bytes a ++ rest) (13 + length a.frame) (size_back a rest h.0)
    ∙ ap (λ b. b ∷ records_from 0 (drop (13 + length a.frame) (record_bytes a ++ rest))) (arrived_back a rest h.0)
    ∙ ap (λ bytes. a ∷ records_from 0 bytes) (behind a rest)
    ∙ ap (λ bs. a ∷ bs) (records_back landed h.1)

pub passes : (bytes : List ℕ) (landed : List Arrived) → HaveRecords landed → bytes ≡ capture_bytes landed → checked bytes ≡ Ok tt
passes bytes landed h is = ap checked is ∙ records_pass 8 landed h

pub read_back : (bytes : List ℕ) (landed : List Arrived) → HaveRecords landed → bytes ≡ capture_bytes landed → records_of bytes ≡ landed
read_back bytes landed h is = ap records_of is ∙ records_back landed h
