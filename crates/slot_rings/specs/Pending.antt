-- Which symbols of a place may have cells to report: this project's means to scan no cells in vain.
use Rattle.std.specs.Prelude.{◌≡◌, ℕ, ◌+◌, Bool, true, false, List, [], length, get_or}
use Rattle.fh_base.specs.Lists.{some}
use Rattle.slot_rings.specs.Places.{PlaceValue, blank, claim_in, cell_number, is_due, is_reported, no_claims}
use Rattle.slot_rings.specs.Rings.{RingValue}

-- a downlink cell of the symbol is in use, and was not reported
abbrev pub due_in : ℕ → PlaceValue → ℕ → Bool
due_in prbs p symbol = some 0 prbs (λ n. is_due (claim_in (get_or p.down (cell_number prbs symbol 0 + n) no_claims)) (is_reported p.down (cell_number prbs symbol 0 + n)))

-- the flag of a symbol of the place with an index: one that is not listed is as set
abbrev pub flag_at : List (List Bool) → ℕ → ℕ → Bool
flag_at flags i symbol = get_or (get_or flags i []) symbol true

-- there are flags of each place, and where one is not set, no cell of that symbol is due
pub record IsFlagged (r : RingValue) (flags : List (List Bool)) : Type 0 where
  pub size : length flags ≡ length r.places
  pub quiet : (i symbol : ℕ) → flag_at flags i symbol ≡ false → due_in r.endpoint.prbs (get_or r.places i blank) symbol ≡ false
