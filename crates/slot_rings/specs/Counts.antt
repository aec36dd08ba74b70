-- What a ring counts, so that one look says that nothing of it is due: this project's means.
use Rattle.std.specs.Prelude.{◌≡◌, ℕ, ◌<◌, ◌≤◌, Bool, if◌then◌else◌, List, All, length, map}
use Rattle.std.specs.List.{sum_by}
use Rattle.slot_rings.specs.Places.{PlaceValue}
use Rattle.slot_rings.specs.Rings.{RingValue}
use Rattle.unit_model.specs.declared.uplink.TheConstants.{SLOT_SECTIONS}
use Rattle.fh_base.specs.declared.symbols.TheConstants.{SLOT_SYMBOLS}

-- ---- the flags of symbols that are set

abbrev pub as_number : Bool → ℕ
as_number set = if set then 1 else 0

-- of a place, and of all places
abbrev pub set_of : List Bool → ℕ
set_of row = sum_by as_number row

abbrev pub set_in : List (List Bool) → ℕ
set_in flags = sum_by set_of flags

-- these are the flags of the 14 symbols of less than 1024 places, and so many are set of each place and of all
pub record AreCounted (flags : List (List Bool)) (places : List ℕ) (count : ℕ) : Type 0 where
  pub few : length flags < 1024
  pub rows : All (λ row. length row ≡ SLOT_SYMBOLS) flags
  pub each : places ≡ map set_of flags
  pub number : count ≡ set_in flags

-- ---- the accepted uplink sections

abbrev pub uplink_sections_in : PlaceValue → ℕ
uplink_sections_in p = length p.uplink

-- the places hold so many of them, each place at most 64
pub record HasSections (r : RingValue) (count : ℕ) : Type 0 where
  pub few : All (λ p. uplink_sections_in p ≤ SLOT_SECTIONS) r.places
  pub number : count ≡ sum_by uplink_sections_in r.places
