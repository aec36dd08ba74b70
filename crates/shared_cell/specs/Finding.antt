-- How a mixer finds the combined cell of a place.
use Rattle.std.specs.Prelude.{◌≡◌, ℕ, suc, ◌<◌, ◌≤◌, length, get_or, take, if◌then◌else◌, Bool, true, false, List, [], ◌∷◌, Option, Some, None}
use Rattle.std.specs.Option.{option_map}
use Rattle.std.specs.Ordering.{is_gt}
use Rattle.std.specs.List.{All}
use Rattle.std.specs.BTreeMap.{get}
use Rattle.shared_cell.specs.declared.finding.Finder.{Finder}
use Rattle.shared_cell.specs.declared.places.CellPlace.{CellPlace}
use Rattle.shared_cell.specs.declared.values.Mixed.{Mixed}
use Rattle.shared_cell.specs.Places.{is_mixed_at, place_cmp, place_in}

-- the index of the first combined cell at a place
abbrev pub index_of : CellPlace → List Mixed → Option ℕ
index_of p [] = None
index_of p (m ∷ ms) = if is_mixed_at p m then Some 0 else option_map suc (index_of p ms)

-- a place is greater than the greatest, or there is none
abbrev pub is_beyond : Option CellPlace → CellPlace → Bool
is_beyond None p = true
is_beyond (Some greatest) p = is_gt (place_cmp p greatest)

-- each combined cell is the first at its place, so no two have one
abbrev pub AreApart : List Mixed → Type 0
AreApart ms = (k : ℕ) (m : Mixed) → k < length ms → index_of (place_in (get_or ms k m)) ms ≡ Some k

-- no combined cell is beyond the greatest place, no two have one place, and the map finds each of the first `mapped` of them
pub record Finds (f : Finder) (ms : List Mixed) : Type 0 where
  pub within : f.mapped ≤ length ms
  pub found : (p : CellPlace) → get place_cmp f.map p ≡ index_of p (take f.mapped ms)
  pub below : All (λ m. is_beyond f.greatest (place_in m) ≡ false) ms
  pub apart : AreApart ms
