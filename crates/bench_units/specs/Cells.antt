-- The cells that are added.
use Rattle.std.specs.Prelude.{ℕ, zero, suc, pos, ◌/◌, ◌%◌, List, [], ◌∷◌, ◌++◌, Some, neg_ℤ, map}
use Rattle.std.specs.List.{range_with_len}
use Rattle.air_source.specs.declared.events.AirCell.{AirCell}
use Rattle.air_source.specs.declared.events.Side.TheVariants.{Du}

-- cell k of a unit
abbrev pub cell_of : ℕ → AirCell
cell_of k = record {
  side = Du;
  at = record { 0 = pos 0 };
  id = 2;
  slot = record { frame = pos (k / 29680); subframe = k / 2968 % 10; slot = k / 1484 % 2 };
  symbol = k / 106 % 14;
  prb = k % 106;
  section = 17;
  mask = 4095;
  block = Some (map (λ (i : ℕ). record { i = pos 5; q = neg_ℤ (pos 7) }) (range_with_len 0 12));
}

-- the first n cells of a unit
abbrev pub first_cells : ℕ → List AirCell
first_cells zero = []
first_cells (suc n) = first_cells n ++ cell_of n ∷ []

-- all cells of some units, one unit after the other
abbrev pub units_of : ℕ → ℕ → List AirCell
units_of zero count = []
units_of (suc units) count = units_of units count ++ first_cells count
