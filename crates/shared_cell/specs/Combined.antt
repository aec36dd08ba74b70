-- The combined cells of a list of cells: this project's profile of a shared cell.
use Rattle.std.specs.Prelude.{◌≡◌, ℕ, pos, ◌+ℤ◌, ◌<◌, Bool, IsTrue, not, if◌then◌else◌, List, [], ◌∷◌, map, count_by, Option, Some, None, is_some}
use Rattle.std.specs.List.{range_with_len, filter, fold, All}
use Rattle.bfp_codec.specs.declared.samples.Wide.{Wide}
use Rattle.bfp_codec.specs.Samples.{no_wide}
use Rattle.air_source.specs.declared.events.AirCell.{AirCell}
use Rattle.air_source.specs.declared.events.Side.TheVariants.{Du}
use Rattle.shared_cell.specs.declared.values.Mixed.{Mixed}
use Rattle.shared_cell.specs.declared.values.Sum.{Sum}
use Rattle.shared_cell.specs.Places.{place_of, is_at}
use Rattle.shared_cell.specs.Joined.{in_mask, sample_at, no_sum}

-- the cells that are the first of their place, in order
abbrev pub firsts : List AirCell → List AirCell
firsts [] = []
firsts (c ∷ cells) = c ∷ filter (λ d. not (is_at (place_of c) d)) (firsts cells)

-- the cells of a cell's place
abbrev pub cells_with : AirCell → List AirCell → List AirCell
cells_with c cells = filter (is_at (place_of c)) cells

-- the unit has samples
abbrev pub has_samples : AirCell → Bool
has_samples c = is_some c.block

-- the sample of element k, 0 where the cell is missing
abbrev pub sample_in : Option (List Wide) → ℕ → Wide
sample_in None k = no_wide
sample_in (Some block) k = sample_at block k

-- the sum of element k over the cells: I of I, and Q of Q
abbrev pub sum_over : ℕ → List AirCell → Sum
sum_over k cells = record {
  i = fold ◌+ℤ◌ (pos 0) (map (λ c. (sample_in c.block k).i) cells);
  q = fold ◌+ℤ◌ (pos 0) (map (λ c. (sample_in c.block k).q) cells);
}

-- the combined cell of the cells of one place: all but units and sums is the first's
abbrev pub mixed_of : AirCell → List AirCell → Mixed
mixed_of first cells = record {
  at = first.at;
  id = first.id;
  slot = first.slot;
  symbol = first.symbol;
  prb = first.prb;
  section = first.section;
  mask = first.mask;
  units = count_by has_samples cells;
  sums = map (λ k. if in_mask first.mask k then sum_over k cells else no_sum) (range_with_len 0 12);
}

-- the combined cells, in the order in which their places were first added
abbrev pub combined : List AirCell → List Mixed
combined cells = map (λ first. mixed_of first (cells_with first cells)) (firsts cells)

-- the mixer stands for these cells, in the order in which they were added
abbrev pub Stands : List Mixed → List AirCell → Type 0
Stands mixer cells = mixer ≡ combined cells

-- cells of one place are of one time, section and mask
pub record AgreeIn (c d : AirCell) : Type 0 where
  pub at : c.at ≡ d.at
  pub section : c.section ≡ d.section
  pub mask : c.mask ≡ d.mask

-- the cell may be added after these: it is the distributed unit's, fewer than 8 have its place, and it agrees with them
pub record Follows (cells : List AirCell) (c : AirCell) : Type 0 where
  pub side : c.side ≡ Du
  pub room : count_by (is_at (place_of c)) cells < 8
  pub agrees : All (λ d. IsTrue (is_at (place_of c) d) → AgreeIn c d) cells

-- the cell may be added to a mixer that stands for cells that it may follow
pub record MayAdd (mixer : List Mixed) (c : AirCell) : Type 0 where
  pub cells : List AirCell
  pub stands : Stands mixer cells
  pub follows : Follows cells c
