-- One more cell in the combined cell of its place, and the bounds of its sums.
use Rattle.std.specs.Prelude.{IsTrue, ℕ, ◌&&◌, nat_lt, not, pos, neg_ℤ, ◌+ℤ◌, ◌≤ℤ◌, ◌+◌, ◌-◌, ◌*◌, ◌/◌, ◌%◌, ◌^◌, ◌<◌, ◌≤◌, ◌==◌, Bool, if◌then◌else◌, List, [], ◌∷◌, map, slice_index_or, Option, Some, None}
use Rattle.std.specs.List.{range_with_len}
use Rattle.std.specs.Ordering.{int_eq}
use Rattle.bfp_codec.specs.declared.samples.Wide.{Wide}
use Rattle.bfp_codec.specs.Samples.{no_wide}
use Rattle.air_source.specs.declared.events.AirCell.{AirCell}
use Rattle.air_source.specs.Units.{is_down}
use Rattle.shared_cell.specs.declared.values.Mixed.{Mixed}
use Rattle.shared_cell.specs.declared.values.Sum.{Sum}
use Rattle.shared_cell.specs.Places.{is_mixed_at, place_of}

abbrev pub no_sum : Sum
no_sum = record { i = pos 0; q = pos 0 }

-- the mask has element k: element 0 is the most significant of the low 12 bits (reMask of O-RAN.WG4.CUS)
abbrev pub in_mask : ℕ → ℕ → Bool
in_mask mask k = (mask / 2 ^ (11 - k)) % 2 == 1

-- element k of a block
abbrev pub sample_at : List Wide → ℕ → Wide
sample_at block k = slice_index_or block k no_wide

-- a sum with one more sample
abbrev pub plus : Sum → Wide → Sum
plus s w = record { i = s.i +ℤ w.i; q = s.q +ℤ w.q }

-- the sums with the samples of the mask's elements
abbrev pub summed : ℕ → List Wide → List Sum → List Sum
summed mask block sums = map (λ k. if in_mask mask k then plus (slice_index_or sums k no_sum) (sample_at block k) else slice_index_or sums k no_sum) (range_with_len 0 12)

-- the combined cell of a cell's place before any samples
abbrev pub opened : AirCell → Mixed
opened c = record { at = c.at; id = c.id; slot = c.slot; symbol = c.symbol; prb = c.prb; section = c.section; mask = c.mask; units = 0; sums = map (λ k. no_sum) (range_with_len 0 12) }

-- the distributed unit's
abbrev pub is_uplink : AirCell → Bool
is_uplink c = not (is_down c.side)

-- a missing cell changes nothing; samples count as a unit's, and are summed
abbrev pub joined_block : Option (List Wide) → Mixed → Mixed
joined_block None m = m
joined_block (Some block) m = record { at = m.at; id = m.id; slot = m.slot; symbol = m.symbol; prb = m.prb; section = m.section; mask = m.mask; units = m.units + 1; sums = summed m.mask block m.sums }

abbrev pub joined : AirCell → Mixed → Mixed
joined c m = joined_block c.block m

-- the combined cells with one more cell: in that of its place, or as the last
abbrev pub added : AirCell → List Mixed → List Mixed
added c [] = joined c (opened c) ∷ []
added c (m ∷ ms) = if is_mixed_at (place_of c) m then joined c m ∷ ms else m ∷ added c ms

-- a sum of so many samples of 32 bits
pub record IsWithin (n : ℕ) (s : Sum) : Type 0 where
  pub i_low : neg_ℤ (pos (n * 2 ^ 31)) ≤ℤ s.i
  pub i_high : s.i ≤ℤ pos (n * 2 ^ 31)
  pub q_low : neg_ℤ (pos (n * 2 ^ 31)) ≤ℤ s.q
  pub q_high : s.q ≤ℤ pos (n * 2 ^ 31)

abbrev pub AreWithin : ℕ → List Sum → Type 0
AreWithin n sums = (k : ℕ) → k < 12 → IsWithin n (slice_index_or sums k no_sum)

-- at most 8 units have samples, and the sums are those of as many samples
pub record IsBounded (m : Mixed) : Type 0 where
  pub units : m.units ≤ 8
  pub sums : AreWithin m.units m.sums

-- the cell may be joined to the combined cell: fewer than 8 units have samples there, and it has the place's time, section and mask
abbrev pub may_join : AirCell → Mixed → Bool
may_join c m = nat_lt m.units 8 && (int_eq c.at.0 m.at.0 && ((c.section == m.section) && (c.mask == m.mask)))

-- the combined cell with the cell, or as it is where the cell may not be joined
abbrev pub joined_or_left : AirCell → Mixed → Mixed
joined_or_left c m = if may_join c m then joined c m else m

-- the combined cells with one more cell of the distributed unit, or as they are where it may not be joined to that of its place
abbrev pub joined_at : AirCell → List Mixed → List Mixed
joined_at c [] = joined c (opened c) ∷ []
joined_at c (m ∷ ms) = if is_mixed_at (place_of c) m then joined_or_left c m ∷ ms else m ∷ joined_at c ms

-- a cell of the radio unit changes nothing
abbrev pub taken : AirCell → List Mixed → List Mixed
taken c ms = if is_uplink c then joined_at c ms else ms

-- where the combined cell is that of the cell's place, the cell may be joined to it
abbrev pub MayJoin : AirCell → Mixed → Type 0
MayJoin c m = IsTrue (is_mixed_at (place_of c) m) → IsTrue (may_join c m)
