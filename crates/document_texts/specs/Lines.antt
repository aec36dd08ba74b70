-- The lines of a shared cell (this project's profile).
use Rattle.std.specs.Prelude.{ℕ, zero, suc, ◌+◌, ◌==◌, List, [], ◌++◌, codes, if◌then◌else◌}
use Rattle.std.specs.List.{flat_map, slice_index_or}
use Rattle.std.specs.Fmt.{signed_decimal}
use Rattle.air_source.specs.CellLines.{slot_text}
use Rattle.shared_cell.specs.Joined.{in_mask, no_sum}
use Rattle.shared_cell.specs.declared.values.Mixed.{Mixed}
use Rattle.shared_cell.specs.declared.values.Sum.{Sum}
use Rattle.fh_base.specs.Words.{hex3_text, hex4_text, spaced_signed_text, spaced_text}

-- the line above what a unit writes
unfoldable pub unit_text : ℕ → List ℕ
unit_text unit = codes "unit" ++ spaced_text unit ++ codes "\n"

-- the line above the combined cells
abbrev pub combined_text : List ℕ
combined_text = codes "combined\n"

-- the last line
abbrev pub end_text : List ℕ
end_text = codes "end\n"

-- ---- a combined cell

-- the words before the sums
abbrev pub mix_head_text : Mixed → List ℕ
mix_head_text m = codes "mix" ++ spaced_signed_text m.at.0 ++ codes " " ++ hex4_text m.id ++ slot_text m.slot
    ++ spaced_text m.symbol ++ spaced_text m.prb ++ spaced_text m.section ++ codes " " ++ hex3_text m.mask ++ spaced_text m.units

-- I and Q of a sum
abbrev pub sum_text : Sum → List ℕ
sum_text s = signed_decimal s.i ++ codes "," ++ signed_decimal s.q

-- the word of element k: its sum where it is in the mask, and a point else
abbrev pub element_text : Mixed → ℕ → List ℕ
element_text m k = if in_mask m.mask k then codes " " ++ sum_text (slice_index_or m.sums k no_sum) else codes " ."

-- the words of n elements, from one on
unfoldable pub elements_text : Mixed → ℕ → ℕ → List ℕ
elements_text m first zero = []
elements_text m first (suc n) = elements_text m first n ++ element_text m (first + n)

-- the words of the sums: one alone where no unit has samples
abbrev pub sums_text : Mixed → List ℕ
sums_text m = if m.units == 0 then codes " missing" else elements_text m 0 12

-- the line of a combined cell
unfoldable pub mixed_text : Mixed → List ℕ
mixed_text m = mix_head_text m ++ (sums_text m ++ codes "\n")

-- its two halves
unfoldable pub mix_front_text : Mixed → List ℕ
mix_front_text m = mix_head_text m ++ (if m.units == 0 then codes " missing" else elements_text m 0 6)

unfoldable pub mix_back_text : Mixed → List ℕ
mix_back_text m = (if m.units == 0 then [] else elements_text m 6 6) ++ codes "\n"

-- ---- all combined cells

-- the lines of all, between the line above them and the last line
unfoldable pub mixes_text : List Mixed → List ℕ
mixes_text ms = combined_text ++ (flat_map mixed_text ms ++ end_text)
