-- The line of a cell: the direction, the symbol's start in ticks, ID, frame, subframe, slot, symbol, PRB, section, MASK and the samples.
use Rattle.std.specs.Prelude.{ℕ, zero, suc, ◌-◌, ◌/◌, ◌%◌, ◌^◌, ◌==◌, List, [], ◌++◌, codes, Option, Some, None, if◌then◌else◌}
use Rattle.std.specs.List.{slice_index_or}
use Rattle.std.specs.Fmt.{signed_decimal}
use Rattle.air_source.specs.declared.events.AirCell.{AirCell}
use Rattle.bfp_codec.specs.Samples.{no_wide}
use Rattle.bfp_codec.specs.declared.samples.Wide.{Wide}
use Rattle.fh_base.specs.declared.values.Slot.{Slot}
use Rattle.fh_base.specs.Words.{spaced_text, spaced_signed_text, hex4_text, hex3_text}
use Rattle.air_source.specs.Units.{way_text}

-- frame, subframe and slot
abbrev pub slot_text : Slot → List ℕ
slot_text s = spaced_signed_text s.frame ++ spaced_text s.subframe ++ spaced_text s.slot

-- the words before the samples; MASK is the low 12 bits of the mask, and what a mask has beyond them is left out
abbrev pub head_text : AirCell → List ℕ
head_text c = way_text c.side ++ spaced_signed_text c.at.0 ++ codes " " ++ hex4_text c.id ++ slot_text c.slot
    ++ spaced_text c.symbol ++ spaced_text c.prb ++ spaced_text c.section ++ codes " " ++ hex3_text c.mask

-- the mask has element k: element 0 is the most significant of the low 12 bits
abbrev pub in_mask : ℕ → ℕ → ℕ
in_mask mask k = mask / 2 ^ (11 - k) % 2

-- I and Q of a sample
abbrev pub sample_text : Wide → List ℕ
sample_text w = signed_decimal w.i ++ codes "," ++ signed_decimal w.q

-- the word of element k: its sample where it is in the mask, and a point else
abbrev pub item_text : ℕ → List Wide → ℕ → List ℕ
item_text mask block k =
    if in_mask mask k == 1
    then codes " " ++ sample_text (slice_index_or block k no_wide)
    else codes " ."

-- the words of the first n elements
unfoldable pub items_text : ℕ → List Wide → ℕ → List ℕ
items_text mask block zero = []
items_text mask block (suc n) = items_text mask block n ++ item_text mask block n

-- the words of the samples
abbrev pub samples_text : ℕ → Option (List Wide) → List ℕ
samples_text mask None = codes " missing"
samples_text mask (Some block) = items_text mask block 12

-- the line of a cell
unfoldable pub cell_text : AirCell → List ℕ
cell_text c = head_text c ++ samples_text c.mask c.block ++ codes "\n"
