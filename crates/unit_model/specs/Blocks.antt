-- The verdicts on the sections of data, and the blocks that they give the cells (O-RAN.WG4.CUS for the fields and the windows; the
-- verdicts are this project's profile).
use Rattle.std.specs.Prelude.{ℕ, ℤ, ◌-◌, ◌==◌, Bool, ◌&&◌, is_some, if◌then◌else◌, List, [], ◌∷◌, Option, Some, None}
use Rattle.std.specs.List.{slice_index_or}
use Rattle.fh_base.specs.declared.values.Slot.{Slot}
use Rattle.fh_base.specs.Air.{air_of}
use Rattle.fh_base.specs.Frame.{absolute_frame}
use Rattle.air_source.specs.declared.events.Side.{Side}
use Rattle.air_source.specs.declared.events.Side.TheVariants.{Ru, Du}
use Rattle.fh_base.specs.Carrier.{first_of, count_of}
use Rattle.window_config.specs.declared.delays.Delays.{Delays}
use Rattle.window_config.specs.declared.verdicts.Class.{Class}
use Rattle.window_config.specs.declared.verdicts.Class.TheVariants as class
use Rattle.window_config.specs.Classes.{class_of, class_up_of}
use Rattle.window_config.specs.Windows.{data_window_of}
use Rattle.unit_model.specs.Claims.{cell_at, same_slot, same_way, is_from}
use Rattle.fh_base.specs.Lists.{every, or_else}
use Rattle.unit_model.specs.declared.cells.Block.{Block}
use Rattle.unit_model.specs.declared.cells.Cell.{Cell}
use Rattle.unit_model.specs.declared.decoded.UserSection.{UserSection}
use Rattle.unit_model.specs.declared.verdicts.DataVerdict.{DataVerdict}
use Rattle.unit_model.specs.declared.verdicts.DataVerdict.TheVariants.{Late, Early, Repeat, Taken}

-- the slot that data names, by the frame nearest to its last arrival
abbrev pub data_slot : UserSection → Slot
data_slot d = record { frame = absolute_frame d.head.frame_id d.last.0; subframe = d.head.subframe; slot = d.head.slot }

abbrev pub data_start : UserSection → ℤ
data_start d = air_of d.endpoint.numerology (data_slot d) d.section.symbol

-- whether it is on time goes by its own symbol: before it at the radio unit, after it at the distributed unit
abbrev pub data_class : Side → Delays → UserSection → Class
data_class Ru delays d = class_of d.first.0 d.last.0 (data_start d) (data_window_of delays)
data_class Du delays d = class_up_of d.first.0 d.last.0 (data_start d) delays.ta4

abbrev pub first_data_prb : UserSection → ℕ
first_data_prb d = first_of d.section.start_prb d.section.num_prb

abbrev pub data_prb_count : UserSection → ℕ
data_prb_count d = count_of d.endpoint.prbs d.section.num_prb

abbrev pub data_covers : UserSection → Cell → Bool
data_covers d cell =
    (d.ep == cell.ep) && (same_way d.head.down cell.down && (same_slot (data_slot d) cell.slot
    && ((d.section.symbol == cell.symbol) && is_from (first_data_prb d) (data_prb_count d) cell.prb)))

-- what a section of data gives a cell
abbrev pub block_of : UserSection → Cell → Block
block_of d cell = record { id = d.section.id; samples = slice_index_or d.blocks (cell.prb - first_data_prb d) [] }

abbrev pub block_in : UserSection → Cell → Option Block
block_in d cell = if data_covers d cell then Some (block_of d cell) else None

-- The block of a cell, where these were received on time, the newest first: that of the first of them that covers it. A later one
-- changes nothing.
unfoldable pub block_at : List UserSection → Cell → Option Block
block_at [] cell = None
block_at (d ∷ earlier) cell = or_else (block_at earlier cell) (block_in d cell)

unfoldable pub every_data_cell : UserSection → (Cell → Bool) → Bool
every_data_cell d p =
    every (first_data_prb d) (data_prb_count d) (λ n. p (cell_at d.ep d.head.down (data_slot d) d.section.symbol n))

-- each of its cells has a block
unfoldable pub has_all : List UserSection → UserSection → Bool
has_all timely d = every_data_cell d (λ cell. is_some (block_at timely cell))

abbrev pub data_verdict_in : Class → List UserSection → UserSection → DataVerdict
data_verdict_in class.Late timely d = Late
data_verdict_in class.Early timely d = Early
data_verdict_in class.OnTime timely d = if has_all timely d then Repeat else Taken

unfoldable pub data_verdict : Side → Delays → List UserSection → UserSection → DataVerdict
data_verdict side delays timely d = data_verdict_in (data_class side delays d) timely d

-- ---- all sections, the newest first

abbrev pub with_timely : Class → UserSection → List UserSection → List UserSection
with_timely class.OnTime d ds = d ∷ ds
with_timely class.Late d ds = ds
with_timely class.Early d ds = ds

-- those that were received on time
unfoldable pub timely : Side → Delays → List UserSection → List UserSection
timely side delays [] = []
timely side delays (d ∷ earlier) = with_timely (data_class side delays d) d (timely side delays earlier)

unfoldable pub data_verdicts : Side → Delays → List UserSection → List DataVerdict
data_verdicts side delays [] = []
data_verdicts side delays (d ∷ earlier) = data_verdict side delays (timely side delays earlier) d ∷ data_verdicts side delays earlier
