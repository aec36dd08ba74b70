-- What a unit reports of a cell at its moment: at the radio unit what radiates, at the distributed unit what was taken in (this
-- project's profile).
use Rattle.std.specs.Prelude.{ℕ, zero, suc, ℤ, pos, ◌+◌, ◌*◌, ◌-ℤ◌, ◌+ℤ◌, ◌==◌, Bool, false, not, if◌then◌else◌, List, [], ◌∷◌, Option, Some, None}
use Rattle.fh_base.specs.declared.values.Slot.{Slot}
use Rattle.fh_base.specs.Air.{air_of}
use Rattle.air_source.specs.declared.events.AirCell.{AirCell}
use Rattle.air_source.specs.declared.events.Side.{Side}
use Rattle.air_source.specs.declared.events.Side.TheVariants.{Ru, Du}
use Rattle.bfp_codec.specs.declared.samples.Wide.{Wide}
use Rattle.window_config.specs.declared.delays.Delays.{Delays}
use Rattle.window_config.specs.declared.endpoints.EndpointConfig.{EndpointConfig}
use Rattle.window_config.specs.Windows.{ticks_of_ns}
use Rattle.unit_model.specs.Blocks.{block_at}
use Rattle.unit_model.specs.Claims.{cell_at, claim_at}
use Rattle.fh_base.specs.Lists.{each}
use Rattle.unit_model.specs.Sweeps.{sweep}
use Rattle.unit_model.specs.declared.allocations.Allocation.{Allocation}
use Rattle.unit_model.specs.declared.cells.Block.{Block}
use Rattle.unit_model.specs.declared.cells.Cell.{Cell}
use Rattle.unit_model.specs.declared.cells.Claim.{Claim}
use Rattle.unit_model.specs.declared.decoded.UserSection.{UserSection}
use Rattle.fh_base.specs.declared.frames.TheConstants.{FRAME}
use Rattle.air_source.specs.Units.{is_down}

-- an element is in use: it is claimed, and not as idle
abbrev pub is_used : Option Claim → Bool
is_used None = false
is_used (Some c) = not c.idle

-- the used ones of the first n elements, as a number of n bits whose most significant is element 0
unfoldable pub used_below : (ℕ → Option Claim) → ℕ → ℕ
used_below claims zero = 0
used_below claims (suc n) = 2 * used_below claims n + (if is_used (claims n) then 1 else 0)

abbrev pub used_mask : (ℕ → Option Claim) → ℕ
used_mask claims = used_below claims 12

-- the section id of a cell, which all claims in it have: that of the first one
abbrev pub id_or : Option Claim → ℕ → ℕ
id_or None id = id
id_or (Some c) id = c.id

unfoldable pub id_from : (ℕ → Option Claim) → ℕ → ℕ → ℕ
id_from claims from zero = 0
id_from claims from (suc n) = id_or (claims from) (id_from claims (from + 1) n)

abbrev pub cell_id : (ℕ → Option Claim) → ℕ
cell_id claims = id_from claims 0 12

-- the samples that were received under the section id; None is missing
abbrev pub samples_under : ℕ → Option Block → Option (List Wide)
samples_under id None = None
samples_under id (Some b) = if b.id == id then Some b.samples else None

abbrev pub air_cell : Side → EndpointConfig → Cell → ℤ → (ℕ → Option Claim) → Option Block → AirCell
air_cell side e cell start claims block = record {
  side = side;
  at = record { 0 = start };
  id = e.id;
  slot = cell.slot;
  symbol = cell.symbol;
  prb = cell.prb;
  section = cell_id claims;
  mask = used_mask claims;
  block = samples_under (cell_id claims) block;
}

-- what is reported of a cell that starts then: nothing where no element is in use
abbrev pub report_of : Side → EndpointConfig → Cell → ℤ → (ℕ → Option Claim) → Option Block → List AirCell
report_of side e cell start claims block =
    if used_mask claims == 0 then [] else air_cell side e cell start claims block ∷ []

-- what claims and blocks there are
pub record Known : Type 0 where
  pub claims : Cell → ℕ → Option Claim
  pub blocks : Cell → Option Block

abbrev pub known_of : List Allocation → List UserSection → Known
known_of accepted timely = record { claims = claim_at accepted; blocks = block_at timely }

abbrev pub cell_report : Side → Known → ℕ → EndpointConfig → Slot → ℕ → ℕ → List AirCell
cell_report side k ep e slot symbol prb =
    report_of side e (cell_at ep (is_down side) slot symbol prb) (air_of e.numerology slot symbol)
    (k.claims (cell_at ep (is_down side) slot symbol prb)) (k.blocks (cell_at ep (is_down side) slot symbol prb))

-- the cells of a symbol in the order of PRBs
unfoldable pub symbol_report : Side → Known → ℕ → EndpointConfig → Slot → ℕ → List AirCell
symbol_report side k ep e slot symbol = each 0 e.prbs (cell_report side k ep e slot symbol)

-- a unit's clock begins one frame before 0
abbrev pub first_clock : ℤ
first_clock = pos 0 -ℤ FRAME

-- how long after its symbol's start a cell is reported
abbrev pub wait_of : Side → Delays → ℤ
wait_of Ru d = pos 0
wait_of Du d = ticks_of_ns d.ta4.max

-- all cells whose moment lies from the beginning to a time, that time included, in the order of moments, and at one moment by
-- endpoint, slot, symbol and PRB
unfoldable pub reported : Side → Delays → List EndpointConfig → Known → ℤ → List AirCell
reported side d es k to = sweep (symbol_report side k) es (first_clock -ℤ wait_of side d) ((to -ℤ wait_of side d) +ℤ pos 1)
