-- An id as a number of four digits, whose widths are counted in bits: the eAxC_ID of O-RAN's CUS
-- specification, with the DU port, the band and sector, the component carrier and the RU port.
use Rattle.std.specs.Prelude.{◌≡◌, ℕ, ◌+◌, ◌*◌, ◌/◌, ◌%◌, ◌^◌, ◌<◌}
use Rattle.eaxc_map.specs.declared.widths.Widths.{Widths}
use Rattle.eaxc_map.specs.declared.widths.Parts.{Parts}

-- the number that four digits spell, the DU port the most significant
abbrev pub number_of : Widths → Parts → ℕ
number_of w p = ((p.du * 2 ^ w.band + p.band) * 2 ^ w.carrier + p.carrier) * 2 ^ w.port + p.port

-- each part is a digit of its width
pub record FitWidths (w : Widths) (p : Parts) : Type 0 where
  pub du : p.du < 2 ^ w.du
  pub band : p.band < 2 ^ w.band
  pub carrier : p.carrier < 2 ^ w.carrier
  pub port : p.port < 2 ^ w.port

-- these are the digits that spell the id
pub record AreParts (w : Widths) (id : ℕ) (p : Parts) : Type 0 where
  pub fit : FitWidths w p
  pub spell : number_of w p ≡ id

-- the digits of an id, from the last to the first by division
abbrev pub parts_of : Widths → ℕ → Parts
parts_of w id = record {
  du = id / 2 ^ w.port / 2 ^ w.carrier / 2 ^ w.band;
  band = id / 2 ^ w.port / 2 ^ w.carrier % 2 ^ w.band;
  carrier = id / 2 ^ w.port % 2 ^ w.carrier;
  port = id % 2 ^ w.port;
}
