-- The application header of a U-plane message, as fields of its bytes (O-RAN.WG4.CUS, clause 8.3.2).
use Rattle.std.specs.Prelude.{ℕ, List, ◌==◌}
use Rattle.bfp_codec.specs.Field.{field}
use Rattle.uplane_sections.specs.declared.values.UHead.{UHead}

-- 0 is uplink, 1 downlink
abbrev pub dataDirection : List ℕ → ℕ
dataDirection bytes = field bytes 0 1

abbrev pub payloadVersion : List ℕ → ℕ
payloadVersion bytes = field bytes 1 3

abbrev pub filterIndex : List ℕ → ℕ
filterIndex bytes = field bytes 4 4

abbrev pub frameId : List ℕ → ℕ
frameId bytes = field bytes 8 8

abbrev pub subframeId : List ℕ → ℕ
subframeId bytes = field bytes 16 4

abbrev pub slotId : List ℕ → ℕ
slotId bytes = field bytes 20 6

abbrev pub symbolId : List ℕ → ℕ
symbolId bytes = field bytes 26 6

-- the header that the bytes begin with
abbrev pub head_of : List ℕ → UHead
head_of bytes = record {
  down = dataDirection bytes == 1;
  filter = filterIndex bytes;
  frame_id = frameId bytes;
  subframe = subframeId bytes;
  slot = slotId bytes;
  symbol = symbolId bytes;
}
