-- The application header of a C-plane message, as fields of its bytes (O-RAN.WG4.CUS, clause 7.5.2).
use Rattle.std.specs.Prelude.{ℕ, List, if◌then◌else◌, ◌==◌}
use Rattle.bfp_codec.specs.Field.{field}
use Rattle.cplane_sections.specs.declared.values.CBody.{CBody}
use Rattle.cplane_sections.specs.declared.values.CBody.TheVariants.{Idle, Normal, Offset}
use Rattle.cplane_sections.specs.declared.values.CHead.{CHead}

-- 0 is uplink, 1 downlink
abbrev pub dataDirection : List ℕ → ℕ
dataDirection bytes = field bytes 0 1

abbrev pub payloadVersion : List ℕ → ℕ
payloadVersion bytes = field bytes 1 3

abbrev pub filterIndex : List ℕ → ℕ
filterIndex bytes = field bytes 4 4

abbrev pub frameId : List ℕ → ℕ
frameId bytes = field bytes 8 8

abbrev pub subframeId : List ℕ → ℕ
subframeId bytes = field bytes 16 4

abbrev pub slotId : List ℕ → ℕ
slotId bytes = field bytes 20 6

abbrev pub startSymbolId : List ℕ → ℕ
startSymbolId bytes = field bytes 26 6

abbrev pub numberOfSections : List ℕ → ℕ
numberOfSections bytes = field bytes 32 8

abbrev pub sectionType : List ℕ → ℕ
sectionType bytes = field bytes 40 8

-- in types 0 and 3
abbrev pub timeOffset : List ℕ → ℕ
timeOffset bytes = field bytes 48 16

-- in types 0 and 3
abbrev pub frameStructure : List ℕ → ℕ
frameStructure bytes = field bytes 64 8

-- in types 0 and 3
abbrev pub cpLength : List ℕ → ℕ
cpLength bytes = field bytes 72 16

-- in type 1 after the section type, in type 3 at the end
abbrev pub udCompHdr : ℕ → List ℕ → ℕ
udCompHdr kind bytes = if kind == 1 then field bytes 48 8 else field bytes 88 8

-- reserved in type 0
abbrev pub idle_reserved : List ℕ → ℕ
idle_reserved bytes = field bytes 88 8

-- reserved in type 1
abbrev pub normal_reserved : List ℕ → ℕ
normal_reserved bytes = field bytes 56 8

-- how many bytes the header of a section type has
abbrev pub size_of_head : ℕ → ℕ
size_of_head kind = if kind == 1 then 8 else 12

-- what the header holds for its section type alone
abbrev pub body_of : ℕ → List ℕ → CBody
body_of kind bytes =
    if kind == 1 then Normal (udCompHdr 1 bytes)
    else (if kind == 0 then Idle (timeOffset bytes) (frameStructure bytes) (cpLength bytes)
    else Offset (timeOffset bytes) (frameStructure bytes) (cpLength bytes) (udCompHdr 3 bytes))

-- the header that the bytes begin with
abbrev pub head_of : List ℕ → CHead
head_of bytes = record {
  down = dataDirection bytes == 1;
  filter = filterIndex bytes;
  frame_id = frameId bytes;
  subframe = subframeId bytes;
  slot = slotId bytes;
  start_symbol = startSymbolId bytes;
  count = numberOfSections bytes;
  body = body_of (sectionType bytes) bytes;
}

-- the section type of a header
abbrev pub kind_of : CBody → ℕ
kind_of (Idle t s c) = 0
kind_of (Normal u) = 1
kind_of (Offset t s c u) = 3
