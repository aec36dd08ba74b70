-- One section of a C-plane message, as fields of the bytes that it begins (O-RAN.WG4.CUS, clause 7.5.3).
use Rattle.std.specs.Prelude.{ℕ, ℤ, pos, ◌+◌, List, if◌then◌else◌, ◌==◌}
use Rattle.bfp_codec.specs.Field.{field, signed}
use Rattle.cplane_sections.specs.declared.values.CSection.{CSection}

abbrev pub sectionId : List ℕ → ℕ
sectionId bytes = field bytes 0 12

-- 1 would mean every other resource block
abbrev pub rb : List ℕ → ℕ
rb bytes = field bytes 12 1

-- 1 adds one to the symbol number, for this section and those after it
abbrev pub symInc : List ℕ → ℕ
symInc bytes = field bytes 13 1

abbrev pub startPrbc : List ℕ → ℕ
startPrbc bytes = field bytes 14 10

abbrev pub numPrbc : List ℕ → ℕ
numPrbc bytes = field bytes 24 8

abbrev pub reMask : List ℕ → ℕ
reMask bytes = field bytes 32 12

abbrev pub numSymbol : List ℕ → ℕ
numSymbol bytes = field bytes 44 4

-- 1 announces a section extension; this profile reads the bit in type 0 too
abbrev pub ef : List ℕ → ℕ
ef bytes = field bytes 48 1

-- in types 1 and 3; reserved in type 0
abbrev pub beamId : List ℕ → ℕ
beamId bytes = field bytes 49 15

-- in type 3, in half subcarriers
abbrev pub freqOffset : List ℕ → ℤ
freqOffset bytes = signed 24 (field bytes 64 24)

-- reserved in type 3
abbrev pub offset_reserved : List ℕ → ℕ
offset_reserved bytes = field bytes 88 8

-- how many bytes a section of a section type has
abbrev pub size_of_section : ℕ → ℕ
size_of_section kind = if kind == 3 then 12 else 8

abbrev pub beam_of : ℕ → List ℕ → ℕ
beam_of kind bytes = if kind == 0 then 0 else beamId bytes

abbrev pub offset_of : ℕ → List ℕ → ℤ
offset_of kind bytes = if kind == 3 then freqOffset bytes else pos 0

-- the section that the bytes begin with, where the maintained symbol number was `before`
abbrev pub section_of : ℕ → ℕ → List ℕ → CSection
section_of kind before bytes = record {
  id = sectionId bytes;
  sym_inc = symInc bytes == 1;
  symbol = before + symInc bytes;
  start_prb = startPrbc bytes;
  num_prb = numPrbc bytes;
  mask = reMask bytes;
  num_symbol = numSymbol bytes;
  beam = beam_of kind bytes;
  freq_offset = offset_of kind bytes;
}
