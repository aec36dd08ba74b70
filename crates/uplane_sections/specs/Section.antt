-- The header of one section of a U-plane message, as fields of the bytes that it begins (O-RAN.WG4.CUS, clause 8.3.2).
use Rattle.std.specs.Prelude.{ℕ, ◌+◌, ◌*◌, Bool, List, drop, if◌then◌else◌, ◌==◌, ◌&&◌, ◌||◌}
use Rattle.bfp_codec.specs.Field.{field}
use Rattle.fh_base.specs.Carrier.{count_of}
use Rattle.bfp_codec.specs.declared.methods.Method.{Method}
use Rattle.bfp_codec.specs.declared.methods.Method.TheVariants.{Plain, Bfp}
use Rattle.bfp_codec.specs.declared.methods.Format.{Format}
use Rattle.bfp_codec.specs.Layout.{length_of}
use Rattle.uplane_sections.specs.declared.values.USection.{USection}

abbrev pub sectionId : List ℕ → ℕ
sectionId bytes = field bytes 0 12

-- 1 would mean every other resource block
abbrev pub rb : List ℕ → ℕ
rb bytes = field bytes 12 1

-- 1 adds one to the symbol number, for this section and those after it
abbrev pub symInc : List ℕ → ℕ
symInc bytes = field bytes 13 1

abbrev pub startPrbu : List ℕ → ℕ
startPrbu bytes = field bytes 14 10

abbrev pub numPrbu : List ℕ → ℕ
numPrbu bytes = field bytes 24 8

-- The compression header, udCompHdr and 8 reserved bits, is after these four bytes where the format is dynamic;
-- the words below are of its own bytes.
abbrev pub udIqWidth : List ℕ → ℕ
udIqWidth header = field header 0 4

abbrev pub udCompMeth : List ℕ → ℕ
udCompMeth header = field header 4 4

abbrev pub comp_reserved : List ℕ → ℕ
comp_reserved header = field header 8 8

-- 0 means 16 bits
abbrev pub width_in : List ℕ → ℕ
width_in header = if udIqWidth header == 0 then 16 else udIqWidth header

-- 1 is block floating point, 0 no compression, which has 16 bits
abbrev pub is_method : List ℕ → Bool
is_method header = udCompMeth header == 1 || (udCompMeth header == 0 && width_in header == 16)

abbrev pub method_in : List ℕ → Method
method_in header = if udCompMeth header == 1 then Bfp (width_in header) else Plain

-- how many bytes are before the PRBs
abbrev pub header_size : Format → ℕ
header_size format = if format.dynamic then 6 else 4

abbrev pub method_of : Format → List ℕ → Method
method_of format bytes = if format.dynamic then method_in (drop 4 bytes) else format.method

-- the section with these four bytes, this maintained symbol number and this method
abbrev pub section_with : ℕ → Method → List ℕ → USection
section_with symbol method bytes = record {
  id = sectionId bytes;
  sym_inc = symInc bytes == 1;
  symbol = symbol;
  start_prb = startPrbu bytes;
  num_prb = numPrbu bytes;
  method = method;
}

-- the same where the maintained symbol number was `before`
abbrev pub section_of : ℕ → Method → List ℕ → USection
section_of before method bytes = section_with (before + symInc bytes) method bytes

-- how many bytes the section has that the bytes begin with, on a carrier of so many PRBs
abbrev pub size_of : Format → ℕ → List ℕ → ℕ
size_of format prbs bytes = header_size format + count_of prbs (numPrbu bytes) * length_of (method_of format bytes)
