-- Written headers: each reserved bit is 0. What a message made of them says.
use Rattle.std.specs.Prelude.{◌≡◌, ℕ, ◌+◌, ◌*◌, ◌%◌, ◌<◌, ◌≤◌, ◌^◌, Bool, true, false, if◌then◌else◌, List, ◌∷◌, ◌++◌, length, drop}
use Rattle.bfp_codec.specs.Field.{field, flag}
use Rattle.fh_base.specs.declared.values.Shape.{Shape}
use Rattle.bfp_codec.specs.declared.methods.Method.{Method}
use Rattle.bfp_codec.specs.declared.methods.Method.TheVariants.{Plain, Bfp}
use Rattle.bfp_codec.specs.declared.methods.Format.{Format}
use Rattle.bfp_codec.specs.Layout.{HasWidth, length_of}
use Rattle.uplane_sections.specs.declared.values.UHead.{UHead}
use Rattle.uplane_sections.specs.declared.values.USection.{USection}
use Rattle.uplane_sections.specs.Header.{payloadVersion, head_of}
use Rattle.fh_base.specs.Carrier.{is_outside, first_of, count_of}
use Rattle.uplane_sections.specs.Section.{rb, comp_reserved, method_in, is_method, method_of, section_of, header_size}
use Rattle.uplane_sections.specs.Messages.{Item, Section, after, blocks, sections, told}

-- each field of the header in its width
pub record HeadFits (head : UHead) : Type 0 where
  pub filter : head.filter < 2 ^ 4
  pub subframe : head.subframe < 2 ^ 4
  pub slot : head.slot < 2 ^ 6
  pub symbol : head.symbol < 2 ^ 6

-- each field of the section in its width; in a static format the method is the format's
pub record SectionFits (format : Format) (s : USection) : Type 0 where
  pub id : s.id < 2 ^ 12
  pub start_prb : s.start_prb < 2 ^ 10
  pub width : HasWidth s.method
  pub static_method : format.dynamic ≡ false → s.method ≡ format.method

-- a header that the tests admit
pub record IsHeadAdmitted (shape : Shape) (head : UHead) : Type 0 where
  pub subframe : head.subframe ≤ 9
  pub slot : head.slot < shape.slots
  pub symbol : head.symbol < shape.symbols

-- a section that the tests admit where the maintained symbol number was `before`: its `symbol` is the maintained number
pub record IsAdmitted (prbs : ℕ) (shape : Shape) (before : ℕ) (s : USection) : Type 0 where
  pub maintained : s.symbol ≡ before + flag s.sym_inc
  pub symbol : s.symbol < shape.symbols
  pub within : is_outside prbs s.start_prb s.num_prb ≡ false

-- the four bytes are this header
pub record WritesHead (head : UHead) (bytes : List ℕ) : Type 0 where
  pub len : length bytes ≡ 4
  pub version : payloadVersion bytes ≡ 1
  pub reads : head_of bytes ≡ head

-- udCompHdr: no compression is written as 0, and the width 16 as 0
abbrev pub udCompHdr : Method → ℕ
udCompHdr Plain = 0
udCompHdr (Bfp w) = w % 16 * 16 + 1

-- what a message carries of a section, where the maintained symbol number was `before`
abbrev pub carried : ℕ → USection → USection
carried before s = record {
  id = s.id;
  sym_inc = s.sym_inc;
  symbol = before + flag s.sym_inc;
  start_prb = s.start_prb;
  num_prb = s.num_prb;
  method = s.method;
}

-- the compression header in these bytes
pub record WritesCompression (method : Method) (header : List ℕ) : Type 0 where
  pub known : is_method header ≡ true
  pub reads : method_in header ≡ method
  pub byte : field header 0 8 ≡ udCompHdr method
  pub reserved : comp_reserved header ≡ 0

-- the bytes begin with this section's headers
pub record WritesSection (format : Format) (s : USection) (bytes : List ℕ) : Type 0 where
  pub room : header_size format ≤ length bytes
  pub reads : (before : ℕ) → section_of before (method_of format bytes) bytes ≡ carried before s
  pub each_rb : rb bytes ≡ 0
  pub compression : format.dynamic ≡ true → WritesCompression s.method (drop 4 bytes)

-- The bytes are a message that tells these items, and what follows it is read as further sections, where the
-- maintained symbol number is `symbol`.
abbrev pub SaysSoFar : Format → ℕ → Shape → List ℕ → List Item → ℕ → Type 0
SaysSoFar format prbs shape bytes items symbol =
    (rest : List ℕ) → told format prbs shape (bytes ++ rest) ≡ after items (sections format prbs shape (length bytes) symbol 0 rest)

-- The headers of a section, with its packed PRBs after them, make of such a message one with this section more.
abbrev pub AddsSection : Format → ℕ → Shape → USection → List ℕ → Type 0
AddsSection format prbs shape s headers =
    (front packed : List ℕ) (items : List Item) (before : ℕ) → SaysSoFar format prbs shape front items before → IsAdmitted prbs shape before s
    → length packed ≡ count_of prbs s.num_prb * length_of s.method
    → SaysSoFar format prbs shape (front ++ (headers ++ packed)) (items ++ Section s ∷ blocks s.method (first_of s.start_prb s.num_prb) (count_of prbs s.num_prb) packed) s.symbol
