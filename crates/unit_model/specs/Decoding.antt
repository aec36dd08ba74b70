-- The sections of whole U-plane messages (O-RAN.WG4.CUS, U-plane messages; their fragments: eCPRI transport header).
use Rattle.std.specs.Prelude.{ℕ, ℤ, not, if◌then◌else◌, Bool, List, [], ◌∷◌, ◌++◌, map, Option, Some, None}
use Rattle.fh_base.specs.Numbering.{shape_of}
use Rattle.air_source.specs.declared.events.Side.{Side}
use Rattle.air_source.specs.declared.events.Side.TheVariants.{Ru, Du}
use Rattle.bfp_codec.specs.declared.samples.Wide.{Wide}
use Rattle.ecpri_fragments.specs.Generations.{Fragment}
use Rattle.ecpri_fragments.specs.Verdicts.{Message, whole_now}
use Rattle.uplane_sections.specs.declared.values.UHead.{UHead}
use Rattle.uplane_sections.specs.declared.values.URefusal.{URefusal}
use Rattle.uplane_sections.specs.declared.values.USection.{USection}
use Rattle.uplane_sections.specs.Messages.{Item, Head, Section, Block, told}
use Rattle.window_config.specs.declared.endpoints.EndpointConfig.{EndpointConfig}
use Rattle.unit_model.specs.Meetings.{Meeting, Ignored, Commands, Piece, fragments}
use Rattle.unit_model.specs.declared.decoded.UserSection.{UserSection}
use Rattle.ecpri_fragments.specs.Pieces.{joined}

-- a section with the samples of its PRBs, in their order
pub record SectionBlocks : Type 0 where
  pub section : USection
  pub blocks : List (List Wide)

-- what a message has told so far, the newest section first
pub record Gathering : Type 0 where
  pub head : Option UHead
  pub parts : List SectionBlocks

abbrev pub nothing_told : Gathering
nothing_told = record { head = None; parts = [] }

abbrev pub without_blocks : USection → SectionBlocks
without_blocks s = record { section = s; blocks = [] }

abbrev pub longer : List Wide → SectionBlocks → SectionBlocks
longer samples p = record { section = p.section; blocks = p.blocks ++ samples ∷ [] }

-- a PRB belongs to the last section before it
abbrev pub with_block : List Wide → List SectionBlocks → List SectionBlocks
with_block samples [] = []
with_block samples (p ∷ ps) = longer samples p ∷ ps

abbrev pub with_item : Gathering → Item → Gathering
with_item g (Head h) = record { head = Some h; parts = g.parts }
with_item g (Section s) = record { head = g.head; parts = without_blocks s ∷ g.parts }
with_item g (Block prb samples) = record { head = g.head; parts = with_block samples g.parts }

unfoldable pub gathered : Gathering → List Item → Gathering
gathered g [] = g
gathered g (i ∷ is) = gathered (with_item g i) is

-- ---- a whole message to an endpoint

-- it is refused; it has the other unit's direction; it has these sections, the newest first
pub data Decoded : Type 0 where
  Refused : Decoded
  Backwards : Decoded
  Sections : List UserSection → Decoded

-- downlink data go to the radio unit, uplink data to the distributed unit
abbrev pub has_way : Side → UHead → Bool
has_way Ru head = head.down
has_way Du head = not head.down

abbrev pub data_with : ℕ → EndpointConfig → ℤ → ℤ → UHead → SectionBlocks → UserSection
data_with ep e first last head p = record {
  ep = ep;
  endpoint = e;
  first = record { 0 = first };
  last = record { 0 = last };
  head = head;
  section = p.section;
  blocks = p.blocks;
}

abbrev pub decoded_with : Side → ℕ → EndpointConfig → ℤ → ℤ → List SectionBlocks → Option UHead → Decoded
decoded_with side ep e first last parts None = Refused
decoded_with side ep e first last parts (Some head) =
    if has_way side head then Sections (map (data_with ep e first last head) parts) else Backwards

abbrev pub decoded_from : Side → ℕ → EndpointConfig → ℤ → ℤ → Gathering → Option URefusal → Decoded
decoded_from side ep e first last g (Some r) = Refused
decoded_from side ep e first last g None = decoded_with side ep e first last g.parts g.head

-- what all the bytes of a message say, whose first and last fragments were received then
unfoldable pub decode : Side → ℕ → EndpointConfig → ℤ → ℤ → List ℕ → Decoded
decode side ep e first last bytes =
    decoded_from side ep e first last (gathered nothing_told (told e.format e.prbs (shape_of e.numerology) bytes).items)
    (told e.format e.prbs (shape_of e.numerology) bytes).refusal

abbrev pub decode_message : Side → ℕ → EndpointConfig → Message → Decoded
decode_message side ep e m = decode side ep e m.first m.last (joined m.pieces)

abbrev pub sections_of : Decoded → List UserSection
sections_of Refused = []
sections_of Backwards = []
sections_of (Sections ds) = ds

abbrev pub decoded_now : Side → EndpointConfig → Fragment → Option Message → Option Decoded
decoded_now side e f None = None
decoded_now side e f (Some m) = Some (decode_message side f.ep e m)

-- what the message that a fragment makes whole says, where it makes one whole
abbrev pub data_now : Side → ℤ → EndpointConfig → Fragment → List Fragment → Option Decoded
data_now side hold e f earlier = decoded_now side e f (whole_now hold f earlier)

abbrev pub data_told : Option Decoded → List UserSection
data_told None = []
data_told (Some d) = sections_of d

-- the decoded sections of data, the newest first; a generation holds for so many ticks
unfoldable pub data_sections : Side → ℤ → List Meeting → List UserSection
data_sections side hold [] = []
data_sections side hold (Ignored c ∷ earlier) = data_sections side hold earlier
data_sections side hold (Commands cs ∷ earlier) = data_sections side hold earlier
data_sections side hold (Piece e f ∷ earlier) = data_told (data_now side hold e f (fragments earlier)) ++ data_sections side hold earlier
