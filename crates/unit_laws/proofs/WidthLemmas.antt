-- The numbers of judgements have the widths of their fields.
use Rattle.std.proofs.Common.{◌≡◌, ℕ, ℤ, zero, suc, ◌+◌, ◌-◌, ◌<◌, ◌^◌, Bool, true, false, List, [], ◌∷◌, ◌++◌, drop, length, map, take, Option, Some, None, refl}
use Rattle.std.specs.Prelude.{◌==◌, ◌&&◌, ◌||◌, not, nat_le, nat_lt, if◌then◌else◌, Result, Ok, Err}
use Rattle.std.specs.List.{AllByRecursion}
use Rattle.bfp_codec.proofs.Field.{field_fits}
use Rattle.fh_base.specs.Carrier.{count_of, first_of, is_outside}
use Rattle.fh_base.specs.Numbering.{shape_of}
use Rattle.fh_base.specs.declared.values.Shape.{Shape}
use Rattle.bfp_codec.specs.Layout.{length_of}
use Rattle.bfp_codec.specs.declared.methods.Format.{Format}
use Rattle.bfp_codec.specs.declared.methods.Method.{Method}
use Rattle.bfp_codec.specs.declared.samples.Wide.{Wide}
use Rattle.cplane_sections.specs.Header.{kind_of, size_of_head}
use Rattle.cplane_sections.specs.Message.{sections_in, sections_of as control_sections}
use Rattle.cplane_sections.specs.Section.{section_of as control_section, size_of_section, symInc as control_inc}
use Rattle.cplane_sections.specs.Tests.{checked}
use Rattle.cplane_sections.specs.declared.values.CHead.{CHead}
use Rattle.cplane_sections.specs.declared.values.CRefusal.{CRefusal}
use Rattle.cplane_sections.specs.declared.values.CSection.{CSection}
use Rattle.ecpri_fragments.specs.Pieces.{joined}
use Rattle.ecpri_fragments.specs.Sequence.{application, id_of, is_fragmented, sequence_of}
use Rattle.ecpri_fragments.specs.Verdicts.{Message as Whole, whole_now}
use Rattle.ecpri_frames.specs.Gathering.{whole_messages}
use Rattle.ecpri_frames.specs.Messages.{Message}
use Rattle.ecpri_frames.specs.declared.heads.TheConstants.{IQ_DATA, ONE_WAY_DELAY, REAL_TIME_CONTROL}
use Rattle.uplane_sections.specs.Header.{payloadVersion, slotId, subframeId, symbolId}
use Rattle.uplane_sections.specs.Messages.{Block, Head, Item, Section, Telling, blocks, fault, section_at, sections, told}
use Rattle.uplane_sections.specs.Section.{header_size, is_method, method_of, numPrbu, rb, size_of, startPrbu, symInc}
use Rattle.uplane_sections.specs.declared.values.UHead.{UHead}
use Rattle.uplane_sections.specs.declared.values.URefusal.{URefusal}
use Rattle.uplane_sections.specs.declared.values.UWhy.TheVariants.{Truncated}
use Rattle.air_source.specs.declared.events.Side.{Side}
use Rattle.air_source.specs.declared.events.Side.TheVariants.{Ru, Du}
use Rattle.window_config.specs.declared.config.Config.{Config}
use Rattle.window_config.specs.declared.delays.Delays.{Delays}
use Rattle.window_config.specs.declared.endpoints.EndpointConfig.{EndpointConfig}
use Rattle.unit_model.specs.Blocks.{data_verdict, timely}
use Rattle.unit_model.specs.Decoding.{Backwards, Decoded, Gathering, Refused, SectionBlocks, Sections, data_sections, data_with, decode, decode_message, decoded_from, decoded_with, gathered, has_way, nothing_told, sections_of, with_item}
use Rattle.unit_model.specs.Meetings.{Arrival, Commands, Ignored, Meeting, Piece, command_read, commands, commands_with, control_met, find_endpoint, fragment_of, fragments, meet, meetings, met_by, met_in}
use Rattle.unit_model.specs.Reports.{commands_of, hold_of, met}
use Rattle.unit_model.specs.declared.decoded.ControlSection.{ControlSection}
use Rattle.unit_model.specs.declared.decoded.UserSection.{UserSection}
use Rattle.unit_model.specs.Judgements.{Given, heading_of, judged_by, judged_commands, judged_data, judged_decoded, judged_in, judged_meeting, judged_message, judged_now, judged_whole, judgements}
use Rattle.unit_laws.specs.Widths.{HasControlWidths, HasFragmentWidths, HasWidths}
use Rattle.unit_laws.proofs.JudgedListLemmas.{all_both, all_chosen, all_onto}

-- ---- sections of commands

section_widths : (kind before : ℕ) (bytes : List ℕ) → HasControlWidths (control_section kind before bytes)
section_widths kind before bytes = record {
  id = field_fits bytes 0 12;
  start_prb = field_fits bytes 14 10;
  num_prb = field_fits bytes 24 8;
  num_symbol = field_fits bytes 44 4;
}

sections_widths : (n kind : ℕ) (bytes : List ℕ) (place before : ℕ) → AllByRecursion HasControlWidths (control_sections n kind bytes place before)
unfolding control_sections
sections_widths zero kind bytes place before = tt
sections_widths (suc n) kind bytes place before =
    (section_widths kind before (drop place bytes), sections_widths n kind bytes (place + size_of_section kind) (before + control_inc (drop place bytes)))

abbrev pub IsNarrow : ControlSection → Type 0
IsNarrow s = HasControlWidths s.section

all_commands : (ep : ℕ) (e : EndpointConfig) (at : ℤ) (head : CHead) (ss : List CSection) → AllByRecursion HasControlWidths ss → AllByRecursion IsNarrow (commands_with ep e at head ss)
all_commands ep e at head [] h = tt
all_commands ep e at head (s ∷ ss) h = (h.0, all_commands ep e at head ss h.1)

-- ---- what a message is met as

abbrev HasMeetingWidths : Side → Meeting → Type 0
HasMeetingWidths side (Ignored k) = Unit {0}
HasMeetingWidths side (Commands cs) = AllByRecursion IsNarrow cs × (side ≡ Ru)
HasMeetingWidths side (Piece e f) = HasFragmentWidths f

choice : (side : Side) (b : Bool) (x y : Meeting) → HasMeetingWidths side x → HasMeetingWidths side y → HasMeetingWidths side (if b then x else y)
choice side true x y h k = h
choice side false x y h k = k

read_widths : (ep : ℕ) (e : EndpointConfig) (at : ℤ) (bytes : List ℕ) (r : Result CHead CRefusal) → HasMeetingWidths Ru (command_read ep e at bytes r)
read_widths ep e at bytes (Err r) = tt
read_widths ep e at bytes (Ok head) =
    (all_commands ep e at head (sections_in head bytes) (sections_widths head.count (kind_of head.body) bytes (size_of_head (kind_of head.body)) head.start_symbol), refl)

control_widths : (side : Side) (ep : ℕ) (e : EndpointConfig) (at : ℤ) (payload : List ℕ) → HasMeetingWidths side (control_met side ep e at payload)
control_widths Ru ep e at payload =
    choice Ru (is_fragmented (sequence_of payload)) _ (command_read ep e at (application payload) (checked (shape_of e.numerology) (application payload))) tt
    (read_widths ep e at (application payload) (checked (shape_of e.numerology) (application payload)))
control_widths Du ep e at payload = tt

piece_widths : (ep : ℕ) (at : ℤ) (payload : List ℕ) → HasFragmentWidths (fragment_of ep at payload)
piece_widths ep at payload = record { seq = field_fits (take 2 (drop 2 payload)) 0 8; sub = field_fits (take 2 (drop 2 payload)) 9 7 }

found_widths : (side : Side) (kind : ℕ) (at : ℤ) (payload : List ℕ) (o : Option (ℕ × EndpointConfig)) → HasMeetingWidths side (met_by side kind at payload o)
found_widths side kind at payload None = tt
found_widths side kind at payload (Some (ep, e)) =
    choice side (kind == REAL_TIME_CONTROL) (control_met side ep e at payload) (Piece e (fragment_of ep at payload)) (control_widths side ep e at payload) (piece_widths ep at payload)

meet_widths : (side : Side) (es : List EndpointConfig) (at : ℤ) (m : Message) → HasMeetingWidths side (meet side es at m)
unfolding meet
meet_widths side es at m =
    choice side (m.head.kind == ONE_WAY_DELAY) _ _ tt
    (choice side (not (m.head.kind == IQ_DATA || m.head.kind == REAL_TIME_CONTROL)) _ _ tt
    (choice side (nat_lt (length m.payload) 4) _ _ tt
    (found_widths side m.head.kind at m.payload (find_endpoint es (id_of m.payload)))))

-- ---- sections of data

abbrev IsNarrowItem : Item → Type 0
IsNarrowItem (Head h) = Unit {0}
IsNarrowItem (Section s) = s.id < 2 ^ 12
IsNarrowItem (Block prb samples) = Unit {0}

abbrev AreNarrowItems : Telling → Type 0
AreNarrowItems t = AllByRecursion IsNarrowItem t.items

chosen : (b : Bool) (x y : Telling) → AreNarrowItems x → AreNarrowItems y → AreNarrowItems (if b then x else y)
chosen true x y h k = h
chosen false x y h k = k

blocks_narrow : (method : Method) (prb n : ℕ) (bytes : List ℕ) → AllByRecursion IsNarrowItem (blocks method prb n bytes)
blocks_narrow method prb zero bytes = tt
blocks_narrow method prb (suc n) bytes =
    all_chosen IsNarrowItem (nat_lt (length bytes) (length_of method)) _ _ tt (tt, blocks_narrow method (prb + 1) n (drop (length_of method) bytes))

module _ (format : Format) (prbs : ℕ) (shape : Shape) where
  section_narrow : (at before : ℕ) (bytes : List ℕ) (next : Telling) → AreNarrowItems next → AreNarrowItems (section_at format prbs shape at before bytes next)
  section_narrow at before bytes next h =
      let method = method_of format bytes in
      let told_here = blocks method (first_of (startPrbu bytes) (numPrbu bytes)) (count_of prbs (numPrbu bytes)) (drop (header_size format) bytes) in
      let rest : Telling = if nat_lt (length bytes) (size_of format prbs bytes) then fault (at + length bytes) Truncated else next in
      chosen (nat_lt (length bytes) 4) _ _ tt
      (chosen (rb bytes == 1) _ _ tt
      (chosen (nat_le shape.symbols (before + symInc bytes)) _ _ tt
      (chosen (is_outside prbs (startPrbu bytes) (numPrbu bytes)) _ _ tt
      (chosen (format.dynamic && nat_lt (length bytes) 6) _ _ tt
      (chosen (format.dynamic && not (is_method (drop 4 bytes))) _ _ tt (
        field_fits bytes 0 12,
        all_both IsNarrowItem told_here rest.items
            (blocks_narrow method (first_of (startPrbu bytes) (numPrbu bytes)) (count_of prbs (numPrbu bytes)) (drop (header_size format) bytes))
            (chosen (nat_lt (length bytes) (size_of format prbs bytes)) _ _ tt h),
      ))))))

  sections_narrow : (at before skip : ℕ) (bytes : List ℕ) → AreNarrowItems (sections format prbs shape at before skip bytes)
  sections_narrow at before skip [] = tt
  sections_narrow at before (suc skip) (b ∷ bytes) = sections_narrow (at + 1) before skip bytes
  sections_narrow at before zero (b ∷ bytes) =
      section_narrow at before (b ∷ bytes) _ (sections_narrow (at + 1) (before + symInc (b ∷ bytes)) (size_of format prbs (b ∷ bytes) - 1) bytes)

  told_narrow : (bytes : List ℕ) → AreNarrowItems (told format prbs shape bytes)
  told_narrow bytes =
      chosen (nat_lt (length bytes) 4) _ _ tt
      (chosen (not (payloadVersion bytes == 1)) _ _ tt
      (chosen (nat_lt 9 (subframeId bytes) || nat_le shape.slots (slotId bytes)) _ _ tt
      (chosen (nat_le shape.symbols (symbolId bytes)) _ _ tt (tt, sections_narrow 4 (symbolId bytes) 0 (drop 4 bytes)))))

abbrev IsNarrowPart : SectionBlocks → Type 0
IsNarrowPart p = p.section.id < 2 ^ 12

block_narrow : (samples : List Wide) (head : Option UHead) (ps : List SectionBlocks) (prb : ℕ) → AllByRecursion IsNarrowPart ps
    → AllByRecursion IsNarrowPart (with_item (record { head = head; parts = ps }) (Block prb samples)).parts
block_narrow samples head [] prb h = tt
block_narrow samples head (p ∷ ps) prb h = h

gathered_narrow : (g : Gathering) (items : List Item) → AllByRecursion IsNarrowPart g.parts → AllByRecursion IsNarrowItem items → AllByRecursion IsNarrowPart (gathered g items).parts
unfolding gathered
gathered_narrow g [] h k = h
gathered_narrow g (Head head ∷ items) h k = gathered_narrow (with_item g (Head head)) items h k.1
gathered_narrow g (Section s ∷ items) h k = gathered_narrow (with_item g (Section s)) items (k.0, h) k.1
gathered_narrow g (Block prb samples ∷ items) h k = gathered_narrow (with_item g (Block prb samples)) items (block_narrow samples g.head g.parts prb h) k.1

abbrev IsNarrowData : UserSection → Type 0
IsNarrowData s = s.section.id < 2 ^ 12

parts_narrow : (ep : ℕ) (e : EndpointConfig) (first last : ℤ) (head : UHead) (ps : List SectionBlocks) → AllByRecursion IsNarrowPart ps
    → AllByRecursion IsNarrowData (map (data_with ep e first last head) ps)
parts_narrow ep e first last head [] h = tt
parts_narrow ep e first last head (p ∷ ps) h = (h.0, parts_narrow ep e first last head ps h.1)

way_narrow : (b : Bool) (ss : List UserSection) → AllByRecursion IsNarrowData ss → AllByRecursion IsNarrowData (sections_of (if b then Sections ss else Backwards))
way_narrow true ss h = h
way_narrow false ss h = tt

with_narrow : (side : Side) (ep : ℕ) (e : EndpointConfig) (first last : ℤ) (ps : List SectionBlocks) (o : Option UHead) → AllByRecursion IsNarrowPart ps
    → AllByRecursion IsNarrowData (sections_of (decoded_with side ep e first last ps o))
with_narrow side ep e first last ps None h = tt
with_narrow side ep e first last ps (Some head) h = way_narrow (has_way side head) (map (data_with ep e first last head) ps) (parts_narrow ep e first last head ps h)

from_narrow : (side : Side) (ep : ℕ) (e : EndpointConfig) (first last : ℤ) (g : Gathering) (o : Option URefusal) → AllByRecursion IsNarrowPart g.parts
    → AllByRecursion IsNarrowData (sections_of (decoded_from side ep e first last g o))
from_narrow side ep e first last g (Some r) h = tt
from_narrow side ep e first last g None h = with_narrow side ep e first last g.parts g.head h

decode_narrow : (side : Side) (ep : ℕ) (e : EndpointConfig) (first last : ℤ) (bytes : List ℕ) → AllByRecursion IsNarrowData (sections_of (decode side ep e first last bytes))
unfolding decode
decode_narrow side ep e first last bytes =
    from_narrow side ep e first last (gathered nothing_told (told e.format e.prbs (shape_of e.numerology) bytes).items) (told e.format e.prbs (shape_of e.numerology) bytes).refusal
    (gathered_narrow nothing_told (told e.format e.prbs (shape_of e.numerology) bytes).items tt (told_narrow e.format e.prbs (shape_of e.numerology) bytes))

-- ---- what is judged

commands_judged : (side : Side) (d : Delays) (earlier cs : List ControlSection) → AllByRecursion IsNarrow cs → side ≡ Ru → AllByRecursion (HasWidths side) (judged_commands d earlier cs)
unfolding judged_commands
commands_judged side d earlier [] h is = tt
commands_judged side d earlier (s ∷ cs) h is = ((h.0, is), commands_judged side d (s ∷ earlier) cs h.1 is)

data_judged : (side : Side) (d : Delays) (earlier ss : List UserSection) → AllByRecursion IsNarrowData ss → AllByRecursion (HasWidths side) (judged_data side d earlier ss)
unfolding judged_data
data_judged side d earlier [] h = tt
data_judged side d earlier (s ∷ ss) h =
    all_both (HasWidths side) (judged_data side d earlier ss) (Given (heading_of s) (data_verdict side d (timely side d (ss ++ earlier)) s) ∷ []) (data_judged side d earlier ss h.1) (h.0, tt)

decoded_judged : (side : Side) (d : Delays) (ep : ℕ) (e : EndpointConfig) (m : Whole) (earlier : List UserSection) (x : Decoded) → AllByRecursion IsNarrowData (sections_of x)
    → AllByRecursion (HasWidths side) (judged_decoded side d ep e m earlier x)
decoded_judged side d ep e m earlier Refused h = tt
decoded_judged side d ep e m earlier Backwards h = (tt, tt)
decoded_judged side d ep e m earlier (Sections ss) h = data_judged side d earlier ss h

by_judged : (side : Side) (d : Delays) (ep : ℕ) (e : EndpointConfig) (m : Whole) (earlier : List UserSection) (o : Option URefusal)
    → AllByRecursion (HasWidths side) (judged_by side d ep e m earlier o)
by_judged side d ep e m earlier (Some why) = (tt, tt)
by_judged side d ep e m earlier None = decoded_judged side d ep e m earlier (decode_message side ep e m) (decode_narrow side ep e m.first m.last (joined m.pieces))

now_judged : (side : Side) (d : Delays) (ep : ℕ) (e : EndpointConfig) (earlier : List UserSection) (o : Option Whole) → AllByRecursion (HasWidths side) (judged_now side d ep e earlier o)
unfolding judged_whole
now_judged side d ep e earlier None = tt
now_judged side d ep e earlier (Some m) = by_judged side d ep e m earlier (told e.format e.prbs (shape_of e.numerology) (joined m.pieces)).refusal

module _ (side : Side) (c : Config) where
  meeting_judged : (ms : List Meeting) (x : Meeting) → HasMeetingWidths side x → AllByRecursion (HasWidths side) (judged_meeting side c ms x)
  meeting_judged ms (Ignored k) h = tt
  meeting_judged ms (Commands cs) h = commands_judged side c.delays (commands ms) cs h.0 h.1
  meeting_judged ms (Piece e f) h =
      let hold = hold_of side c.delays in
      (h, now_judged side c.delays f.ep e (data_sections side hold ms) (whole_now hold f (fragments ms)))

  all_judged : (at : ℤ) (ms : List Meeting) (messages : List Message) → AllByRecursion (HasWidths side) (judged_in side c at ms messages)
  unfolding judged_in
  all_judged at ms [] = tt
  all_judged at ms (m ∷ rest) =
      let x = meet side c.endpoints at m in
      all_both (HasWidths side) (judged_message side c at ms m) (judged_in side c at (x ∷ ms) rest) (tt, meeting_judged ms x (meet_widths side c.endpoints at m)) (all_judged at (x ∷ ms) rest)

-- of any frame, whatever was received before it
pub have_widths : (side : Side) (c : Config) (earlier : List Arrival) (a : Arrival) → AllByRecursion (HasWidths side) (judgements side c earlier a)
have_widths side c earlier a = all_judged side c a.at (met side c earlier) (whole_messages a.frame)

-- ---- all commands

met_widths : (side : Side) (es : List EndpointConfig) (at : ℤ) (messages : List Message) → AllByRecursion (HasMeetingWidths side) (met_in side es at messages)
met_widths side es at [] = tt
met_widths side es at (m ∷ rest) = (meet_widths side es at m, met_widths side es at rest)

meetings_widths : (side : Side) (es : List EndpointConfig) (arrivals : List Arrival) → AllByRecursion (HasMeetingWidths side) (meetings side es arrivals)
unfolding meetings
meetings_widths side es [] = tt
meetings_widths side es (a ∷ earlier) =
    all_onto (HasMeetingWidths side) (meetings side es earlier) (met_in side es a.at (whole_messages a.frame)) (meetings_widths side es earlier) (met_widths side es a.at (whole_messages a.frame))

commands_widths : (side : Side) (ms : List Meeting) → AllByRecursion (HasMeetingWidths side) ms → AllByRecursion IsNarrow (commands ms)
unfolding commands
commands_widths side [] h = tt
commands_widths side (Ignored k ∷ earlier) h = commands_widths side earlier h.1
commands_widths side (Commands cs ∷ earlier) h = all_onto IsNarrow (commands earlier) cs (commands_widths side earlier h.1) h.0.0
commands_widths side (Piece e f ∷ earlier) h = commands_widths side earlier h.1

pub commands_narrow : (side : Side) (c : Config) (arrivals : List Arrival) → AllByRecursion IsNarrow (commands_of side c arrivals)
commands_narrow side c arrivals = commands_widths side (met side c arrivals) (meetings_widths side c.endpoints arrivals)
