-- What is shown of a capture (this project's profile): the messages of each frame by the layouts of eCPRI 2.0 and O-RAN.WG4.CUS.
use Rattle.std.specs.Prelude.{ℕ, ◌+◌, ◌==◌, ◌&&◌, nat_lt, nat_le, if◌then◌else◌, Bool, List, [], ◌∷◌, ◌++◌, length, take, map, Option, Some, None, Result, Ok, Err}
use Rattle.std.specs.List.{flat_map}
use Rattle.fh_base.specs.declared.values.Shape.{Shape}
use Rattle.ecpri_frames.specs.declared.refusals.PduRefusal.{PduRefusal}
use Rattle.ecpri_frames.specs.Messages.{Message, pdu}
use Rattle.ecpri_frames.specs.Gathering.{whole_messages}
use Rattle.ecpri_fragments.specs.declared.sequence.SeqField.{SeqField}
use Rattle.ecpri_fragments.specs.Sequence.{id_of, sequence_of, application, is_fragmented}
use Rattle.cplane_sections.specs.declared.values.CBody.{CBody}
use Rattle.cplane_sections.specs.declared.values.CBody.TheVariants.{Idle, Normal, Offset}
use Rattle.cplane_sections.specs.declared.values.CHead.{CHead}
use Rattle.cplane_sections.specs.declared.values.CSection.{CSection}
use Rattle.cplane_sections.specs.declared.values.CRefusal.{CRefusal}
use Rattle.cplane_sections.specs.Header.{kind_of}
use Rattle.cplane_sections.specs.Message.{sections_in}
use Rattle.cplane_sections.specs.Tests.{checked}
use Rattle.uplane_sections.specs.declared.values.UHead.{UHead}
use Rattle.uplane_sections.specs.Header.{head_of}
use Rattle.delay_measure.specs.declared.message.DelayMessage.{DelayMessage}
use Rattle.delay_measure.specs.Payload.{message_of}
use Rattle.capture_records.specs.Records.{Arrived}
use Rattle.capture_records.specs.Reading.{records_of}
use Rattle.capture_show.specs.declared.values.Kind.TheVariants as kind
use Rattle.capture_show.specs.declared.values.Kind.{Kind}
use Rattle.capture_show.specs.declared.values.Name.TheVariants as name
use Rattle.capture_show.specs.declared.values.Word.TheVariants as word
use Rattle.capture_show.specs.declared.values.Word.{Word}
use Rattle.capture_show.specs.declared.values.Member.{Member}
use Rattle.capture_show.specs.Lines.{ShownLine, count, signed, flag, said}
use Rattle.ecpri_frames.specs.declared.heads.TheConstants.{REAL_TIME_CONTROL, IQ_DATA, ONE_WAY_DELAY}

abbrev pub line : Kind → List Member → ShownLine
line kind members = record { kind = kind; members = members }

-- place, id and sequence field
unfoldable pub address_members : ℕ → ℕ → SeqField → List Member
address_members place id seq =
    count name.Place place ∷ said name.Id (word.Hex4 id) ∷ count name.Seq seq.seq ∷ flag name.E seq.last ∷ count name.Sub seq.sub ∷ []

-- direction, filter and the symbol
unfoldable pub moment_members : Bool → ℕ → ℕ → ℕ → ℕ → ℕ → List Member
moment_members down filter frame subframe slot symbol =
    flag name.Down down ∷ count name.Filter filter ∷ count name.Frame frame ∷ count name.Subframe subframe ∷ count name.Slot slot ∷ count name.Symbol symbol ∷ []

-- ---- commands

-- they are read with the most symbols of a slot and slots of a subframe that the fields hold in this profile
abbrev pub widest : Shape
widest = record { symbols = 14; slots = 64 }

-- what the section type adds
unfoldable pub body_members : CBody → List Member
body_members (Idle t s c) = count name.Offset t ∷ said name.Structure (word.Hex2 s) ∷ count name.Cp c ∷ []
body_members (Normal u) = said name.Comp (word.Hex2 u) ∷ []
body_members (Offset t s c u) = count name.Offset t ∷ said name.Structure (word.Hex2 s) ∷ count name.Cp c ∷ said name.Comp (word.Hex2 u) ∷ []

abbrev pub command_line : ℕ → ℕ → SeqField → CHead → ShownLine
command_line place id seq head = line kind.Command
    (address_members place id seq
    ++ moment_members head.down head.filter head.frame_id head.subframe head.slot head.start_symbol
    ++ (count name.Sections head.count ∷ count name.MessageType (kind_of head.body) ∷ [])
    ++ body_members head.body)

-- the frequency offset is in section type 3 alone
abbrev pub freq_members : ℕ → CSection → List Member
freq_members type s = if type == 3 then signed name.Freq s.freq_offset ∷ [] else []

unfoldable pub section_line : ℕ → CSection → ShownLine
section_line type s = line kind.Section
    ((count name.Id s.id ∷ count name.Symbol s.symbol ∷ count name.Prb s.start_prb ∷ count name.Num s.num_prb ∷ said name.Mask (word.Hex3 s.mask)
    ∷ count name.Symbols s.num_symbol ∷ count name.Beam s.beam ∷ [])
    ++ freq_members type s)

-- a command that is refused, at a place of its application message
unfoldable pub refused_line : ℕ → ℕ → Word → ShownLine
refused_line place at why = line kind.Refused (count name.Place place ∷ count name.At at ∷ said name.Why why ∷ [])

-- the sections of a command, in its order
abbrev pub section_lines : CHead → List ℕ → List ShownLine
section_lines head bytes = map (section_line (kind_of head.body)) (sections_in head bytes)

-- a command by what its test answers
abbrev pub command_read : ℕ → List ℕ → Result CHead CRefusal → List ShownLine
command_read place payload (Err r) = refused_line place r.place (word.Command r.why) ∷ []
command_read place payload (Ok head) = command_line place (id_of payload) (sequence_of payload) head ∷ section_lines head (application payload)

abbrev pub command_lines : ℕ → List ℕ → List ShownLine
command_lines place payload =
    if is_fragmented (sequence_of payload) then refused_line place 0 word.Fragmented ∷ []
    else command_read place payload (checked widest (application payload))

-- ---- data

-- the header of a message is in the first four bytes of its first fragment; it is shown untested
abbrev pub header_of : List ℕ → UHead
header_of bytes = head_of (take 4 bytes)

abbrev pub moment_of : UHead → List Member
moment_of head = moment_members head.down head.filter head.frame_id head.subframe head.slot head.symbol

abbrev pub header_members : SeqField → List ℕ → List Member
header_members seq bytes = if (seq.sub == 0) && nat_le 4 (length bytes) then moment_of (header_of bytes) else []

abbrev pub data_line : ℕ → List ℕ → ShownLine
data_line place payload = line kind.Data
    (address_members place (id_of payload) (sequence_of payload)
    ++ (count name.Bytes (length (application payload)) ∷ [])
    ++ header_members (sequence_of payload) (application payload))

-- ---- the other messages

unfoldable pub delay_line : ℕ → DelayMessage → ShownLine
delay_line place m = line kind.Delay
    (count name.Place place ∷ count name.Id m.id ∷ count name.Action m.action ∷ count name.Seconds m.seconds ∷ count name.Nanoseconds m.nanoseconds ∷ signed name.Comp m.comp ∷ [])

-- a message that is too short for its type, or of another type, by its place, its type and its size
unfoldable pub sized_line : Kind → ℕ → ℕ → ℕ → ShownLine
sized_line kind place type size = line kind (count name.Place place ∷ count name.MessageType type ∷ count name.Size size ∷ [])

-- ---- a frame, and the capture

-- a message by its type: 0 data, 2 commands, 5 one-way delay measurement
abbrev pub shown_as : ℕ → ℕ → List ℕ → List ShownLine
shown_as type place payload =
    if type == REAL_TIME_CONTROL then (if nat_lt (length payload) 4 then sized_line kind.Short place type (length payload) ∷ [] else command_lines place payload)
    else if type == IQ_DATA then (if nat_lt (length payload) 4 then sized_line kind.Short place type (length payload) ∷ [] else data_line place payload ∷ [])
    else if type == ONE_WAY_DELAY then (if nat_lt (length payload) 20 then sized_line kind.Short place type (length payload) ∷ [] else delay_line place (message_of payload) ∷ [])
    else sized_line kind.Other place type (length payload) ∷ []

abbrev pub message_lines : Message → List ShownLine
message_lines m = shown_as m.head.kind m.place m.payload

-- the fault of a frame
unfoldable pub broken_lines : Option PduRefusal → List ShownLine
broken_lines None = []
broken_lines (Some r) = line kind.Broken (count name.Place r.place ∷ said name.Why (word.Frame r.why) ∷ []) ∷ []

-- the number-th record, from 1
unfoldable pub frame_line : ℕ → Arrived → ShownLine
frame_line number a = line kind.Frame (count name.Number number ∷ said name.Way (word.Way a.side) ∷ signed name.Ticks a.at.0 ∷ count name.Bytes (length a.frame) ∷ [])

abbrev pub messages_lines : List Message → List ShownLine
messages_lines ms = flat_map message_lines ms

abbrev pub record_lines : ℕ → Arrived → List ShownLine
record_lines number a = (frame_line number a ∷ messages_lines (whole_messages a.frame)) ++ broken_lines (pdu a.frame).refusal

-- the records from the number-th on
unfoldable pub records_lines : ℕ → List Arrived → List ShownLine
records_lines number [] = []
records_lines number (a ∷ more) = record_lines number a ++ records_lines (number + 1) more

-- the whole capture
abbrev pub capture_lines : List ℕ → List ShownLine
capture_lines bytes = records_lines 1 (records_of bytes)
