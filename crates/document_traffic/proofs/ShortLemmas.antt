-- How long the frames are that leave for a document.
use Rattle.std.proofs.Common.{◌≡◌, ℕ, ◌+◌, ◌*◌, ◌%◌, ◌^◌, ◌<◌, ◌≤◌, ◌-◌, min, List, length, refl, ap, sym, ◌∙◌, subst, arith, length-append}
use Rattle.air_source.specs.declared.events.Side.TheVariants.{Ru, Du}
use Rattle.air_source.specs.declared.links.LinkFrame.{LinkFrame}
use Rattle.cplane_sections.specs.declared.values.CHead.{CHead}
use Rattle.cplane_sections.specs.declared.values.CSection.{CSection}
use Rattle.ecpri_fragments.specs.declared.sequence.SeqField.{SeqField}
use Rattle.fh_document.specs.Proper.{IsDocument}
use Rattle.fh_document.specs.declared.document.Document.{Document}
use Rattle.frame_bytes.proofs.CutBytes.{length_cut}
use Rattle.frame_bytes.proofs.Fields.{length-in_bytes}
use Rattle.frame_bytes.specs.Commands.{command_frame, command_of, whole_seq}
use Rattle.frame_bytes.specs.Cuts.{cut, piece_at, piece_frame}
use Rattle.frame_bytes.specs.Spelled.{in_bytes}
use Rattle.frame_bytes.specs.Transport.{frame_of as transport_frame, transport_fields}
use Rattle.plan_model.specs.Packs.{Message, size_of}
use Rattle.plan_model.specs.Sent.{SentFrame}
use Rattle.plan_model.specs.Valid.{IsValid}
use Rattle.plan_model.specs.declared.streams.Stream.{Stream}
use Rattle.plan_model.specs.declared.streams.Stream.TheVariants.{DownCommands, UpCommands, DownData, UpData}
use Rattle.sent_frames.specs.Commands.{command_head, command_section}
use Rattle.sent_frames.specs.Frames.{bytes_in, fragment_field}
use Rattle.sent_frames.specs.Messages.{Source, message_bytes}
use Rattle.uplink_laws.proofs.Fragments.{piece_short}
use Rattle.uplink_laws.proofs.SentRead.{command_short}
use Rattle.unit_model.specs.declared.jobs.UplinkJob.{UplinkJob}
use Rattle.uplink_model.specs.Frames.{Antenna, uplink_frame_of, uplink_fragment_field as answer_field, uplink_message_bytes as answer_bytes}
use Rattle.uplink_model.specs.Messages.{job_fields}
use Rattle.window_config.specs.declared.config.Config.{Config}
use Rattle.window_config.specs.declared.endpoints.EndpointConfig.{EndpointConfig}
use Rattle.document_traffic.specs.Landing.{antenna_for, leaving_up}
use Rattle.document_traffic.specs.Laws.{LeavingAreShort}
use Rattle.document_traffic.specs.Sending.{Leaving, leaving_down, leaving_of, sent_for, source_for}
use Rattle.document_traffic.proofs.AnswerLemmas.{handed_frame, sent_is_handed}
use Rattle.window_config.specs.declared.config.TheConstants.{MOST_FRAGMENT}
use Rattle.fh_base.specs.Members.{IsIn}
use Rattle.fh_base.proofs.MemberLemmas.{all_of}
use Rattle.fh_base.proofs.MadeLists.{of_map}

-- a frame has eight bytes of headers before its application bytes
pub length_frame : (kind id : ℕ) (seq : SeqField) (application : List ℕ) → length (transport_frame kind id seq application) ≡ 8 + length application
length_frame kind id seq application =
    length-append (in_bytes (transport_fields kind id seq (4 + length application))) application
    ∙ ap (λ n. n + length application) (length-in_bytes 8 (transport_fields kind id seq (4 + length application)) refl)

short_command : (n k : ℕ) → n ≡ 8 + k → 4 + k < 2 ^ 16 → n < 2 ^ 32
short_command n k h few = omega (arith, h, few)

short_piece : (n k fragment : ℕ) → n ≡ 8 + k → k ≤ fragment → fragment ≤ MOST_FRAGMENT → n < 2 ^ 32
short_piece n k fragment h few most = omega (arith, h, few, most)

command_is_short : (id number : ℕ) (h : CHead) (s : CSection) → length (command_frame id number h s) < 2 ^ 32
command_is_short id number h s =
    short_command (length (command_frame id number h s)) (length (command_of h s)) (length_frame 2 id (whole_seq number) (command_of h s)) (command_short h s)

piece_is_short : (id : ℕ) (seq : SeqField) (sub fragment : ℕ) (message : List ℕ) → fragment ≤ MOST_FRAGMENT
    → length (piece_frame id seq (sub * fragment) (min (sub * fragment + fragment) (length message)) message) < 2 ^ 32
piece_is_short id seq sub fragment message most =
    let piece = piece_at fragment message sub in
    short_piece (length (transport_frame 0 id seq piece)) (length piece) fragment (length_frame 0 id seq piece) (piece_short fragment message sub) most

-- ---- what the distributed unit sends

short_in : (stream : Stream) (c : Config) (source : Source) (f : SentFrame) → c.fragment ≤ MOST_FRAGMENT → length (bytes_in stream c source f) < 2 ^ 32
short_in DownCommands c source f most = command_is_short f.endpoint.id (f.number % 256) (command_head f.message.first.planned) (command_section f.message.first.planned)
short_in UpCommands c source f most = command_is_short f.endpoint.id (f.number % 256) (command_head f.message.first.planned) (command_section f.message.first.planned)
short_in DownData c source f most = piece_is_short f.endpoint.id (fragment_field c f) f.sub c.fragment (message_bytes source f.message) most
short_in UpData c source f most = omega arith

down_short : (d : Document) → IsDocument d → (f : Leaving) → IsIn f (leaving_down d) → length f.frame < 2 ^ 32
down_short d is f m =
    let w = of_map (leaving_of d) f (sent_for d) m in
    subst (λ (g : Leaving). length g.frame < 2 ^ 32) (sym w.2) (short_in w.0.stream d.config (source_for d) w.0 is.config.fragment_high)

-- ---- what the radio unit sends

pub short_cut : (n from fragment size len : ℕ) → n ≡ min (min (from + fragment) size) len - from → n ≤ fragment
short_cut n from fragment size len h = omega (arith, h)

handed_short : (c : Config) (antenna : Antenna) (e : EndpointConfig) (m : Message UplinkJob) (number before sub : ℕ) → c.fragment ≤ MOST_FRAGMENT
    → length (uplink_frame_of c antenna e m number before sub).frame < 2 ^ 32
handed_short c antenna e m number before sub most =
    let bytes = answer_bytes antenna e m in
    let size = size_of (job_fields c.endpoints) m in
    let from = sub * c.fragment in
    let to = min (from + c.fragment) size in
    let piece = cut from to bytes in
    short_piece (length (uplink_frame_of c antenna e m number before sub).frame) (length piece) c.fragment (length_frame 0 e.id (answer_field c m number sub) piece)
    (short_cut (length piece) from c.fragment size (length bytes) (length_cut from to bytes)) most

up_short : (d : Document) → IsDocument d → IsValid d.config d.plan → (f : Leaving) → IsIn f (leaving_up d) → length f.frame < 2 ^ 32
up_short d is valid f m =
    let w = sent_is_handed d is valid f m in
    let h = handed_frame d is valid w.0 w.1 in
    subst (λ (g : Leaving). length g.frame < 2 ^ 32) (sym w.2)
    (subst (λ (g : LinkFrame). length g.frame < 2 ^ 32) (sym h.is)
    (handed_short d.config (antenna_for d) h.endpoint h.message h.number h.before h.sub is.config.fragment_high))

pub are_short : LeavingAreShort
are_short d Ru is valid = all_of (λ (f : Leaving). length f.frame < 2 ^ 32) (leaving_down d) (down_short d is)
are_short d Du is valid = all_of (λ (f : Leaving). length f.frame < 2 ^ 32) (leaving_up d) (up_short d is valid)
