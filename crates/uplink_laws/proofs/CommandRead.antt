-- A frame of one message is read as that message; a line's command as the line's.
use Rattle.std.proofs.Common.{◌≡◌, ℕ, ℤ, ◌+◌, ◌≤◌, Bool, false, if◌then◌else◌, List, [], ◌∷◌, length, Option, Some, refl, ap, ap₂, ◌∙◌, arith}
use Rattle.std.specs.Prelude.{filter}
use Rattle.std.proofs.lemmas.Bool.{eq-eqb, le-ltb}
use Rattle.fh_base.specs.Numbering.{shape_of}
use Rattle.air_source.specs.declared.events.Side.TheVariants.{Ru}
use Rattle.cplane_sections.specs.Tests.{checked}
use Rattle.cplane_sections.specs.Writes.{IsReadAs}
use Rattle.cplane_sections.specs.declared.values.CHead.{CHead}
use Rattle.cplane_sections.specs.declared.values.CSection.{CSection}
use Rattle.ecpri_fragments.specs.declared.sequence.SeqField.{SeqField}
use Rattle.ecpri_frames.specs.Gathering.{is_whole, whole_messages}
use Rattle.ecpri_frames.specs.Messages.{Message, Reading}
use Rattle.ecpri_frames.proofs.Spelled.{read_spelled}
use Rattle.fault_counters.specs.declared.kinds.Counter.TheVariants.{CRefused}
use Rattle.window_config.specs.declared.endpoints.EndpointConfig.{EndpointConfig}
use Rattle.unit_model.specs.Meetings.{Commands, Ignored, Meeting, Piece, command, command_met, command_read, commands_with, find_endpoint, fragment_of, fragment_with, meet, met_in}
use Rattle.frame_bytes.specs.Commands.{whole_seq}
use Rattle.frame_bytes.specs.Transport.{IsOneMessage, IsTransport, frame_of}
use Rattle.frame_bytes.proofs.Frames.{frame_is_one}
use Rattle.ecpri_fragments.specs.Sequence.{id_of, sequence_of, application, is_fragmented}

-- the message of a frame
abbrev pub message_of : ℕ → ℕ → List ℕ → Message
message_of kind size payload = record { place = 0; head = record { more = false; kind = kind; size = size }; payload = payload }

pub one_whole : (kind id : ℕ) (seq : SeqField) (bytes frame : List ℕ) (one : IsOneMessage kind id seq bytes frame) → whole_messages frame ≡ message_of kind (4 + length bytes) one.payload ∷ []
one_whole kind id seq bytes frame one =
    let m = message_of kind (4 + length bytes) one.payload in
    ap (λ (r : Reading). filter is_whole r.messages) (read_spelled 0 (m ∷ []) frame one.whole)
    ∙ ap (λ (b : Bool). let ms : List Message = if b then m ∷ [] else [] in ms) (eq-eqb (length one.payload) (4 + length bytes) one.whole.message.payload)

-- it is met by the endpoint with its id
pub control_met : (es : List EndpointConfig) (ep : ℕ) (e : EndpointConfig) (at : ℤ) (size : ℕ) (payload : List ℕ) → 4 ≤ length payload → find_endpoint es (id_of payload) ≡ Some (ep, e)
    → meet Ru es at (message_of 2 size payload) ≡ command_met ep e at payload
unfolding meet
control_met es ep e at size payload long found = rw (le-ltb (length payload) 4 long, found) refl

pub data_met : (es : List EndpointConfig) (ep : ℕ) (e : EndpointConfig) (at : ℤ) (size : ℕ) (payload : List ℕ) → 4 ≤ length payload → find_endpoint es (id_of payload) ≡ Some (ep, e)
    → meet Ru es at (message_of 0 size payload) ≡ Piece e (fragment_of ep at payload)
unfolding meet
data_met es ep e at size payload long found = rw (le-ltb (length payload) 4 long, found) refl

pub command_is : (ep : ℕ) (e : EndpointConfig) (at : ℤ) (number : ℕ) (payload bytes : List ℕ) (h : CHead) (s : CSection) → sequence_of payload ≡ whole_seq number → application payload ≡ bytes
    → IsReadAs (shape_of e.numerology) h (s ∷ []) bytes → command_met ep e at payload ≡ Commands (command ep e at h s ∷ [])
command_is ep e at number payload bytes h s seq app read =
    ap (λ (q : SeqField). let m : Meeting = if is_fragmented q then Ignored CRefused else command_read ep e at (application payload) (checked (shape_of e.numerology) (application payload)) in m) seq
    ∙ ap (λ (bs : List ℕ). command_read ep e at bs (checked (shape_of e.numerology) bs)) app
    ∙ ap (command_read ep e at bytes) read.head_read
    ∙ ap (λ (ss : List CSection). Commands (commands_with ep e at h ss)) read.sections_read

four_more : (n m : ℕ) → m ≡ 4 + n → 4 ≤ m
four_more n m h = omega (arith, h)

pub long : (kind id : ℕ) (seq : SeqField) (bytes frame : List ℕ) (one : IsOneMessage kind id seq bytes frame) → 4 ≤ length one.payload
long kind id seq bytes frame one = four_more (length bytes) (length one.payload) one.whole.message.payload

pub found_by : (kind id : ℕ) (seq : SeqField) (bytes frame : List ℕ) (one : IsOneMessage kind id seq bytes frame) (es : List EndpointConfig) (o : Option (ℕ × EndpointConfig)) → find_endpoint es id ≡ o
    → find_endpoint es (id_of one.payload) ≡ o
found_by kind id seq bytes frame one es o h = ap (find_endpoint es) one.id_read ∙ h

-- a command's frame
pub command_frame_met : (es : List EndpointConfig) (ep : ℕ) (e : EndpointConfig) (at : ℤ) (number : ℕ) (bytes : List ℕ) (h : CHead) (s : CSection)
    → find_endpoint es e.id ≡ Some (ep, e) → IsTransport 2 e.id (whole_seq number) (4 + length bytes) → IsReadAs (shape_of e.numerology) h (s ∷ []) bytes
    → met_in Ru es at (whole_messages (frame_of 2 e.id (whole_seq number) bytes)) ≡ Commands (command ep e at h s ∷ []) ∷ []
command_frame_met es ep e at number bytes h s found t read =
    let frame = frame_of 2 e.id (whole_seq number) bytes in
    let one = frame_is_one 2 e.id (whole_seq number) bytes t in
    let met = control_met es ep e at (4 + length bytes) one.payload (long 2 e.id (whole_seq number) bytes frame one) (found_by 2 e.id (whole_seq number) bytes frame one es (Some (ep, e)) found) in
    let is = command_is ep e at number one.payload bytes h s one.seq_read one.application_read read in
    ap (met_in Ru es at) (one_whole 2 e.id (whole_seq number) bytes frame one) ∙ ap (λ (m : Meeting). m ∷ []) (met ∙ is)

-- a fragment's frame
pub fragment_frame_met : (es : List EndpointConfig) (ep : ℕ) (e : EndpointConfig) (at : ℤ) (seq : SeqField) (bytes : List ℕ)
    → find_endpoint es e.id ≡ Some (ep, e) → IsTransport 0 e.id seq (4 + length bytes)
    → met_in Ru es at (whole_messages (frame_of 0 e.id seq bytes)) ≡ Piece e (record { ep = ep; seq = seq.seq; at = at; last = seq.last; sub = seq.sub; bytes = bytes }) ∷ []
fragment_frame_met es ep e at seq bytes found t =
    let frame = frame_of 0 e.id seq bytes in
    let one = frame_is_one 0 e.id seq bytes t in
    let met = data_met es ep e at (4 + length bytes) one.payload (long 0 e.id seq bytes frame one) (found_by 0 e.id seq bytes frame one es (Some (ep, e)) found) in
    let is : Piece e (fragment_of ep at one.payload) ≡ Piece e (record { ep = ep; seq = seq.seq; at = at; last = seq.last; sub = seq.sub; bytes = bytes }) = ap₂ (λ (q : SeqField) (bs : List ℕ). Piece e (fragment_with ep at q bs)) one.seq_read one.application_read in
    ap (met_in Ru es at) (one_whole 0 e.id seq bytes frame one) ∙ ap (λ (m : Meeting). m ∷ []) (met ∙ is)
