-- A sent frame: one eCPRI message with its transport header (eCPRI 2.0, sections 3.1.3 and 3.2.4; O-RAN.WG4.CUS, eCPRI transport header).
use Rattle.std.specs.Prelude.{◌≡◌, ℕ, ◌+◌, ◌<◌, ◌^◌, List, [], ◌∷◌, ◌++◌, length, take, drop, false}
use Rattle.bfp_codec.specs.Field.{field, flag}
use Rattle.ecpri_frames.specs.Spelling.{Spells}
use Rattle.ecpri_fragments.specs.declared.sequence.SeqField.{SeqField}
use Rattle.ecpri_fragments.specs.Sequence.{seq_field_of}
use Rattle.frame_bytes.specs.Spelled.{Field, in_bytes}

-- ecpriVersion 1, 3 reserved bits, ecpriConcatenation 0, ecpriMessage, ecpriPayload; then ecpriPcid or ecpriRtcid, and
-- ecpriSeqid: the sequence id, the E bit and the subsequence id
abbrev pub transport_fields : ℕ → ℕ → SeqField → ℕ → List Field
transport_fields kind id seq size =
    (4, 1) ∷ (3, 0) ∷ (1, 0) ∷ (8, kind) ∷ (16, size) ∷ (16, id) ∷ (8, seq.seq) ∷ (1, flag seq.last) ∷ (7, seq.sub) ∷ []

-- the frame of these application bytes; the payload's size counts the id and the sequence field
abbrev pub frame_of : ℕ → ℕ → SeqField → List ℕ → List ℕ
frame_of kind id seq application = in_bytes (transport_fields kind id seq (4 + length application)) ++ application

-- the frame is one whole PDU of this type, and its id, its sequence field and its application bytes are read back
pub record IsOneMessage (kind id : ℕ) (seq : SeqField) (application frame : List ℕ) : Type 0 where
  pub payload : List ℕ
  pub whole : Spells 0 frame (record { place = 0; head = record { more = false; kind = kind; size = 4 + length application }; payload = payload } ∷ [])
  pub id_read : field payload 0 16 ≡ id
  pub seq_read : seq_field_of (take 2 (drop 2 payload)) ≡ seq
  pub application_read : drop 4 payload ≡ application

-- the numbers of a transport header in their fields' widths
pub record IsTransport (kind id : ℕ) (seq : SeqField) (size : ℕ) : Type 0 where
  pub kind_fits : kind < 2 ^ 8
  pub id_fits : id < 2 ^ 16
  pub seq_fits : seq.seq < 2 ^ 8
  pub sub_fits : seq.sub < 128
  pub size_fits : size < 2 ^ 16
