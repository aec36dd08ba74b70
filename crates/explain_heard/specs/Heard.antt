-- What is kept of a judgement (this project's profile).
use Rattle.std.specs.Prelude.{◌≡◌, ℕ, ◌==◌, ◌||◌, not, nat_lt, if◌then◌else◌, Bool, false, List, [], ◌∷◌, ◌++◌, length, map, slice_index_or, Option, Some, None}
use Rattle.air_source.specs.declared.events.Side.{Side}
use Rattle.ecpri_fragments.specs.Generations.{Fragment}
use Rattle.ecpri_fragments.specs.Pieces.{joined}
use Rattle.ecpri_fragments.specs.Sequence.{id_of, sequence_of}
use Rattle.ecpri_fragments.specs.Verdicts.{Message as Whole}
use Rattle.ecpri_fragments.specs.declared.verdict.Verdict.{Verdict}
use Rattle.ecpri_frames.specs.Messages.{Message}
use Rattle.ecpri_frames.specs.declared.heads.TheConstants.{ONE_WAY_DELAY, REAL_TIME_CONTROL, IQ_DATA}
use Rattle.explain_heard.specs.declared.heard.Heard.{Heard}
use Rattle.explain_heard.specs.declared.heard.Heard.TheVariants as kept
use Rattle.explain_heard.specs.declared.heard.MessageWord.{MessageWord}
use Rattle.explain_heard.specs.declared.heard.MessageWord.TheVariants as word
use Rattle.explain_model.specs.declared.values.WholeAnswer.{WholeAnswer}
use Rattle.explain_model.specs.declared.values.WholeAnswer.TheVariants as answer
use Rattle.explain_model.specs.Messages.{command_answer}
use Rattle.unit_model.specs.Judgements.{Judgement, Met, Commanded, Fragmented, Unread, Turned, Given}
use Rattle.unit_model.specs.Meetings.{find_endpoint}
use Rattle.window_config.specs.declared.endpoints.EndpointConfig.{EndpointConfig}

-- ---- bytes

-- the byte with this index, 0 where there is none
abbrev pub byte_at : List ℕ → ℕ → ℕ
byte_at bytes k = slice_index_or bytes k 0

abbrev pub first_four : List ℕ → List ℕ
first_four bytes = byte_at bytes 0 ∷ byte_at bytes 1 ∷ byte_at bytes 2 ∷ byte_at bytes 3 ∷ []

abbrev pub first_eight : List ℕ → List ℕ
first_eight bytes =
    byte_at bytes 0 ∷ byte_at bytes 1 ∷ byte_at bytes 2 ∷ byte_at bytes 3 ∷ byte_at bytes 4 ∷ byte_at bytes 5 ∷ byte_at bytes 6 ∷ byte_at bytes 7 ∷ []

-- ---- a whole message of a frame

abbrev pub word_to : Side → ℕ → EndpointConfig → List ℕ → MessageWord
word_to side kind e payload =
    if kind == REAL_TIME_CONTROL then word.Command (id_of payload) (sequence_of payload) (command_answer side e payload) else word.Data

abbrev pub word_with : Side → ℕ → List ℕ → Option (ℕ × EndpointConfig) → MessageWord
word_with side kind payload None = word.Unknown (id_of payload) (sequence_of payload)
word_with side kind payload (Some (ep, e)) = word_to side kind e payload

-- by the first that holds: a measurement, another type, too short a payload, no endpoint, a command
unfoldable pub message_word : Side → List EndpointConfig → Message → MessageWord
message_word side es m =
    if m.head.kind == ONE_WAY_DELAY then word.Measure
    else (if not (m.head.kind == IQ_DATA || m.head.kind == REAL_TIME_CONTROL) then word.Other
    else (if nat_lt (length m.payload) 4 then word.Short
    else word_with side m.head.kind m.payload (find_endpoint es (id_of m.payload))))

abbrev pub message_heard : Side → List EndpointConfig → Message → Heard
message_heard side es m = kept.Message (record { place = m.place; kind = m.head.kind; size = length m.payload; word = message_word side es m })

-- ---- data

abbrev pub fragment_heard : EndpointConfig → Fragment → Verdict → Heard
fragment_heard e f v = kept.Fragment (record {
  ep = f.ep;
  endpoint = e;
  at = record { 0 = f.at };
  seq = record { seq = f.seq; last = f.last; sub = f.sub };
  bytes = length f.bytes;
  start = first_eight f.bytes;
  verdict = v;
})

abbrev pub whole_heard : ℕ → EndpointConfig → Whole → WholeAnswer → Heard
whole_heard ep e m said = kept.Whole (record {
  ep = ep;
  endpoint = e;
  last = record { 0 = m.last };
  pieces = length m.pieces;
  bytes = length (joined m.pieces);
  start = first_four (joined m.pieces);
  answer = said;
})

-- ---- a judgement

abbrev pub heard_of : Side → List EndpointConfig → Judgement → Heard
heard_of side es (Met m) = message_heard side es m
heard_of side es (Commanded s v) = kept.Command s v
heard_of side es (Fragmented e f v) = fragment_heard e f v
heard_of side es (Unread ep e m why) = whole_heard ep e m (answer.Refused why)
heard_of side es (Turned ep e m) = whole_heard ep e m answer.WrongWay
heard_of side es (Given h v) = kept.Data h v

abbrev pub all_heard : Side → List EndpointConfig → List Judgement → List Heard
all_heard side es judged = map (heard_of side es) judged

-- where memory is not wanting now, it was not before, and these were kept after the others
pub record Keeps (old : List Heard) (before : Bool) (more new : List Heard) (is : Bool) : Type 0 where
  pub was : is ≡ false → before ≡ false
  pub kept : is ≡ false → new ≡ old ++ more

-- these judgements were heard, at a unit with these endpoints
pub record HearsAll (a : Side) (es : List EndpointConfig) (old : List Heard) (before : Bool) (judged : List Judgement) (b : Side) (fs : List EndpointConfig) (new : List Heard) (is : Bool) : Type 0 where
  pub side : b ≡ a
  pub endpoints : fs ≡ es
  pub keeps : Keeps old before (all_heard a es judged) new is
