-- The source of a plan's samples, where a function says what is answered at each resource element.
use Rattle.std.specs.Prelude.{◌≡◌, ℕ, ◌+◌, ◌*◌, ◌<◌, ◌==◌, min, List, length}
use Rattle.std.specs.List.{slice_get}
use Rattle.std.specs.Option.{option_map_or}
use Rattle.air_source.specs.Answers.{block_of}
use Rattle.air_source.specs.declared.places.RePlace.{RePlace}
use Rattle.bfp_codec.specs.declared.samples.Iq.{Iq}
use Rattle.bfp_codec.specs.declared.samples.Wide.{Wide}
use Rattle.ecpri_fragments.specs.declared.sequence.SeqField.{SeqField}
use Rattle.window_config.specs.declared.endpoints.EndpointConfig.{EndpointConfig}
use Rattle.plan_model.specs.declared.lines.PlannedLine.{PlannedLine}
use Rattle.frame_bytes.specs.Cuts.{piece_frame}
use Rattle.frame_bytes.specs.Messages.{message_of, message_size}
use Rattle.frame_bytes.specs.declared.messages.DataSection.{DataSection}
use Rattle.plan_model.specs.Streams.{part_in}
use Rattle.sent_frames.specs.Messages.{Source, data_head}
use Rattle.sent_frames.specs.declared.data.Fragment.{Fragment}
use Rattle.frame_bytes.specs.Headers.{carrier_of}
use Rattle.ecpri_fragments.specs.Pieces.{piece_count}

-- the eAxC id of the endpoint with this index
abbrev pub id_at : List EndpointConfig → ℕ → ℕ
id_at endpoints ep = option_map_or (λ e. e.id) (slice_get endpoints ep) 0

-- a cell's samples are the answers at its elements, under its endpoint's eAxC id
abbrev pub source_of : List EndpointConfig → (RePlace → Wide) → Source
source_of endpoints answer cell = block_of answer (id_at endpoints cell.ep) cell.slot cell.symbol cell.prb

-- in each section and PRB of a symbol the samples are the answers there
abbrev pub AreAnswersIn : PlannedLine → ℕ → ℕ → (RePlace → Wide) → (ℕ → ℕ → List Iq) → Type 0
AreAnswersIn line symbol sections answer blocks =
    (place prb : ℕ) → place < sections → prb < line.endpoint.prbs → blocks place prb ≡ block_of answer line.endpoint.id line.line.slot symbol prb

-- a fragment's sequence field, where the message has so many bytes
abbrev pub field_of : Fragment → ℕ → SeqField
field_of f bytes = record { seq = f.seq; last = f.sub + 1 == piece_count f.size bytes; sub = f.sub }

-- the frame of a fragment of a message
abbrev pub fragment_frame : ℕ → Fragment → ℕ → List ℕ → List ℕ
fragment_frame id f bytes message = piece_frame id (field_of f bytes) (f.sub * f.size) (min (f.sub * f.size + f.size) (length message)) message

-- the frame of a fragment of the message that begins with a line in a symbol and has these sections
abbrev pub data_frame : PlannedLine → ℕ → List DataSection → Fragment → (ℕ → ℕ → List Iq) → List ℕ
data_frame line symbol sections f blocks =
    fragment_frame line.endpoint.id f (message_size (carrier_of line.endpoint) sections) (message_of (carrier_of line.endpoint) blocks (data_head (part_in symbol line)) sections)
