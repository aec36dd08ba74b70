-- The bytes of each frame that is sent for a plan (eCPRI 2.0, section 3.2.4; O-RAN.WG4.CUS, eCPRI transport header; how a message is
-- cut is this project's profile).
use Rattle.std.specs.Prelude.{ℕ, ◌+◌, ◌*◌, ◌%◌, ◌==◌, min, List, [], length}
use Rattle.ecpri_fragments.specs.declared.sequence.SeqField.{SeqField}
use Rattle.window_config.specs.declared.config.Config.{Config}
use Rattle.plan_model.specs.Sent.{SentFrame}
use Rattle.plan_model.specs.Streams.{frames_in}
use Rattle.plan_model.specs.declared.streams.Stream.{Stream}
use Rattle.plan_model.specs.declared.streams.Stream.TheVariants.{DownCommands, UpCommands, DownData, UpData}
use Rattle.frame_bytes.specs.Commands.{command_frame}
use Rattle.frame_bytes.specs.Cuts.{piece_frame}
use Rattle.sent_frames.specs.Commands.{command_head, command_section}
use Rattle.sent_frames.specs.Messages.{Source, message_bytes}

-- a command: its sequence id is the message's number modulo 256
abbrev pub command_bytes : SentFrame → List ℕ
command_bytes f = command_frame f.endpoint.id (f.number % 256) (command_head f.message.first.planned) (command_section f.message.first.planned)

-- the sequence id, the E bit and the subsequence id of a fragment
abbrev pub fragment_field : Config → SentFrame → SeqField
fragment_field c f = record { seq = f.number % 256; last = f.sub + 1 == frames_in c f.stream f.message; sub = f.sub }

-- a fragment: so many bytes of the message, the last the rest
abbrev pub fragment_bytes : Config → Source → SentFrame → List ℕ
fragment_bytes c source f =
    piece_frame f.endpoint.id (fragment_field c f) (f.sub * c.fragment) (min (f.sub * c.fragment + c.fragment) (length (message_bytes source f.message)))
    (message_bytes source f.message)

-- uplink data is none of the distributed unit's
abbrev pub bytes_in : Stream → Config → Source → SentFrame → List ℕ
bytes_in DownCommands c source f = command_bytes f
bytes_in UpCommands c source f = command_bytes f
bytes_in DownData c source f = fragment_bytes c source f
bytes_in UpData c source f = []

abbrev pub sent_bytes : Config → Source → SentFrame → List ℕ
sent_bytes c source f = bytes_in f.stream c source f
