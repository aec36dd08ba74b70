-- The U-plane messages that the radio unit sends for the uplink sections that it accepted (O-RAN.WG4.CUS, U-plane messages; how the
-- sections of a symbol are cut into messages, and how messages are numbered, is this project's profile). The jobs of a unit are in
-- the order of starts, endpoints, slots and symbols, so those of one symbol are together.
use Rattle.std.specs.Prelude.{ℕ, ◌+◌, Bool, ◌&&◌, ◌==◌, if◌then◌else◌, List, [], ◌∷◌}
use Rattle.std.specs.List.{slice_get}
use Rattle.std.specs.Option.{option_map_or}
use Rattle.window_config.specs.declared.config.Config.{Config}
use Rattle.window_config.specs.declared.endpoints.EndpointConfig.{EndpointConfig}
use Rattle.unit_model.specs.Claims.{same_slot}
use Rattle.unit_model.specs.declared.jobs.UplinkJob.{UplinkJob}
use Rattle.plan_model.specs.Packs.{Message, PartFields, alone, size_of, takes, with_part}
use Rattle.plan_model.specs.Streams.{section_size}
use Rattle.ecpri_fragments.specs.Pieces.{piece_count}

-- what `plan_model` asks of a part of a message: the bytes of a section are those of its endpoint
abbrev pub job_fields : List EndpointConfig → PartFields UplinkJob
job_fields es = record {
  slot = λ j. j.slot;
  symbol = λ j. j.symbol;
  filter = λ j. j.filter;
  size = λ j. option_map_or (λ e. section_size e j.num_prb) (slice_get es j.ep) 0;
}

-- a message takes one job more: of its endpoint, and as any message takes a part
abbrev pub takes_job : Config → Message UplinkJob → UplinkJob → Bool
takes_job c m j = (m.first.ep == j.ep) && takes (job_fields c.endpoints) c.pack m j

-- the messages that these jobs make after one that may take more
unfoldable pub messages_behind : Config → Message UplinkJob → List UplinkJob → List (Message UplinkJob)
messages_behind c m [] = m ∷ []
messages_behind c m (j ∷ js) =
    if takes_job c m j then messages_behind c (with_part m j) js else m ∷ messages_behind c (alone j) js

-- the messages of these jobs, in their order
abbrev pub uplink_messages_of : Config → List UplinkJob → List (Message UplinkJob)
uplink_messages_of c [] = []
uplink_messages_of c (j ∷ js) = messages_behind c (alone j) js

-- the frames of a message
abbrev pub frame_count : Config → Message UplinkJob → ℕ
frame_count c m = piece_count c.fragment (size_of (job_fields c.endpoints) m)

-- ---- where a message is after others, the newest of these first

-- a message's number: how many of its endpoint were before it
abbrev pub number_behind : ℕ → List (Message UplinkJob) → ℕ
number_behind ep [] = 0
number_behind ep (m ∷ earlier) = (if m.first.ep == ep then 1 else 0) + number_behind ep earlier

-- both are of one symbol of one endpoint
abbrev pub same_job_symbol : UplinkJob → UplinkJob → Bool
same_job_symbol a b = (a.ep == b.ep) && (same_slot a.slot b.slot && (a.symbol == b.symbol))

-- how many frames of a job's symbol leave before those of its message: the messages of one symbol are together
unfoldable pub uplink_frames_before : Config → UplinkJob → List (Message UplinkJob) → ℕ
uplink_frames_before c j [] = 0
uplink_frames_before c j (m ∷ earlier) = if same_job_symbol m.first j then frame_count c m + uplink_frames_before c j earlier else 0
