-- The frames of the radio unit's U-plane messages (eCPRI 2.0, section 3.2.4; O-RAN.WG4.CUS, U-plane messages, eCPRI transport header and
-- the window Ta3; the gap between frames is this project's profile).
use Rattle.std.specs.Prelude.{ℕ, ◌+◌, ◌*◌, ◌%◌, ◌^◌, ◌==◌, false, min, List, [], ◌∷◌, ◌++◌, map}
use Rattle.std.specs.List.{slice_get}
use Rattle.std.specs.Option.{option_map_or}
use Rattle.bfp_codec.specs.declared.samples.Iq.{Iq}
use Rattle.bfp_codec.specs.declared.samples.Wide.{Wide}
use Rattle.ecpri_fragments.specs.declared.sequence.SeqField.{SeqField}
use Rattle.unit_model.specs.Terms.{UHead}
use Rattle.window_config.specs.declared.config.Config.{Config}
use Rattle.window_config.specs.declared.endpoints.EndpointConfig.{EndpointConfig}
use Rattle.air_source.specs.Answers.{block_of}
use Rattle.air_source.specs.declared.links.LinkFrame.{LinkFrame}
use Rattle.air_source.specs.declared.places.RePlace.{RePlace}
use Rattle.fh_base.specs.Lists.{each}
use Rattle.unit_model.specs.declared.jobs.UplinkJob.{UplinkJob}
use Rattle.plan_model.specs.Departures.{departure, departures_of}
use Rattle.plan_model.specs.Packs.{Message, parts_of, size_of}
use Rattle.plan_model.specs.declared.streams.Stream.TheVariants.{UpData}
use Rattle.frame_bytes.specs.Cuts.{piece_frame}
use Rattle.frame_bytes.specs.Messages.{message_of}
use Rattle.frame_bytes.specs.declared.messages.DataSection.{DataSection}
use Rattle.uplink_model.specs.Messages.{frame_count, uplink_frames_before, job_fields, number_behind}
use Rattle.frame_bytes.specs.Headers.{frame_id_of, carrier_of}

-- what the antenna answers at each resource element
abbrev pub Antenna : Type 0
Antenna = RePlace → Wide

-- the application header: dataDirection 0, the command's filterIndex in its 4 bits
abbrev pub head_of : UplinkJob → UHead
head_of j = record {
  down = false;
  filter = j.filter % 2 ^ 4;
  frame_id = frame_id_of j.slot.frame;
  subframe = j.slot.subframe;
  slot = j.slot.slot;
  symbol = j.symbol;
}

-- sectionId in its 12 bits, startPrbu and numPrbu are the command's
abbrev pub section_of : UplinkJob → DataSection
section_of j = record { id = j.section % 2 ^ 12; start_prb = j.start_prb; num_prb = j.num_prb }

-- the samples of each PRB of a job's symbol, all twelve of them whatever the command's mask; they are the same in each section
abbrev pub samples_of : Antenna → EndpointConfig → UplinkJob → ℕ → ℕ → List Iq
samples_of antenna e j place prb = block_of antenna e.id j.slot j.symbol prb

-- the application bytes: a section for each job
abbrev pub uplink_message_bytes : Antenna → EndpointConfig → Message UplinkJob → List ℕ
uplink_message_bytes antenna e m = message_of (carrier_of e) (samples_of antenna e m.first) (head_of m.first) (map section_of (parts_of m))

-- the sequence id, the E bit and the subsequence id of a fragment
abbrev pub uplink_fragment_field : Config → Message UplinkJob → ℕ → ℕ → SeqField
uplink_fragment_field c m number sub = record { seq = number % 256; last = sub + 1 == frame_count c m; sub = sub }

-- a fragment: so many bytes of the message, the last the rest
abbrev pub uplink_fragment_bytes : Config → Antenna → EndpointConfig → Message UplinkJob → ℕ → ℕ → List ℕ
uplink_fragment_bytes c antenna e m number sub =
    piece_frame e.id (uplink_fragment_field c m number sub) (sub * c.fragment) (min (sub * c.fragment + c.fragment) (size_of (job_fields c.endpoints) m))
    (uplink_message_bytes antenna e m)

-- frame `sub` of a message with this number, where so many frames of its symbol leave before the message's first
abbrev pub uplink_frame_of : Config → Antenna → EndpointConfig → Message UplinkJob → ℕ → ℕ → ℕ → LinkFrame
uplink_frame_of c antenna e m number before sub = record {
  at = record { 0 = departure (departures_of c UpData) m.first.s.0 (before + sub) };
  ep = m.first.ep;
  frame = uplink_fragment_bytes c antenna e m number sub;
}

-- n frames of it from `sub` on
abbrev pub uplink_frames_from : Config → Antenna → EndpointConfig → Message UplinkJob → ℕ → ℕ → ℕ → ℕ → List LinkFrame
uplink_frames_from c antenna e m number before sub n = each sub n (λ k. uplink_frame_of c antenna e m number before k ∷ [])

-- the frames of a message after those before it, the newest first
unfoldable pub uplink_message_frames : Config → Antenna → List (Message UplinkJob) → Message UplinkJob → List LinkFrame
uplink_message_frames c antenna earlier m =
    option_map_or (λ e. uplink_frames_from c antenna e m (number_behind m.first.ep earlier) (uplink_frames_before c m.first earlier) 0 (frame_count c m))
    (slice_get c.endpoints m.first.ep) []

-- the frames of these messages in their order, as they are handed over, after those before them
unfoldable pub frames_behind : Config → Antenna → List (Message UplinkJob) → List (Message UplinkJob) → List LinkFrame
frames_behind c antenna earlier [] = []
frames_behind c antenna earlier (m ∷ ms) = uplink_message_frames c antenna earlier m ++ frames_behind c antenna (m ∷ earlier) ms
