-- What a unit makes of each whole message of a frame, in the order of the tests that it meets (eCPRI 2.0, sections 3.1.3 and
-- 3.2.4; O-RAN.WG4.CUS, the eCPRI transport header; the order of the tests is this project's profile).
use Rattle.std.specs.Prelude.{ℕ, ℤ, ◌+◌, ◌==◌, ◌||◌, not, nat_lt, if◌then◌else◌, List, [], ◌∷◌, length, map, Option, Some, None, Result, Ok, Err}
use Rattle.fh_base.specs.Numbering.{shape_of}
use Rattle.air_source.specs.declared.events.Side.{Side}
use Rattle.air_source.specs.declared.events.Side.TheVariants.{Ru, Du}
use Rattle.cplane_sections.specs.declared.values.CHead.{CHead}
use Rattle.cplane_sections.specs.declared.values.CRefusal.{CRefusal}
use Rattle.cplane_sections.specs.declared.values.CSection.{CSection}
use Rattle.cplane_sections.specs.Message.{sections_in}
use Rattle.cplane_sections.specs.Tests.{checked}
use Rattle.ecpri_fragments.specs.declared.sequence.SeqField.{SeqField}
use Rattle.ecpri_fragments.specs.Generations.{Fragment}
use Rattle.ecpri_fragments.specs.Sequence.{id_of, sequence_of, application, is_fragmented}
use Rattle.ecpri_frames.specs.Gathering.{whole_messages}
use Rattle.ecpri_frames.specs.Messages.{Message}
use Rattle.fault_counters.specs.declared.kinds.Counter.{Counter}
use Rattle.fault_counters.specs.declared.kinds.Counter.TheVariants.{OtherType, Delay, Short, UnknownEndpoint, WrongWay, CRefused}
use Rattle.window_config.specs.declared.endpoints.EndpointConfig.{EndpointConfig}
use Rattle.fh_base.specs.Lists.{onto}
use Rattle.unit_model.specs.declared.decoded.ControlSection.{ControlSection}
use Rattle.ecpri_frames.specs.declared.heads.TheConstants.{ONE_WAY_DELAY, REAL_TIME_CONTROL, IQ_DATA}

-- a frame, and when it was received, in ticks
pub record Arrival : Type 0 where
  pub at : ℤ
  pub frame : List ℕ

-- what a message is to a unit: it is counted and changes nothing; it is a command with these sections; it is a fragment of data
-- to an endpoint
pub data Meeting : Type 0 where
  Ignored : Counter → Meeting
  Commands : List ControlSection → Meeting
  Piece : EndpointConfig → Fragment → Meeting

-- the endpoint with an id, and its index, where the first of these has the index `ep`
abbrev pub find_from : ℕ → List EndpointConfig → ℕ → Option (ℕ × EndpointConfig)
find_from ep [] id = None
find_from ep (e ∷ es) id = if e.id == id then Some (ep, e) else find_from (ep + 1) es id

abbrev pub find_endpoint : List EndpointConfig → ℕ → Option (ℕ × EndpointConfig)
find_endpoint es id = find_from 0 es id

-- ---- a command

abbrev pub command : ℕ → EndpointConfig → ℤ → CHead → CSection → ControlSection
command ep e at head s = record { ep = ep; endpoint = e; at = record { 0 = at }; head = head; section = s }

-- the sections of a message that was read, in its order
abbrev pub commands_with : ℕ → EndpointConfig → ℤ → CHead → List CSection → List ControlSection
commands_with ep e at head ss = map (command ep e at head) ss

abbrev pub command_read : ℕ → EndpointConfig → ℤ → List ℕ → Result CHead CRefusal → Meeting
command_read ep e at bytes (Err r) = Ignored CRefused
command_read ep e at bytes (Ok head) = Commands (commands_with ep e at head (sections_in head bytes))

abbrev pub command_met : ℕ → EndpointConfig → ℤ → List ℕ → Meeting
command_met ep e at payload =
    if is_fragmented (sequence_of payload) then Ignored CRefused
    else command_read ep e at (application payload) (checked (shape_of e.numerology) (application payload))

-- commands go to the radio unit alone
abbrev pub control_met : Side → ℕ → EndpointConfig → ℤ → List ℕ → Meeting
control_met Ru ep e at payload = command_met ep e at payload
control_met Du ep e at payload = Ignored WrongWay

-- ---- a fragment

abbrev pub fragment_with : ℕ → ℤ → SeqField → List ℕ → Fragment
fragment_with ep at seq bytes = record { ep = ep; seq = seq.seq; at = at; last = seq.last; sub = seq.sub; bytes = bytes }

abbrev pub fragment_of : ℕ → ℤ → List ℕ → Fragment
fragment_of ep at payload = fragment_with ep at (sequence_of payload) (application payload)

-- ---- a message

-- type 2 is real-time control, type 0 is IQ data
abbrev pub met_by : Side → ℕ → ℤ → List ℕ → Option (ℕ × EndpointConfig) → Meeting
met_by side kind at payload None = Ignored UnknownEndpoint
met_by side kind at payload (Some (ep, e)) =
    if kind == REAL_TIME_CONTROL then control_met side ep e at payload else Piece e (fragment_of ep at payload)

-- type 5 is one-way delay measurement; the other types are none of this profile
unfoldable pub meet : Side → List EndpointConfig → ℤ → Message → Meeting
meet side es at m =
    if m.head.kind == ONE_WAY_DELAY then Ignored Delay
    else (if not (m.head.kind == IQ_DATA || m.head.kind == REAL_TIME_CONTROL) then Ignored OtherType
    else (if nat_lt (length m.payload) 4 then Ignored Short
    else met_by side m.head.kind at m.payload (find_endpoint es (id_of m.payload))))

-- ---- all messages of all arrivals, the newest first

abbrev pub met_in : Side → List EndpointConfig → ℤ → List Message → List Meeting
met_in side es at ms = map (meet side es at) ms

unfoldable pub meetings : Side → List EndpointConfig → List Arrival → List Meeting
meetings side es [] = []
meetings side es (a ∷ earlier) = onto (meetings side es earlier) (met_in side es a.at (whole_messages a.frame))

-- the sections of the commands, and the fragments, the newest first
unfoldable pub commands : List Meeting → List ControlSection
commands [] = []
commands (Ignored c ∷ earlier) = commands earlier
commands (Commands cs ∷ earlier) = onto (commands earlier) cs
commands (Piece e f ∷ earlier) = commands earlier

unfoldable pub fragments : List Meeting → List Fragment
fragments [] = []
fragments (Ignored c ∷ earlier) = fragments earlier
fragments (Commands cs ∷ earlier) = fragments earlier
fragments (Piece e f ∷ earlier) = f ∷ fragments earlier
