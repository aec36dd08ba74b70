-- The line of a whole message of a frame (this project's profile).
use Rattle.std.specs.Prelude.{ℕ, ◌==◌, ◌||◌, not, nat_lt, if◌then◌else◌, List, [], ◌∷◌, length, Option, Some, None, Result, Ok, Err}
use Rattle.fh_base.specs.Numbering.{shape_of}
use Rattle.cplane_sections.specs.Tests.{checked}
use Rattle.cplane_sections.specs.declared.values.CHead.{CHead}
use Rattle.cplane_sections.specs.declared.values.CRefusal.{CRefusal}
use Rattle.ecpri_fragments.specs.Sequence.{application, id_of, is_fragmented, sequence_of}
use Rattle.ecpri_frames.specs.Messages.{Message}
use Rattle.ecpri_frames.specs.declared.heads.TheConstants.{ONE_WAY_DELAY, REAL_TIME_CONTROL, IQ_DATA}
use Rattle.air_source.specs.declared.events.Side.{Side}
use Rattle.air_source.specs.declared.events.Side.TheVariants.{Ru, Du}
use Rattle.window_config.specs.declared.endpoints.EndpointConfig.{EndpointConfig}
use Rattle.unit_model.specs.Meetings.{find_endpoint}
use Rattle.explain_model.specs.declared.places.MessagePlace.{MessagePlace}
use Rattle.explain_model.specs.declared.values.CommandAnswer.{CommandAnswer}
use Rattle.explain_model.specs.declared.values.CommandAnswer.TheVariants as answer
use Rattle.explain_model.specs.declared.values.ExplainLine.{ExplainLine}
use Rattle.explain_model.specs.declared.values.ExplainLine.TheVariants as line

-- a message of the types 0 and 2, of the arrival with this number
abbrev pub message_place : ℕ → Message → MessagePlace
message_place number m = record { number = number; id = id_of m.payload; place = m.place; seq = sequence_of m.payload }

-- ---- type 2

abbrev pub answer_by : Result CHead CRefusal → CommandAnswer
answer_by (Ok head) = answer.Read
answer_by (Err r) = answer.Refused r

-- what a command is to a unit: the distributed unit does not look into it
abbrev pub command_answer : Side → EndpointConfig → List ℕ → CommandAnswer
command_answer Ru e payload =
    if is_fragmented (sequence_of payload) then answer.Fragmented else answer_by (checked (shape_of e.numerology) (application payload))
command_answer Du e payload = answer.WrongWay

-- ---- any message

-- to the endpoint with the message's id; a message of data has the line of its fragment
abbrev pub line_to : Side → ℕ → Message → Option (ℕ × EndpointConfig) → List ExplainLine
line_to side number m None = line.Unknown (message_place number m) m.head.kind ∷ []
line_to side number m (Some (ep, e)) =
    if m.head.kind == REAL_TIME_CONTROL then line.Command (message_place number m) (command_answer side e m.payload) ∷ [] else []

-- by the first that holds: a measurement, another type, too short a payload, no endpoint, a command
unfoldable pub message_lines : Side → List EndpointConfig → ℕ → Message → List ExplainLine
message_lines side es number m =
    if m.head.kind == ONE_WAY_DELAY then line.Measure number m.place (length m.payload) ∷ []
    else (if not (m.head.kind == IQ_DATA || m.head.kind == REAL_TIME_CONTROL) then line.Other number m.place m.head.kind (length m.payload) ∷ []
    else (if nat_lt (length m.payload) 4 then line.Short number m.place m.head.kind (length m.payload) ∷ []
    else line_to side number m (find_endpoint es (id_of m.payload))))
