-- What a unit judges of a frame, in the order of its messages and of their sections, over all that was received before (this project's
-- profile; the verdicts are those of `unit_model`).
use Rattle.std.specs.Prelude.{ℕ, ℤ, List, [], ◌∷◌, ◌++◌, Option, Some, None}
use Rattle.fh_base.specs.Numbering.{shape_of}
use Rattle.ecpri_frames.specs.Gathering.{whole_messages}
use Rattle.ecpri_frames.specs.Messages.{Message}
use Rattle.ecpri_fragments.specs.Generations.{Fragment}
use Rattle.ecpri_fragments.specs.Pieces.{joined}
use Rattle.ecpri_fragments.specs.Verdicts.{Message as Whole, verdict_on, whole_now}
use Rattle.ecpri_fragments.specs.declared.verdict.Verdict.{Verdict}
use Rattle.air_source.specs.declared.events.Side.{Side}
use Rattle.window_config.specs.declared.config.Config.{Config}
use Rattle.window_config.specs.declared.delays.Delays.{Delays}
use Rattle.window_config.specs.declared.endpoints.EndpointConfig.{EndpointConfig}
use Rattle.unit_model.specs.Terms.{URefusal}
use Rattle.uplane_sections.specs.Messages.{told}
use Rattle.unit_model.specs.Blocks.{data_verdict, timely}
use Rattle.unit_model.specs.Commands.{accepted, command_verdict}
use Rattle.unit_model.specs.Decoding.{Decoded, Refused, Backwards, Sections, data_sections, decode_message}
use Rattle.unit_model.specs.Meetings.{Arrival, Meeting, Ignored, Commands, Piece, commands, fragments, meet}
use Rattle.unit_model.specs.Reports.{hold_of, met}
use Rattle.unit_model.specs.declared.decoded.ControlSection.{ControlSection}
use Rattle.unit_model.specs.declared.decoded.UserSection.{UserSection}
use Rattle.unit_model.specs.declared.verdicts.CommandVerdict.{CommandVerdict}
use Rattle.unit_model.specs.declared.verdicts.DataVerdict.{DataVerdict}
use Rattle.unit_model.specs.declared.heading.DataHeading.{DataHeading}

-- a complete message of a frame was received; a section of a command has a verdict; a fragment of data to an endpoint has one; a complete
-- message of data is refused, or has the other unit's direction; a section of data has a verdict
pub data Judgement : Type 0 where
  Met : Message → Judgement
  Commanded : ControlSection → CommandVerdict → Judgement
  Fragmented : EndpointConfig → Fragment → Verdict → Judgement
  Unread : ℕ → EndpointConfig → Whole → URefusal → Judgement
  Turned : ℕ → EndpointConfig → Whole → Judgement
  Given : DataHeading → DataVerdict → Judgement

-- ---- commands

-- the sections of a command, in its order, where these were received before
unfoldable pub judged_commands : Delays → List ControlSection → List ControlSection → List Judgement
judged_commands d earlier [] = []
judged_commands d earlier (c ∷ cs) = Commanded c (command_verdict d (accepted d earlier) c) ∷ judged_commands d (c ∷ earlier) cs

-- ---- data

-- a section without its samples
abbrev pub heading_of : UserSection → DataHeading
heading_of s = record { ep = s.ep; endpoint = s.endpoint; first = s.first; last = s.last; head = s.head; section = s.section }

-- the sections of a message, of which the last one is first here, where these were received before: they are judged in the message's order
unfoldable pub judged_data : Side → Delays → List UserSection → List UserSection → List Judgement
judged_data side d earlier [] = []
judged_data side d earlier (s ∷ ss) = judged_data side d earlier ss ++ Given (heading_of s) (data_verdict side d (timely side d (ss ++ earlier)) s) ∷ []

abbrev pub judged_decoded : Side → Delays → ℕ → EndpointConfig → Whole → List UserSection → Decoded → List Judgement
judged_decoded side d ep e m earlier Refused = []
judged_decoded side d ep e m earlier Backwards = Turned ep e m ∷ []
judged_decoded side d ep e m earlier (Sections ss) = judged_data side d earlier ss

abbrev pub judged_by : Side → Delays → ℕ → EndpointConfig → Whole → List UserSection → Option URefusal → List Judgement
judged_by side d ep e m earlier (Some why) = Unread ep e m why ∷ []
judged_by side d ep e m earlier None = judged_decoded side d ep e m earlier (decode_message side ep e m)

-- a whole message to an endpoint
unfoldable pub judged_whole : Side → Delays → ℕ → EndpointConfig → Whole → List UserSection → List Judgement
judged_whole side d ep e m earlier = judged_by side d ep e m earlier (told e.format e.prbs (shape_of e.numerology) (joined m.pieces)).refusal

abbrev pub judged_now : Side → Delays → ℕ → EndpointConfig → List UserSection → Option Whole → List Judgement
judged_now side d ep e earlier None = []
judged_now side d ep e earlier (Some m) = judged_whole side d ep e m earlier

-- a fragment, and the message that it makes whole, if it does
abbrev pub judged_piece : Side → Delays → ℤ → EndpointConfig → Fragment → List Fragment → List UserSection → List Judgement
judged_piece side d hold e f fs ds = Fragmented e f (verdict_on hold f fs) ∷ judged_now side d f.ep e ds (whole_now hold f fs)

-- ---- messages

-- what is judged of a message that was met so, where these were met before
abbrev pub judged_meeting : Side → Config → List Meeting → Meeting → List Judgement
judged_meeting side c ms (Ignored x) = []
judged_meeting side c ms (Commands cs) = judged_commands c.delays (commands ms) cs
judged_meeting side c ms (Piece e f) = judged_piece side c.delays (hold_of side c.delays) e f (fragments ms) (data_sections side (hold_of side c.delays) ms)

abbrev pub judged_message : Side → Config → ℤ → List Meeting → Message → List Judgement
judged_message side c at ms m = Met m ∷ judged_meeting side c ms (meet side c.endpoints at m)

-- the messages of a frame, in its order
unfoldable pub judged_in : Side → Config → ℤ → List Meeting → List Message → List Judgement
judged_in side c at ms [] = []
judged_in side c at ms (m ∷ rest) = judged_message side c at ms m ++ judged_in side c at (meet side c.endpoints at m ∷ ms) rest

-- what a unit judges of a frame, where these arrived before it, the newest first
abbrev pub judgements : Side → Config → List Arrival → Arrival → List Judgement
judgements side c earlier a = judged_in side c a.at (met side c earlier) (whole_messages a.frame)
