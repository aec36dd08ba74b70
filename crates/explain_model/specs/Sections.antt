-- The lines of an arrival: its frame, and each judgement on it in its order (this project's profile).
use Rattle.std.specs.Prelude.{ℕ, ℤ, ◌==◌, ◌&&◌, not, nat_le, nat_lt, if◌then◌else◌, List, [], ◌∷◌, ◌++◌, length, Option, Some, None}
use Rattle.fh_base.specs.Frame.{absolute_frame}
use Rattle.fh_base.specs.Numbering.{slots_of, symbols_of}
use Rattle.fh_base.specs.declared.numerology.Numerology.{Numerology}
use Rattle.fh_base.specs.declared.values.Slot.{Slot}
use Rattle.ecpri_fragments.specs.Generations.{Fragment}
use Rattle.ecpri_fragments.specs.Pieces.{joined}
use Rattle.ecpri_fragments.specs.Verdicts.{Message as Whole}
use Rattle.uplane_sections.specs.Header.{frameId, payloadVersion, slotId, subframeId, symbolId}
use Rattle.air_source.specs.declared.events.Side.{Side}
use Rattle.window_config.specs.declared.config.Config.{Config}
use Rattle.window_config.specs.declared.delays.Delays.{Delays}
use Rattle.window_config.specs.declared.endpoints.EndpointConfig.{EndpointConfig}
use Rattle.unit_model.specs.Commands.{allocation_of, command_slot, is_idle}
use Rattle.unit_model.specs.declared.decoded.ControlSection.{ControlSection}
use Rattle.unit_model.specs.declared.verdicts.CommandVerdict.{CommandVerdict}
use Rattle.unit_model.specs.declared.verdicts.CommandVerdict.TheVariants as control
use Rattle.unit_model.specs.declared.verdicts.DataVerdict.{DataVerdict}
use Rattle.unit_model.specs.declared.verdicts.DataVerdict.TheVariants as user
use Rattle.unit_model.specs.declared.heading.DataHeading.{DataHeading}
use Rattle.unit_model.specs.Judgements.{Judgement, Met, Commanded, Fragmented, Unread, Turned, Given}
use Rattle.explain_model.specs.declared.places.Clash.{Clash}
use Rattle.explain_model.specs.declared.places.MessagePlace.{MessagePlace}
use Rattle.explain_model.specs.declared.places.SymbolPlace.{SymbolPlace}
use Rattle.explain_model.specs.declared.values.ControlLine.{ControlLine}
use Rattle.explain_model.specs.declared.values.DataLine.{DataLine}
use Rattle.explain_model.specs.declared.values.ExplainLine.{ExplainLine}
use Rattle.explain_model.specs.declared.values.ExplainLine.TheVariants as line
use Rattle.explain_model.specs.declared.values.WholeAnswer.{WholeAnswer}
use Rattle.explain_model.specs.declared.values.WholeAnswer.TheVariants as whole
use Rattle.explain_model.specs.declared.values.WholeLine.{WholeLine}
use Rattle.explain_model.specs.Judged.{accepted_in, clash_in, first_given, fresh_count, given_count, last_place}
use Rattle.explain_model.specs.Messages.{message_lines}
use Rattle.explain_model.specs.Stories.{Story}
use Rattle.explain_model.specs.Timings.{control_timing, data_timing, heading_slot}

-- ---- a section of a command

-- what it overlaps
abbrev pub clash_by : CommandVerdict → List Judgement → ControlSection → Option Clash
clash_by control.Overlap before s = clash_in (accepted_in before) (allocation_of s)
clash_by _ before s = None

abbrev pub control_place : ControlSection → SymbolPlace
control_place s = record { id = s.endpoint.id; slot = command_slot s; symbol = s.section.symbol }

unfoldable pub control_line : Delays → ℕ → List Judgement → ControlSection → CommandVerdict → ControlLine
control_line d number before s v = record {
  number = number;
  place = control_place s;
  section = s.section.id;
  prb = s.section.start_prb;
  num = s.section.num_prb;
  symbols = s.section.num_symbol;
  mask = s.section.mask;
  uplink = not s.head.down;
  idle = is_idle s.head.body;
  verdict = v;
  timing = control_timing d s;
  clash = clash_by v before s;
}

-- ---- data

-- a fragment, whose message was met last
abbrev pub fragment_place : ℕ → List Judgement → EndpointConfig → Fragment → MessagePlace
fragment_place number before e f = record { number = number; id = e.id; place = last_place before; seq = record { seq = f.seq; last = f.last; sub = f.sub } }

-- the slot that the header of data names, by the frame nearest to a time
abbrev pub slot_in : List ℕ → ℤ → Slot
slot_in bytes at = record { frame = absolute_frame (frameId bytes) at; subframe = subframeId bytes; slot = slotId bytes }

-- the slot and the symbol that it names, where it is a header of this version and these are an endpoint's
unfoldable pub symbol_named : Numerology → List ℕ → ℤ → Option (Slot × ℕ)
symbol_named n bytes at =
    if nat_le 4 (length bytes) && ((payloadVersion bytes == 1)
    && (nat_le (subframeId bytes) 9 && (nat_lt (slotId bytes) (slots_of n) && nat_lt (symbolId bytes) (symbols_of n))))
    then Some (slot_in bytes at, symbolId bytes)
    else None

-- a whole message of which no section is read
unfoldable pub whole_line : ℕ → EndpointConfig → Whole → WholeAnswer → WholeLine
whole_line number e m answer = record {
  number = number;
  id = e.id;
  named = symbol_named e.numerology (joined m.pieces) m.last;
  pieces = length m.pieces;
  bytes = length (joined m.pieces);
  answer = answer;
}

-- how many of its cells had no block, where not all of them
abbrev pub some_of : ℕ → ℕ → Option ℕ
some_of fresh all = if nat_lt fresh all then Some fresh else None

abbrev pub fresh_by : DataVerdict → List Judgement → DataHeading → Option ℕ
fresh_by user.Taken before h = some_of (fresh_count before h) (given_count h)
fresh_by _ before h = None

abbrev pub data_place : DataHeading → SymbolPlace
data_place h = record { id = h.endpoint.id; slot = heading_slot h; symbol = h.section.symbol }

unfoldable pub data_line : Side → Delays → ℕ → List Judgement → DataHeading → DataVerdict → DataLine
data_line side d number before h v = record {
  number = number;
  place = data_place h;
  section = h.section.id;
  prb = first_given h;
  num = given_count h;
  verdict = v;
  timing = data_timing side d h;
  fresh = fresh_by v before h;
}

-- ---- an arrival

-- of a judgement, where the unit judged this before, the newest first
abbrev pub judgement_lines : Config → Side → ℕ → List Judgement → Judgement → List ExplainLine
judgement_lines c side number before (Met m) = message_lines side c.endpoints number m
judgement_lines c side number before (Commanded s v) = line.Control (control_line c.delays number before s v) ∷ []
judgement_lines c side number before (Fragmented e f v) = line.Fragment (fragment_place number before e f) (length f.bytes) v ∷ []
judgement_lines c side number before (Unread ep e m why) = line.Whole (whole_line number e m (whole.Refused why)) ∷ []
judgement_lines c side number before (Turned ep e m) = line.Whole (whole_line number e m whole.WrongWay) ∷ []
judgement_lines c side number before (Given h v) = line.Data (data_line side c.delays number before h v) ∷ []

unfoldable pub judged_lines : Config → Side → ℕ → List Judgement → List Judgement → List ExplainLine
judged_lines c side number before [] = []
judged_lines c side number before (j ∷ js) = judgement_lines c side number before j ++ judged_lines c side number (j ∷ before) js

abbrev pub frame_line : Story → ExplainLine
frame_line s = line.Frame s.number s.side (record { 0 = s.arrival.at }) (length s.arrival.frame) s.refusal

-- its frame, and what is judged of its messages
unfoldable pub story_lines : Config → List Judgement → Story → List ExplainLine
story_lines c before s = frame_line s ∷ judged_lines c s.side s.number before s.judged
