-- What is kept of a replay for its reasons: the records that its judgements leave, in the order of events (this project's profile).
use Rattle.std.specs.Prelude.{ℕ, pos, ◌==◌, Bool, not, ◌&&◌, if◌then◌else◌, List, [], ◌∷◌, Option, Some, None}
use Rattle.std.specs.Int.{int_gap}
use Rattle.std.specs.List.{flat_map}
use Rattle.fh_base.specs.declared.values.Slot.{Slot}
use Rattle.ecpri_fragments.specs.Pieces.{joined}
use Rattle.ecpri_fragments.specs.Verdicts.{Message as Whole}
use Rattle.air_source.specs.declared.events.Side.{Side}
use Rattle.window_config.specs.declared.config.Config.{Config}
use Rattle.window_config.specs.declared.delays.Delays.{Delays}
use Rattle.window_config.specs.declared.endpoints.EndpointConfig.{EndpointConfig}
use Rattle.window_config.specs.declared.verdicts.Class.{Class}
use Rattle.window_config.specs.declared.verdicts.Class.TheVariants.{OnTime, Late, Early}
use Rattle.unit_model.specs.Commands.{command_slot, is_idle}
use Rattle.unit_model.specs.declared.decoded.ControlSection.{ControlSection}
use Rattle.unit_model.specs.declared.verdicts.CommandVerdict.{CommandVerdict}
use Rattle.unit_model.specs.declared.verdicts.DataVerdict.{DataVerdict}
use Rattle.unit_model.specs.declared.heading.DataHeading.{DataHeading}
use Rattle.unit_model.specs.Judgements.{Judgement, Commanded, Unread, Turned, Given}
use Rattle.explain_model.specs.declared.places.Timing.{Timing}
use Rattle.explain_model.specs.Judged.{first_given, given_count}
use Rattle.explain_model.specs.Margins.{control_class, data_class_of}
use Rattle.explain_model.specs.Sections.{symbol_named}
use Rattle.explain_model.specs.Stories.{Story}
use Rattle.explain_model.specs.Timings.{control_timing, data_timing, heading_slot}
use Rattle.explain_model.specs.declared.data.DataRecord.{DataRecord}
use Rattle.explain_model.specs.declared.headers.HeaderRecord.{HeaderRecord}
use Rattle.explain_model.specs.declared.headers.HeaderWhy.{HeaderWhy}
use Rattle.explain_model.specs.declared.headers.HeaderWhy.TheVariants.{Refused, WrongWay}
use Rattle.explain_model.specs.declared.sections.CommandRecord.{CommandRecord}

-- ---- how far a section lies outside of its window, in whole nanoseconds

abbrev pub distance_in : Class → Timing → ℕ
distance_in Late t = int_gap t.until (pos 0)
distance_in Early t = int_gap t.since (pos 0)
distance_in OnTime t = 0

-- a header that is not the endpoint's has no class
abbrev pub distance_by : Option Class → Timing → ℕ
distance_by None t = 0
distance_by (Some class) t = distance_in class t

-- ---- sections of data

unfoldable pub data_record : Side → Delays → ℕ → DataHeading → DataVerdict → DataRecord
data_record side d number h v = record {
  side = side;
  ep = h.ep;
  slot = heading_slot h;
  symbol = h.section.symbol;
  first_prb = first_given h;
  prbs = given_count h;
  section = h.section.id;
  number = number;
  class = data_class_of v;
  distance = distance_in (data_class_of v) (data_timing side d h);
}

abbrev pub data_in : Side → Delays → ℕ → Judgement → List DataRecord
data_in side d number (Given h v) = data_record side d number h v ∷ []
data_in side d number _ = []

-- ---- sections of commands

unfoldable pub command_record : Delays → ℕ → ControlSection → CommandVerdict → CommandRecord
command_record d number s v = record {
  ep = s.ep;
  down = s.head.down;
  slot = command_slot s;
  symbol = s.section.symbol;
  num_symbol = s.section.num_symbol;
  start_prb = s.section.start_prb;
  num_prb = s.section.num_prb;
  mask = s.section.mask;
  number = number;
  verdict = v;
  distance = distance_by (control_class v) (control_timing d s);
}

-- one of type 1 or 3 whose reMask is not 0; another names no element
abbrev pub names_some : ControlSection → Bool
names_some s = not (is_idle s.head.body) && not (s.section.mask == 0)

abbrev pub command_in : Delays → ℕ → Judgement → List CommandRecord
command_in d number (Commanded s v) = if names_some s then command_record d number s v ∷ [] else []
command_in d number _ = []

-- ---- whole messages that are not decoded, of whose symbol the header tells

abbrev pub header_with : Side → ℕ → ℕ → HeaderWhy → Option (Slot × ℕ) → List HeaderRecord
header_with side number ep why None = []
header_with side number ep why (Some (slot, symbol)) =
    record { side = side; ep = ep; slot = slot; symbol = symbol; number = number; why = why } ∷ []

abbrev pub header_of : Side → ℕ → ℕ → EndpointConfig → Whole → HeaderWhy → List HeaderRecord
header_of side number ep e m why = header_with side number ep why (symbol_named e.numerology (joined m.pieces) m.last)

abbrev pub header_in : Side → ℕ → Judgement → List HeaderRecord
header_in side number (Unread ep e m why) = header_of side number ep e m Refused
header_in side number (Turned ep e m) = header_of side number ep e m WrongWay
header_in side number _ = []

-- ---- those of all arrivals, in their order

abbrev pub data_of_story : Delays → Story → List DataRecord
data_of_story d s = flat_map (data_in s.side d s.number) s.judged

abbrev pub commands_of_story : Delays → Story → List CommandRecord
commands_of_story d s = flat_map (command_in d s.number) s.judged

abbrev pub headers_of_story : Story → List HeaderRecord
headers_of_story s = flat_map (header_in s.side s.number) s.judged

unfoldable pub data_records : Config → List Story → List DataRecord
data_records c stories = flat_map (data_of_story c.delays) stories

unfoldable pub command_records : Config → List Story → List CommandRecord
command_records c stories = flat_map (commands_of_story c.delays) stories

unfoldable pub header_records : List Story → List HeaderRecord
header_records stories = flat_map headers_of_story stories
