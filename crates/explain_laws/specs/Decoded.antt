-- What a unit judged of all that was received, and so what is kept of it, is what it decoded of it: the sections of data and of commands,
-- the fragments and the complete messages that it does not decode, each with its verdict over all that was received before it (this
-- project's profile; the verdicts are those of `unit_model`, over complete lists of arrivals).
use Rattle.std.specs.Prelude.{◌≡◌, ℕ, ℤ, List, [], ◌∷◌, ◌++◌, filter, map, if◌then◌else◌, Option, Some, None}
use Rattle.std.specs.List.{flat_map}
use Rattle.ecpri_fragments.specs.Generations.{Fragment}
use Rattle.ecpri_fragments.specs.Verdicts.{Message as Whole, verdict_on, whole_now}
use Rattle.ecpri_fragments.specs.declared.verdict.Verdict.{Verdict}
use Rattle.air_source.specs.Units.{same_side}
use Rattle.air_source.specs.declared.events.Event.{Event}
use Rattle.air_source.specs.declared.events.Side.{Side}
use Rattle.air_source.specs.declared.events.Side.TheVariants.{Ru}
use Rattle.window_config.specs.declared.config.Config.{Config}
use Rattle.window_config.specs.declared.delays.Delays.{Delays}
use Rattle.window_config.specs.declared.endpoints.EndpointConfig.{EndpointConfig}
use Rattle.unit_model.specs.Blocks.{data_verdict, timely}
use Rattle.unit_model.specs.Commands.{accepted, command_verdict}
use Rattle.unit_model.specs.Decoding.{Backwards, Decoded, Refused, Sections, decode_message}
use Rattle.unit_model.specs.Meetings.{Arrival, Commands, Ignored, Meeting, Piece, fragments}
use Rattle.unit_model.specs.Reports.{commands_of, data_of, hold_of, met}
use Rattle.unit_model.specs.declared.decoded.ControlSection.{ControlSection}
use Rattle.unit_model.specs.declared.decoded.UserSection.{UserSection}
use Rattle.unit_model.specs.declared.verdicts.CommandVerdict.{CommandVerdict}
use Rattle.unit_model.specs.declared.verdicts.DataVerdict.{DataVerdict}
use Rattle.unit_model.specs.declared.heading.DataHeading.{DataHeading}
use Rattle.unit_model.specs.Judgements.{Commanded, Fragmented, Given, Judgement, Turned, Unread, heading_of, judgements}
use Rattle.unit_model.specs.Heard.{arrivals_heard}
use Rattle.explain_model.specs.Stories.{Story, stories}
use Rattle.explain_model.specs.declared.data.DataRecord.{DataRecord}
use Rattle.explain_model.specs.declared.headers.HeaderRecord.{HeaderRecord}
use Rattle.explain_model.specs.declared.headers.HeaderWhy.{HeaderWhy}
use Rattle.explain_model.specs.declared.headers.HeaderWhy.TheVariants as header
use Rattle.explain_model.specs.declared.sections.CommandRecord.{CommandRecord}
use Rattle.explain_model.specs.Fragments.{NumberedFragment, unit_fragments}
use Rattle.explain_model.specs.Records.{command_record, command_records, data_record, data_records, header_of, header_records, names_some}

-- all that a unit judged of these arrivals, which have the newest first, in the order in which it did
unfoldable pub judged_of : Side → Config → List Arrival → List Judgement
judged_of side c [] = []
judged_of side c (a ∷ earlier) = judged_of side c earlier ++ judgements side c earlier a

-- ---- sections of data

pub record GivenSection : Type 0 where
  pub heading : DataHeading
  pub verdict : DataVerdict

abbrev pub given_in : Judgement → List GivenSection
given_in (Given h v) = record { heading = h; verdict = v } ∷ []
given_in _ = []

-- these sections, the newest first, with their verdicts, in the order in which they were received
unfoldable pub given_sections : Side → Delays → List UserSection → List GivenSection
given_sections side d [] = []
given_sections side d (s ∷ earlier) =
    given_sections side d earlier ++ record { heading = heading_of s; verdict = data_verdict side d (timely side d earlier) s } ∷ []

-- ---- sections of commands

pub record CommandedSection : Type 0 where
  pub section : ControlSection
  pub verdict : CommandVerdict

abbrev pub commanded_in : Judgement → List CommandedSection
commanded_in (Commanded s v) = record { section = s; verdict = v } ∷ []
commanded_in _ = []

unfoldable pub commanded_sections : Delays → List ControlSection → List CommandedSection
commanded_sections d [] = []
commanded_sections d (s ∷ earlier) =
    commanded_sections d earlier ++ record { section = s; verdict = command_verdict d (accepted d earlier) s } ∷ []

-- ---- fragments

pub record JudgedFragment : Type 0 where
  pub endpoint : EndpointConfig
  pub fragment : Fragment
  pub verdict : Verdict

abbrev pub fragment_in : Judgement → List JudgedFragment
fragment_in (Fragmented e f v) = record { endpoint = e; fragment = f; verdict = v } ∷ []
fragment_in _ = []

-- those among these messages, of which the newest is first
unfoldable pub judged_fragments : ℤ → List Meeting → List JudgedFragment
judged_fragments hold [] = []
judged_fragments hold (Ignored k ∷ earlier) = judged_fragments hold earlier
judged_fragments hold (Commands cs ∷ earlier) = judged_fragments hold earlier
judged_fragments hold (Piece e f ∷ earlier) =
    judged_fragments hold earlier ++ record { endpoint = e; fragment = f; verdict = verdict_on hold f (fragments earlier) } ∷ []

-- ---- whole messages of which no section is decoded

pub record Undecoded : Type 0 where
  pub ep : ℕ
  pub endpoint : EndpointConfig
  pub message : Whole
  pub why : HeaderWhy

abbrev pub undecoded_in : Judgement → List Undecoded
undecoded_in (Unread ep e m why) = record { ep = ep; endpoint = e; message = m; why = header.Refused } ∷ []
undecoded_in (Turned ep e m) = record { ep = ep; endpoint = e; message = m; why = header.WrongWay } ∷ []
undecoded_in _ = []

abbrev pub undecoded_by : ℕ → EndpointConfig → Whole → Decoded → List Undecoded
undecoded_by ep e m Refused = record { ep = ep; endpoint = e; message = m; why = header.Refused } ∷ []
undecoded_by ep e m Backwards = record { ep = ep; endpoint = e; message = m; why = header.WrongWay } ∷ []
undecoded_by ep e m (Sections ss) = []

-- the message that a fragment makes whole, where it does
abbrev pub undecoded_now : Side → ℕ → EndpointConfig → Option Whole → List Undecoded
undecoded_now side ep e None = []
undecoded_now side ep e (Some m) = undecoded_by ep e m (decode_message side ep e m)

unfoldable pub undecoded_messages : Side → ℤ → List Meeting → List Undecoded
undecoded_messages side hold [] = []
undecoded_messages side hold (Ignored k ∷ earlier) = undecoded_messages side hold earlier
undecoded_messages side hold (Commands cs ∷ earlier) = undecoded_messages side hold earlier
undecoded_messages side hold (Piece e f ∷ earlier) =
    undecoded_messages side hold earlier ++ undecoded_now side f.ep e (whole_now hold f (fragments earlier))

-- ---- what is judged is what is decoded

pub record JudgedIsDecoded (side : Side) (c : Config) (arrivals : List Arrival) : Type 0 where
  pub given : flat_map given_in (judged_of side c arrivals) ≡ given_sections side c.delays (data_of side c arrivals)
  pub commanded : flat_map commanded_in (judged_of side c arrivals) ≡ commanded_sections c.delays (commands_of side c arrivals)
  pub fragments : flat_map fragment_in (judged_of side c arrivals) ≡ judged_fragments (hold_of side c.delays) (met side c arrivals)
  pub undecoded : flat_map undecoded_in (judged_of side c arrivals) ≡ undecoded_messages side (hold_of side c.delays) (met side c arrivals)

abbrev pub JudgementsAreDecoded : Type 0
JudgementsAreDecoded = (side : Side) (c : Config) (arrivals : List Arrival) → JudgedIsDecoded side c arrivals

-- ---- stories

-- those of a unit
abbrev pub of_unit : Side → List Story → List Story
of_unit side ss = filter (λ s. same_side s.side side) ss

-- they tell all that the unit judged of the arrivals at it
abbrev pub StoriesAreJudged : Type 0
StoriesAreJudged =
    (side : Side) (c : Config) (events : List Event)
    → flat_map (λ s. s.judged) (of_unit side (stories c events)) ≡ judged_of side c (arrivals_heard side [] events)

-- ---- records

-- what is in the stories of a unit, each with the number of its arrival
pub record Numbered (A : Type 0) : Type 0 where
  pub number : ℕ
  pub it : A

abbrev pub numbered_in : {A : Type 0} → (Judgement → List A) → Story → List (Numbered A)
numbered_in of s = map (λ a. record { number = s.number; it = a }) (flat_map of s.judged)

abbrev pub numbered : {A : Type 0} → (Judgement → List A) → Side → List Story → List (Numbered A)
numbered of side ss = flat_map (numbered_in of) (of_unit side ss)

abbrev pub data_kept : Side → Delays → Numbered GivenSection → DataRecord
data_kept side d x = data_record side d x.number x.it.heading x.it.verdict

abbrev pub command_kept : Delays → Numbered CommandedSection → List CommandRecord
command_kept d x = if names_some x.it.section then command_record d x.number x.it.section x.it.verdict ∷ [] else []

abbrev pub header_kept : Side → Numbered Undecoded → List HeaderRecord
header_kept side x = header_of side x.number x.it.ep x.it.endpoint x.it.message x.it.why

abbrev pub fragment_kept : Numbered JudgedFragment → NumberedFragment
fragment_kept x = record { number = x.number; endpoint = x.it.endpoint; fragment = x.it.fragment; verdict = x.it.verdict }

-- The records of a unit are of its decoded sections, of its complete messages that it does not decode, and of its fragments, each with the
-- number of the arrival in whose story it is, in the order in which they were received.
pub record UnitIsKept (side : Side) (c : Config) (events : List Event) : Type 0 where
  pub data_is : filter (λ r. same_side r.side side) (data_records c (stories c events)) ≡ map (data_kept side c.delays) (numbered given_in side (stories c events))
  pub headers_are : filter (λ r. same_side r.side side) (header_records (stories c events)) ≡ flat_map (header_kept side) (numbered undecoded_in side (stories c events))
  pub fragments_are : unit_fragments side (stories c events) ≡ map fragment_kept (numbered fragment_in side (stories c events))
  -- and these are all that it decoded
  pub given : map (λ x. x.it) (numbered given_in side (stories c events)) ≡ given_sections side c.delays (data_of side c (arrivals_heard side [] events))
  pub undecoded : map (λ x. x.it) (numbered undecoded_in side (stories c events))
      ≡ undecoded_messages side (hold_of side c.delays) (met side c (arrivals_heard side [] events))
  pub fragments : map (λ x. x.it) (numbered fragment_in side (stories c events))
      ≡ judged_fragments (hold_of side c.delays) (met side c (arrivals_heard side [] events))

-- so it is at each unit; those of commands are of the radio unit's
pub record AreKept (c : Config) (events : List Event) : Type 0 where
  pub units : (side : Side) → UnitIsKept side c events
  pub commands_are : command_records c (stories c events) ≡ flat_map (command_kept c.delays) (numbered commanded_in Ru (stories c events))
  pub commanded : map (λ x. x.it) (numbered commanded_in Ru (stories c events)) ≡ commanded_sections c.delays (commands_of Ru c (arrivals_heard Ru [] events))

abbrev pub RecordsAreDecoded : Type 0
RecordsAreDecoded = (c : Config) (events : List Event) → AreKept c events
