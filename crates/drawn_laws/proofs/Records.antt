-- The numbers of the records that reasons look at.
use Rattle.std.proofs.Common.{ℕ, ℤ, ◌^◌, ◌<◌, ◌≤◌, ◌&&◌, List, [], ◌∷◌, length, Option, Some, None, arith}
use Rattle.std.specs.Prelude.{filter, not}
use Rattle.std.specs.List.{AllByRecursion}
use Rattle.ecpri_fragments.specs.Generations.{Fragment}
use Rattle.ecpri_fragments.specs.Pieces.{joined}
use Rattle.ecpri_fragments.specs.Verdicts.{is_whole}
use Rattle.fh_base.specs.declared.values.Slot.{Slot}
use Rattle.air_source.specs.Units.{same_side}
use Rattle.air_source.specs.declared.events.Side.{Side}
use Rattle.air_source.specs.declared.events.Side.TheVariants.{Du, Ru}
use Rattle.window_config.specs.Limits.{IsWithinLimits}
use Rattle.window_config.specs.declared.config.Config.{Config}
use Rattle.window_config.specs.declared.delays.Delays.{Delays}
use Rattle.window_config.specs.declared.endpoints.EndpointConfig.{EndpointConfig}
use Rattle.unit_model.specs.Proper.{IsProperCommand}
use Rattle.unit_model.specs.Reports.{hold_of}
use Rattle.unit_model.specs.declared.decoded.ControlSection.{ControlSection}
use Rattle.unit_model.specs.declared.verdicts.CommandVerdict.{CommandVerdict}
use Rattle.unit_model.specs.declared.verdicts.DataVerdict.{DataVerdict}
use Rattle.unit_model.specs.Headings.{IsSoundHeading}
use Rattle.unit_model.specs.declared.heading.DataHeading.{DataHeading}
use Rattle.unit_model.specs.Judgements.{Commanded, Fragmented, Given, Judgement, Met, Turned, Unread}
use Rattle.unit_laws.specs.Sound.{IsSoundJudgement}
use Rattle.unit_laws.specs.Widths.{HasFragmentWidths, HasWidths}
use Rattle.drawn_laws.specs.Drawable.{IsShort}
use Rattle.explain_model.specs.Margins.{control_class, data_class_of}
use Rattle.explain_model.specs.Sections.{symbol_named}
use Rattle.explain_model.specs.Stories.{Story}
use Rattle.explain_model.specs.Timings.{control_timing, data_timing}
use Rattle.explain_model.specs.declared.data.DataRecord.{DataRecord}
use Rattle.explain_model.specs.declared.headers.BeginningRecord.{BeginningRecord}
use Rattle.explain_model.specs.declared.headers.HeaderRecord.{HeaderRecord}
use Rattle.explain_model.specs.declared.headers.HeaderWhy.{HeaderWhy}
use Rattle.explain_model.specs.declared.headers.HeaderWhy.TheVariants.{Refused, WrongWay}
use Rattle.explain_model.specs.declared.headers.RepeatedRecord.{RepeatedRecord}
use Rattle.explain_model.specs.declared.sections.CommandRecord.{CommandRecord}
use Rattle.explain_model.specs.Fragments.{NumberedFragment, beginning_in, beginning_records, beginning_with, beginnings_after, first_named, fragment_in, fragments_alone, fragments_of_story, has_stood, is_of_another, repeated_after, repeated_in, repeated_records, repeated_with, stands_at_last, unit_fragments}
use Rattle.explain_model.specs.SilentReasons.{Kept, kept_of}
use Rattle.explain_model.specs.Records.{command_in, command_record, command_records, commands_of_story, data_in, data_of_story, data_record, data_records, header_in, header_records, header_with, headers_of_story, names_some}
use Rattle.drawn_laws.proofs.Judged.{IsFineStory, IsKnown}
use Rattle.drawn_laws.proofs.Lists.{all_both, all_chosen, all_flat, all_kept}
use Rattle.drawn_laws.proofs.Near.{command_distance, control_near, distance_short, data_near}
use Rattle.drawn_laws.proofs.Standing.{IsSmall, grown_few}
use Rattle.schedule_laws.proofs.SlotRunLemmas.{both_all as both_hold}

pub record IsShortData (r : DataRecord) : Type 0 where
  pub section : IsShort r.section
  pub number : IsShort r.number
  pub distance : IsShort r.distance

pub record IsShortCommand (r : CommandRecord) : Type 0 where
  pub number : IsShort r.number
  pub distance : IsShort r.distance

pub record IsShortRepeated (r : RepeatedRecord) : Type 0 where
  pub seq : IsShort r.seq
  pub number : IsShort r.number

pub record IsShortBegun (r : BeginningRecord) : Type 0 where
  pub seq : IsShort r.seq
  pub pieces : IsShort r.pieces
  pub number : IsShort r.number

abbrev pub IsShortHeader : HeaderRecord → Type 0
IsShortHeader r = IsShort r.number

pub record AreShort (all : Kept) : Type 0 where
  pub given : AllByRecursion IsShortData all.given
  pub commanded : AllByRecursion IsShortCommand all.commanded
  pub headers : AllByRecursion IsShortHeader all.headers
  pub repeated : AllByRecursion IsShortRepeated all.repeated
  pub begun : AllByRecursion IsShortBegun all.begun

-- ---- of a judgement

abbrev IsFineJudgement : List EndpointConfig → Side → Judgement → Type 0
IsFineJudgement es side j = IsSoundJudgement es j × HasWidths side j

fine_judgements : (es : List EndpointConfig) (s : Story) → IsFineStory es s → AllByRecursion (IsFineJudgement es s.side) s.judged
fine_judgements es s fine = both_hold (IsSoundJudgement es) (HasWidths s.side) s.judged fine.sound fine.widths

section_short : (side : Side) (d : Delays) (number : ℕ) (h : DataHeading) (v : DataVerdict) → IsWithinLimits d → IsShort number → IsSoundHeading h → h.section.id < 2 ^ 12
    → IsShortData (data_record side d number h v)
unfolding data_record
section_short side d number h v limits small is id = record {
  section = omega (arith, id);
  number = omega (arith, small);
  distance = distance_short (data_class_of v) (data_timing side d h) (data_near side d h limits is);
}

command_short : (es : List EndpointConfig) (d : Delays) (number : ℕ) (s : ControlSection) (v : CommandVerdict) → IsWithinLimits d → IsShort number → IsProperCommand es s
    → IsShortCommand (command_record d number s v)
unfolding command_record
command_short es d number s v limits small is = record {
  number = omega (arith, small);
  distance = command_distance (control_class v) (control_timing d s) (control_near es d s limits is);
}

named_short : (side : Side) (number ep : ℕ) (why : HeaderWhy) (o : Option (Slot × ℕ)) → IsShort number → AllByRecursion IsShortHeader (header_with side number ep why o)
named_short side number ep why None small = tt
named_short side number ep why (Some (slot, symbol)) small = (omega (arith, small), tt)

module _ (es : List EndpointConfig) (d : Delays) (limits : IsWithinLimits d) (side : Side) (number : ℕ) (small : IsShort number) where
  data_of : (j : Judgement) → IsFineJudgement es side j → AllByRecursion IsShortData (data_in side d number j)
  data_of (Met m) h = tt
  data_of (Commanded s v) h = tt
  data_of (Fragmented e f v) h = tt
  data_of (Unread ep e m why) h = tt
  data_of (Turned ep e m) h = tt
  data_of (Given heading v) h = (section_short side d number heading v limits small h.0.1 h.1, tt)

  command_of : (j : Judgement) → IsFineJudgement es side j → AllByRecursion IsShortCommand (command_in d number j)
  command_of (Met m) h = tt
  command_of (Commanded s v) h = all_chosen IsShortCommand (names_some s) (command_record d number s v ∷ []) [] (command_short es d number s v limits small h.0, tt) tt
  command_of (Fragmented e f v) h = tt
  command_of (Unread ep e m why) h = tt
  command_of (Turned ep e m) h = tt
  command_of (Given heading v) h = tt

  header_of_one : (j : Judgement) → AllByRecursion IsShortHeader (header_in side number j)
  header_of_one (Met m) = tt
  header_of_one (Commanded s v) = tt
  header_of_one (Fragmented e f v) = tt
  header_of_one (Unread ep e m why) = named_short side number ep Refused (symbol_named e.numerology (joined m.pieces) m.last) small
  header_of_one (Turned ep e m) = named_short side number ep WrongWay (symbol_named e.numerology (joined m.pieces) m.last) small
  header_of_one (Given heading v) = tt

-- ---- of all arrivals

module _ (c : Config) (known : IsKnown c) where
  story_data : (s : Story) → IsFineStory c.endpoints s → AllByRecursion IsShortData (data_of_story c.delays s)
  story_data s fine =
      all_flat IsShortData (IsFineJudgement c.endpoints s.side) (data_in s.side c.delays s.number) (data_of c.endpoints c.delays known.limits s.side s.number fine.number) s.judged
      (fine_judgements c.endpoints s fine)

  story_commands : (s : Story) → IsFineStory c.endpoints s → AllByRecursion IsShortCommand (commands_of_story c.delays s)
  story_commands s fine =
      all_flat IsShortCommand (IsFineJudgement c.endpoints s.side) (command_in c.delays s.number) (command_of c.endpoints c.delays known.limits s.side s.number fine.number) s.judged
      (fine_judgements c.endpoints s fine)

  story_headers : (s : Story) → IsFineStory c.endpoints s → AllByRecursion IsShortHeader (headers_of_story s)
  story_headers s fine =
      all_flat IsShortHeader (IsFineJudgement c.endpoints s.side) (header_in s.side s.number) (λ j h. header_of_one c.endpoints c.delays known.limits s.side s.number fine.number j) s.judged
      (fine_judgements c.endpoints s fine)

  all_data : (ss : List Story) → AllByRecursion (IsFineStory c.endpoints) ss → AllByRecursion IsShortData (data_records c ss)
  unfolding data_records
  all_data ss h = all_flat IsShortData (IsFineStory c.endpoints) (data_of_story c.delays) story_data ss h

  all_commands : (ss : List Story) → AllByRecursion (IsFineStory c.endpoints) ss → AllByRecursion IsShortCommand (command_records c ss)
  unfolding command_records
  all_commands ss h = all_flat IsShortCommand (IsFineStory c.endpoints) (commands_of_story c.delays) story_commands ss h

  all_headers : (ss : List Story) → AllByRecursion (IsFineStory c.endpoints) ss → AllByRecursion IsShortHeader (header_records ss)
  unfolding header_records
  all_headers ss h = all_flat IsShortHeader (IsFineStory c.endpoints) headers_of_story story_headers ss h

-- ---- fragments

pub record IsFineFragment (x : NumberedFragment) : Type 0 where
  pub number : IsShort x.number
  pub widths : HasFragmentWidths x.fragment

fragment_fine : (es : List EndpointConfig) (side : Side) (number : ℕ) → IsShort number → (j : Judgement) → IsFineJudgement es side j → AllByRecursion IsFineFragment (fragment_in number j)
fragment_fine es side number small (Met m) h = tt
fragment_fine es side number small (Commanded s v) h = tt
fragment_fine es side number small (Fragmented e f v) h = (record { number = small; widths = h.1 }, tt)
fragment_fine es side number small (Unread ep e m why) h = tt
fragment_fine es side number small (Turned ep e m) h = tt
fragment_fine es side number small (Given heading v) h = tt

story_fragments : (es : List EndpointConfig) (s : Story) → IsFineStory es s → AllByRecursion IsFineFragment (fragments_of_story s)
story_fragments es s fine =
    all_flat IsFineFragment (IsFineJudgement es s.side) (fragment_in s.number) (fragment_fine es s.side s.number fine.number) s.judged (fine_judgements es s fine)

all_fragments : (es : List EndpointConfig) (side : Side) (ss : List Story) → AllByRecursion (IsFineStory es) ss → AllByRecursion IsFineFragment (unit_fragments side ss)
unfolding unit_fragments
all_fragments es side ss h =
    all_flat IsFineFragment (IsFineStory es) fragments_of_story (story_fragments es) (filter (λ s. same_side s.side side) ss)
    (all_kept (IsFineStory es) (λ s. same_side s.side side) ss h)

repeated_named : (side : Side) (x : NumberedFragment) (o : Option (Slot × ℕ)) → IsFineFragment x → AllByRecursion IsShortRepeated (repeated_with side x o)
repeated_named side x None fine = tt
repeated_named side x (Some (slot, symbol)) fine =
    let seq = fine.widths.seq in
    let small = fine.number in
    (record { seq = omega (arith, seq); number = omega (arith, small) }, tt)

all_repeated : (side : Side) (hold : ℤ) (earlier : List Fragment) (xs : List NumberedFragment) → AllByRecursion IsFineFragment xs → AllByRecursion IsShortRepeated (repeated_after side hold earlier xs)
unfolding repeated_after
all_repeated side hold earlier [] h = tt
all_repeated side hold earlier (x ∷ later) h =
    all_both IsShortRepeated (repeated_in side hold earlier x) (repeated_after side hold (x.fragment ∷ earlier) later)
    (all_chosen IsShortRepeated (is_of_another hold earlier x) (repeated_with side x (first_named side x.endpoint x.fragment)) []
    (repeated_named side x (first_named side x.endpoint x.fragment) h.0) tt)
    (all_repeated side hold (x.fragment ∷ earlier) later h.1)

-- ---- generations that never become whole

begun_named : (side : Side) (x : NumberedFragment) (stood : List Fragment) (o : Option (Slot × ℕ)) → IsFineFragment x → length stood ≤ 128 → AllByRecursion IsShortBegun (beginning_with side x stood o)
begun_named side x stood None fine most = tt
begun_named side x stood (Some (slot, symbol)) fine most =
    let seq = fine.widths.seq in
    let small = fine.number in
    (record { seq = omega (arith, seq); pieces = omega (arith, most); number = omega (arith, small) }, tt)

alone_small : (xs : List NumberedFragment) → AllByRecursion IsFineFragment xs → AllByRecursion IsSmall (fragments_alone xs)
alone_small [] h = tt
alone_small (x ∷ xs) h = (h.0.widths.sub, alone_small xs h.1)

stood_few : (hold : ℤ) (earlier : List Fragment) (x : NumberedFragment) (later : List NumberedFragment) → AllByRecursion IsSmall earlier → IsFineFragment x → AllByRecursion IsFineFragment later
    → length (stands_at_last hold earlier x later) ≤ 128
unfolding stands_at_last
stood_few hold earlier x later h fine k = grown_few hold earlier x.fragment (fragments_alone later) h fine.widths.sub (alone_small later k)

begun_one : (side : Side) (hold : ℤ) (earlier : List Fragment) (x : NumberedFragment) (later : List NumberedFragment) → AllByRecursion IsSmall earlier → IsFineFragment x
    → AllByRecursion IsFineFragment later → AllByRecursion IsShortBegun (beginning_in side hold earlier x later)
begun_one side hold earlier x later h fine k =
    let stood = stands_at_last hold earlier x later in
    all_chosen IsShortBegun (has_stood x.verdict && not (is_whole stood)) (beginning_with side x stood (first_named side x.endpoint x.fragment)) []
    (begun_named side x stood (first_named side x.endpoint x.fragment) fine (stood_few hold earlier x later h fine k)) tt

all_begun : (side : Side) (hold : ℤ) (earlier : List Fragment) (xs : List NumberedFragment) → AllByRecursion IsSmall earlier → AllByRecursion IsFineFragment xs
    → AllByRecursion IsShortBegun (beginnings_after side hold earlier xs)
unfolding beginnings_after
all_begun side hold earlier [] h k = tt
all_begun side hold earlier (x ∷ later) h k =
    all_both IsShortBegun (beginning_in side hold earlier x later) (beginnings_after side hold (x.fragment ∷ earlier) later)
    (begun_one side hold earlier x later h k.0 k.1) (all_begun side hold (x.fragment ∷ earlier) later (k.0.widths.sub, h) k.1)

module _ (c : Config) (ss : List Story) (fine : AllByRecursion (IsFineStory c.endpoints) ss) where
  both_repeated : AllByRecursion IsShortRepeated (repeated_records c ss)
  unfolding repeated_records
  both_repeated =
      all_both IsShortRepeated _ _ (all_repeated Ru (hold_of Ru c.delays) [] (unit_fragments Ru ss) (all_fragments c.endpoints Ru ss fine))
      (all_repeated Du (hold_of Du c.delays) [] (unit_fragments Du ss) (all_fragments c.endpoints Du ss fine))

  both_begun : AllByRecursion IsShortBegun (beginning_records c ss)
  unfolding beginning_records
  both_begun =
      all_both IsShortBegun _ _ (all_begun Ru (hold_of Ru c.delays) [] (unit_fragments Ru ss) tt (all_fragments c.endpoints Ru ss fine))
      (all_begun Du (hold_of Du c.delays) [] (unit_fragments Du ss) tt (all_fragments c.endpoints Du ss fine))

pub kept_short : (c : Config) (ss : List Story) → IsKnown c → AllByRecursion (IsFineStory c.endpoints) ss → AreShort (kept_of c ss)
kept_short c ss known fine = record {
  given = all_data c known ss fine;
  commanded = all_commands c known ss fine;
  headers = all_headers c known ss fine;
  repeated = both_repeated c ss fine;
  begun = both_begun c ss fine;
}
