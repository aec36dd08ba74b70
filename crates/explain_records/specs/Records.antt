-- The records of what both units heard (this project's profile).
use Rattle.std.specs.Prelude.{◌≡◌, ℕ, ℤ, List, [], ◌∷◌, ◌++◌, filter, map}
use Rattle.air_source.specs.Units.{same_side}
use Rattle.air_source.specs.declared.events.Side.{Side}
use Rattle.air_source.specs.declared.events.Side.TheVariants.{Ru, Du}
use Rattle.ecpri_fragments.specs.Generations.{Fragment}
use Rattle.ecpri_fragments.specs.Verdicts.{verdict_on}
use Rattle.explain_heard.specs.Heard.{all_heard}
use Rattle.explain_heard.specs.Judged.{all_judged}
use Rattle.explain_heard.specs.declared.judged.Judged.{Judged}
use Rattle.explain_model.specs.Stories.{Story}
use Rattle.explain_model.specs.Fragments.{unit_fragments}
use Rattle.explain_model.specs.Records.{command_records, data_records, header_records}
use Rattle.explain_model.specs.SilentReasons.{Kept}
use Rattle.explain_records.specs.Recorded.{backwards}
use Rattle.explain_records.specs.Units.{AreRecordsOf}
use Rattle.explain_records.specs.declared.heard_records.HeardRecords.{HeardRecords}
use Rattle.explain_records.specs.Steps.{FragmentsNext, kept_next}
use Rattle.unit_model.specs.Judgements.{Judgement, Fragmented}
use Rattle.fh_base.specs.Lists.{onto}
use Rattle.unit_model.specs.Meetings.{Arrival, fragments}
use Rattle.unit_model.specs.Reports.{hold_of, met}
use Rattle.window_config.specs.declared.config.Config.{Config}
use Rattle.window_config.specs.declared.endpoints.EndpointConfig.{EndpointConfig}

-- ---- stories

-- the arrivals at a unit, the newest first
abbrev pub unit_arrivals : Side → List Story → List Arrival
unit_arrivals side ss = onto [] (map (λ s. s.arrival) (filter (λ s. same_side s.side side) ss))

-- ---- what is kept of them

-- the records of sections and of messages that were not decoded, by their judgements
abbrev pub section_records : Config → List Story → Kept
section_records c ss =
    record { given = data_records c ss; commanded = command_records c ss; headers = header_records ss; repeated = []; begun = [] }

pub record HaveKept (c : Config) (ss : List Story) (r : HeardRecords) : Type 0 where
  pub kept_is : r.kept ≡ section_records c ss
  pub ru_is : AreRecordsOf Ru (hold_of Ru c.delays) (unit_fragments Ru ss) r.ru
  pub du_is : AreRecordsOf Du (hold_of Du c.delays) (unit_fragments Du ss) r.du

-- and these stories tell of all fragments that were received at their units
pub record HaveHeard (c : Config) (ss : List Story) (r : HeardRecords) : Type 0 where
  pub kept : HaveKept c ss r
  pub fragments_are : (side : Side) → backwards (unit_fragments side ss) ≡ fragments (met side c (unit_arrivals side ss))

-- ---- a story, judgement by judgement

-- the fragments with one more judgement, the newest first
abbrev pub entered : List Fragment → Judgement → List Fragment
entered fs (Fragmented e f v) = f ∷ fs
entered fs j = fs

-- the verdict on a fragment is that of its unit, where these were received before
abbrev pub IsVerdict : ℤ → List Fragment → Judgement → Type 0
IsVerdict hold fs (Fragmented e f v) = v ≡ verdict_on hold f fs
IsVerdict hold fs j = Unit {0}

abbrev pub AreVerdicts : ℤ → List Fragment → List Judgement → Type 0
AreVerdicts hold fs [] = Unit {0}
AreVerdicts hold fs (j ∷ js) = IsVerdict hold fs j × AreVerdicts hold (entered fs j) js

-- with these judgements alone
abbrev pub with_judged : Story → List Judgement → Story
with_judged s js = record { number = s.number; side = s.side; arrival = s.arrival; refusal = s.refusal; judged = js }

-- kept are the first of a story's judgements, and these are still to follow
pub record SoFar (c : Config) (es : List EndpointConfig) (ss : List Story) (s : Story) (left : List Judged) (r : HeardRecords) : Type 0 where
  pub done : List Judgement
  pub rest : List Judgement
  pub all : s.judged ≡ done ++ rest
  pub left_is : left ≡ all_judged s.side c.delays (all_heard s.side es rest)
  pub kept : HaveKept c (ss ++ with_judged s done ∷ []) r
  pub verdicts : AreVerdicts (hold_of s.side c.delays) (backwards (unit_fragments s.side (ss ++ with_judged s done ∷ []))) rest

-- what a call leaves
pub record Takes (side : Side) (number : ℕ) (j : Judged) (old new : HeardRecords) : Type 0 where
  pub kept : new.kept ≡ kept_next side number j old.kept
  pub ru : FragmentsNext Ru side number j old.ru new.ru
  pub du : FragmentsNext Du side number j old.du new.du
