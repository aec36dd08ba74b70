-- What holds of what lands for a document with a valid plan.
use Rattle.std.specs.Prelude.{◌<◌, ◌^◌, ◌≤ℤ◌, All, IsPermutation, length, map}
use Rattle.std.specs.List.{AllPairs}
use Rattle.air_source.specs.declared.events.Side.{Side}
use Rattle.fh_document.specs.Proper.{IsDocument}
use Rattle.fh_document.specs.declared.document.Document.{Document}
use Rattle.plan_model.specs.Valid.{IsValid}
use Rattle.replay_laws.specs.Passing.{AreLandings}
use Rattle.replay_laws.specs.Traffic.{landings_at}
use Rattle.window_config.specs.declared.endpoints.EndpointConfig.{EndpointConfig}
use Rattle.window_config.specs.declared.plan.PlanLine.{PlanLine}
use Rattle.document_traffic.specs.Landing.{handed_for, leaving_answer, leaving_to, leaving_up, planned_traffic}
use Rattle.document_traffic.specs.Sending.{Leaving}
use Rattle.document_traffic.specs.Undisturbed.{IsTakenInOnce, IsUndisturbed, IsUndisturbedBothWays, RadiatesOnce}

-- eAxC ids of 16 bits and a numPrb of 8, as in the types that hold them
pub record HasWidths (d : Document) : Type 0 where
  pub ids : All (λ (e : EndpointConfig). e.id < 2 ^ 16) d.config.endpoints
  pub num_prbs : All (λ (l : PlanLine). l.num_prb < 2 ^ 8) d.plan

-- all that lands at a unit has its time between the first clock and 1,099 s
abbrev pub PlannedLandingsAreReplayed : Type 0
PlannedLandingsAreReplayed = (d : Document) (side : Side) → IsDocument d → IsValid d.config d.plan → AreLandings (landings_at side (planned_traffic d))

-- where nothing disturbs its schedule, each scheduled element radiates once, with its samples
abbrev pub PlannedScheduleRadiatesOnce : Type 0
PlannedScheduleRadiatesOnce = (d : Document) → IsDocument d → HasWidths d → IsValid d.config d.plan → IsUndisturbed d → RadiatesOnce d (planned_traffic d)

-- where nothing disturbs it either way, each planned uplink element is taken in once, with the antenna's samples
abbrev pub PlannedUplinkIsTakenInOnce : Type 0
PlannedUplinkIsTakenInOnce = (d : Document) → IsDocument d → HasWidths d → IsValid d.config d.plan → IsUndisturbedBothWays d → IsTakenInOnce d (planned_traffic d)

-- frames leave for a unit in the order of time
abbrev pub LeavingAreInOrder : Type 0
LeavingAreInOrder = (d : Document) (side : Side) → AllPairs (λ f g. f.at ≤ℤ g.at) (leaving_to side d)

-- all frames that the radio unit hands over leave, each as often
abbrev pub AnswersAllLeave : Type 0
AnswersAllLeave = (d : Document) → IsDocument d → IsValid d.config d.plan → IsPermutation (map leaving_answer (handed_for d)) (leaving_up d)

-- each frame that leaves for a unit is shorter than 2 ^ 32 bytes, as an air takes it
abbrev pub LeavingAreShort : Type 0
LeavingAreShort = (d : Document) (side : Side) → IsDocument d → IsValid d.config d.plan → All (λ (f : Leaving). length f.frame < 2 ^ 32) (leaving_to side d)

-- a document that was read, with a valid plan
pub record IsReplayable (d : Document) : Type 0 where
  pub document : IsDocument d
  pub valid : IsValid d.config d.plan
