-- Exactly once, with the frames of delay measurement among those that land.
use Rattle.document_traffic.specs.Laws.{IsReplayable}
use Rattle.document_traffic.specs.Undisturbed.{IsTakenInOnce, IsUndisturbed, IsUndisturbedBothWays, RadiatesOnce}
use Rattle.fh_document.specs.declared.document.Document.{Document}
use Rattle.document_traffic.specs.Replayed.{traffic_of}

-- where nothing disturbs its schedule, each scheduled element radiates once, with its samples, whatever is measured
abbrev pub ScheduleRadiatesOnce : Type 0
ScheduleRadiatesOnce = (d : Document) → IsReplayable d → IsUndisturbed d → RadiatesOnce d (traffic_of d)

-- where nothing disturbs it either way, each planned uplink element is taken in once, with the antenna's samples
abbrev pub UplinkIsTakenInOnce : Type 0
UplinkIsTakenInOnce = (d : Document) → IsReplayable d → IsUndisturbedBothWays d → IsTakenInOnce d (traffic_of d)
