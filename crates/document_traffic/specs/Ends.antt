-- Nothing of a document occurs after the end of time (this project's profile).
use Rattle.std.specs.Prelude.{◌≡◌, ℤ, List, []}
use Rattle.air_source.specs.declared.events.Side.{Side}
use Rattle.air_source.specs.declared.events.Side.TheVariants.{Ru}
use Rattle.fh_document.specs.declared.document.Document.{Document}
use Rattle.document_traffic.specs.Landing.{jobs_for}
use Rattle.document_traffic.specs.Laws.{IsReplayable}
use Rattle.document_traffic.specs.Sending.{lines_of}
use Rattle.plan_model.specs.Lines.{uplink_allocations}
use Rattle.replay_laws.specs.Moments.{all_arrivals, end_of_time}
use Rattle.replay_laws.specs.Traffic.{known_at, reported_at}
use Rattle.unit_model.specs.Reports.{accepted_of}
use Rattle.unit_model.specs.Standing.{due, still_given}
use Rattle.unit_model.specs.declared.allocations.Allocation.{Allocation}
use Rattle.document_traffic.specs.Replayed.{landings_for}

abbrev pub planned_of : Document → List Allocation
planned_of d = uplink_allocations (lines_of d)

-- once each unit has reported its cells up to the end of time, and the radio unit has given its messages up to it, none is due up to any
-- time
pub record IsOver (d : Document) : Type 0 where
  pub cells : (side : Side) (to : ℤ)
      → due side d.config.delays d.config.endpoints (known_at side d.config (planned_of d) (all_arrivals (landings_for side d)))
      (reported_at side d.config (planned_of d) (all_arrivals (landings_for side d)) end_of_time) to ≡ []
  pub messages : (to : ℤ) → still_given d.config (accepted_of d.config (all_arrivals (landings_for Ru d))) (jobs_for d) to ≡ []

abbrev pub DocumentsAreOver : Type 0
DocumentsAreOver = (d : Document) → IsReplayable d → IsOver d
