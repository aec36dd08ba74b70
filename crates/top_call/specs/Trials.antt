-- What a trial replays, and what holds of it (this project's profile).
use Rattle.std.specs.Prelude.{◌≡◌, ℕ, Ok}
use Rattle.plan_model.specs.Valid.{IsValid}
use Rattle.fh_document.specs.Document.{document_of}
use Rattle.fh_document.specs.Generated.{generated}
use Rattle.generated_laws.specs.Documents.{document}
use Rattle.document_traffic.specs.Undisturbed.{IsTakenInOnce, RadiatesOnce}
use Rattle.document_traffic.specs.Replayed.{traffic_of}
use Rattle.fronthaul_replay.specs.Laws.{IsSound}
use Rattle.top_call.specs.Answers.{counted, of_document, of_planned, tried}

-- The text that `generate` writes of a seed and a number of slots is read as `document`, and its plan is valid; a trial's answer is what
-- the counters of the replay of that text are; the laws of a document's events hold of it; and each planned downlink element radiates once,
-- with its samples, and each planned uplink element is taken in once, with the antenna's.
pub record IsTrial (seed slots : ℕ) : Type 0 where
  pub read : document_of (generated seed slots) ≡ Ok (document seed slots)
  pub valid : IsValid (document seed slots).config (document seed slots).plan
  pub counts : of_document (of_planned counted) (document_of (generated seed slots)) ≡ tried seed slots
  pub sound : IsSound (document seed slots)
  pub radiates : RadiatesOnce (document seed slots) (traffic_of (document seed slots))
  pub taken_in : IsTakenInOnce (document seed slots) (traffic_of (document seed slots))
