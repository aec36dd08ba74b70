-- Where nothing disturbs a document, nothing is missing and nothing is silent (this project's profile).
use Rattle.std.specs.Prelude.{◌≡◌, ℕ, List, []}
use Rattle.fh_document.specs.declared.document.Document.{Document}
use Rattle.replay_laws.specs.Events.{events}
use Rattle.replay_laws.specs.Traffic.{Traffic}
use Rattle.document_traffic.specs.Undisturbed.{IsTakenInOnce, RadiatesOnce}
use Rattle.explain_model.specs.Missing.{why_lines}
use Rattle.explain_model.specs.Silent.{silent_lines}

-- where each planned element radiates once and each is taken in once there is no line of why, whatever numbers the lines of the plan have
pub record HasNoWhy (d : Document) (t : Traffic) : Type 0 where
  pub silent : RadiatesOnce d t → (numbers : List ℕ) → silent_lines d.config d.plan numbers (events d.config t) ≡ []
  pub missing : RadiatesOnce d t → IsTakenInOnce d t → why_lines d.config (events d.config t) ≡ []

abbrev pub UndisturbedHasNoWhy : Type 0
UndisturbedHasNoWhy = (d : Document) (t : Traffic) → HasNoWhy d t
