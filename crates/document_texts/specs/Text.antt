-- The explanation of a document (this project's profile).
use Rattle.std.specs.Prelude.{◌≡◌, ◌<◌, ◌^◌, ℕ, Bool, List, [], Option, Some}
use Rattle.explain_air.specs.Heard.{HasHeard}
use Rattle.explain_air.specs.declared.kept.Kept.{Kept}
use Rattle.explain_model.specs.Subjects.{Subject, reasons_of}
use Rattle.explain_model.specs.Stories.{arrival_count}
use Rattle.explain_model.specs.Text.{explain_of}
use Rattle.fh_document.specs.declared.document.Document.{Document}
use Rattle.fronthaul_replay.specs.Replaying.{events_of}

-- its configuration, its plan, and the numbers of the plan's lines
abbrev pub subject_of : Document → Subject
subject_of d = record { config = d.config; plan = d.plan; numbers = d.plan_lines }

-- all lines, or those of the text of the faults, of the events of the document
unfoldable pub explanation : Bool → Document → List ℕ
explanation faults d = explain_of faults d.config (reasons_of (subject_of d) (events_of d)) (events_of d)

-- fewer than 2 ^ 32 frames arrive at both units together, so that each frame's number has 32 bits
abbrev pub HasFewFrames : Document → Type 0
HasFewFrames d = arrival_count (events_of d) < 2 ^ 32

-- before any event
pub record IsFresh (s : Subject) (kept : Option Kept) : Type 0 where
  pub it : Kept
  pub is : kept ≡ Some it
  pub heard : HasHeard s [] it
