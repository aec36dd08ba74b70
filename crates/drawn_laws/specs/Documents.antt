-- The documents whose explanations have pictures.
use Rattle.std.specs.Prelude.{◌≡◌, ℕ, ◌≤◌, false, List, length, Ok}
use Rattle.std.specs.List.{AllByRecursion}
use Rattle.document_traffic.specs.Laws.{IsReplayable}
use Rattle.drawn_laws.specs.Events.{AreDrawnEvents}
use Rattle.drawn_laws.specs.Drawable.{IsShort}
use Rattle.drawn_laws.specs.Laws.{HasPictures}
use Rattle.explain_model.specs.Stories.{arrival_count}
use Rattle.document_texts.specs.Text.{HasFewFrames, explanation}
use Rattle.fh_base.specs.declared.source.TheConstants.{INPUT_LIMIT}
use Rattle.fh_document.specs.Document.{document_of}
use Rattle.fh_document.specs.declared.document.Document.{Document}
use Rattle.fronthaul_replay.specs.Replaying.{events_of}
use Rattle.plan_model.specs.Valid.{IsValid}
use Rattle.fh_document.specs.Written.{IsSpaced}

-- the number of all arrivals at both units has at most 16 digits: `explain` numbers them in 32 bits, and writes no whole text of more
abbrev pub IsNumbered : Document → Type 0
IsNumbered d = IsShort (arrival_count (events_of d))

-- a document with a valid plan, as a text says it
pub record IsExplainable (d : Document) : Type 0 where
  pub replayable : IsReplayable d
  pub spaced : AllByRecursion IsSpaced d.config.endpoints
  pub numbers : AllByRecursion IsShort d.plan_lines
  pub numbered : IsNumbered d

abbrev pub EventsAreDrawn : Type 0
EventsAreDrawn = (d : Document) → IsReplayable d → IsNumbered d → AreDrawnEvents d.config (events_of d)

-- the complete text has both pictures
abbrev pub DocumentsAreDrawn : Type 0
DocumentsAreDrawn = (d : Document) → IsExplainable d → HasPictures (explanation false d)

-- of each text that says a document, within the limit of what is read
abbrev pub ReadAreDrawn : Type 0
ReadAreDrawn = (text : List ℕ) (d : Document) → length text ≤ INPUT_LIMIT → document_of text ≡ Ok d → IsValid d.config d.plan → IsNumbered d → HasPictures (explanation false d)

-- and so is what `explain` writes of it: the last premise is what its answer Ok says
abbrev pub WrittenAreDrawn : Type 0
WrittenAreDrawn = (text : List ℕ) (d : Document) → length text ≤ INPUT_LIMIT → document_of text ≡ Ok d → IsValid d.config d.plan → HasFewFrames d → HasPictures (explanation false d)
