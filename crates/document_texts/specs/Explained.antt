-- What holds of the explanation of every document (this project's profile).
use Rattle.explain_model.specs.Subjects.{reasons_of}
use Rattle.explain_laws.specs.Delays.{ResultsAreLines}
use Rattle.explain_laws.specs.Explained.{IsExplained}
use Rattle.document_texts.specs.Reasons.{AreOfDecoded, TellsReasons}
use Rattle.document_texts.specs.Text.{subject_of}
use Rattle.fh_document.specs.declared.document.Document.{Document}
use Rattle.fronthaul_replay.specs.Replaying.{events_of}
use Rattle.document_traffic.specs.Replayed.{traffic_of}

-- each judged thing has one line, each counter is the number of lines with its word, the sign of a distance is the class, runs are maximal,
-- and the text of the faults is of the same lines; the lines of delays are the results of the measurements; each missing cell, silent element
-- and unused block has its reason, and the reasons are of what both units decoded
pub record IsExplainedDocument (d : Document) : Type 0 where
  pub lines : IsExplained d.config (traffic_of d) (reasons_of (subject_of d) (events_of d))
  pub results : ResultsAreLines d
  pub reasons : TellsReasons d
  pub records : AreOfDecoded d
