-- The texts of a document (this project's profile), each of all its events.
use Rattle.std.specs.Prelude.{ℕ, List}
use Rattle.fh_document.specs.declared.document.Document.{Document}
use Rattle.fronthaul_replay.specs.Replaying.{events_of}
use Rattle.report_airs.specs.Capture.{whole_capture}
use Rattle.report_airs.specs.Summary.{whole_summary}
use Rattle.report_airs.specs.Counts.{whole_counts}
use Rattle.report_airs.specs.Text.{whole_text}

-- the report of a document: the lines of its events, and `end`
unfoldable pub document_report : Document → List ℕ
document_report d = whole_text (events_of d)

-- the count lines of that report, and `end`
unfoldable pub document_counts : Document → List ℕ
document_counts d = whole_counts (events_of d)

-- the summary of a document: a line for each run of cells, the delays, the counters, and `end`
unfoldable pub summary_of : Document → List ℕ
summary_of d = whole_summary (events_of d)

-- the capture of a document: the magic, and a record for each frame that arrives
unfoldable pub capture_of : Document → List ℕ
capture_of d = whole_capture (events_of d)
