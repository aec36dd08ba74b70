-- The text that lists what a document's plan sends to the radio unit (this project's profile).
use Rattle.std.specs.Prelude.{ℕ, List, ◌++◌, codes}
use Rattle.std.specs.List.{flat_map}
use Rattle.fh_document.specs.declared.document.Document.{Document}
use Rattle.document_texts.specs.SentLines.{frame_line_text}
use Rattle.document_texts.specs.Rows.{SentRow, rows_of}

abbrev pub row_text : SentRow → List ℕ
row_text r = frame_line_text r.line r.copies

abbrev pub end_text : List ℕ
end_text = codes "end\n"

-- a line for each frame, in the order in which they are sent, and the last line
unfoldable pub sent_text : Document → List ℕ
sent_text d = flat_map row_text (rows_of d) ++ end_text
