-- The frames that a document's plan sends to the radio unit, one after the other, as lines tell them (this project's profile; the fields
-- are those of O-RAN.WG4.CUS, eCPRI transport header and application headers).
use Rattle.std.specs.Prelude.{ℕ, ℤ, List, [], ◌∷◌, length, slice_index}
use Rattle.air_source.specs.declared.events.Side.TheVariants.{Ru}
use Rattle.fh_document.specs.declared.document.Document.{Document}
use Rattle.frame_ways.specs.Copies.{copies_of}
use Rattle.plan_model.specs.Sent.{SentFrame}
use Rattle.sent_frames.specs.Frames.{fragment_field, sent_bytes}
use Rattle.document_traffic.specs.Sending.{SentCounts, class_of, count_of, counted, none_sent, sent_for, source_for}
use Rattle.document_texts.specs.declared.lines.FrameLine.{FrameLine}

-- a frame that is sent: what its line tells, its bytes, and how many nanoseconds each of its copies is on its way; it is lost where there
-- is none
pub record SentRow : Type 0 where
  pub line : FrameLine
  pub frame : List ℕ
  pub copies : List ℤ

-- the bytes of a frame
abbrev pub frame_for : Document → SentFrame → List ℕ
frame_for d f = sent_bytes d.config (source_for d) f

-- what is told of a frame that has this number in its class: slot, symbol, plan line and kind are those of its message's first section
abbrev pub line_for : Document → ℕ → SentFrame → FrameLine
line_for d number f = record {
  class = class_of f.stream;
  number = number;
  at = record { 0 = f.at };
  id = f.endpoint.id;
  slot = f.message.first.planned.line.slot;
  symbol = f.message.first.symbol;
  line = slice_index d.plan_lines f.message.first.planned.index;
  field = fragment_field d.config f;
  bytes = length (frame_for d f);
  kind = f.message.first.planned.line.kind;
}

-- the copies of a frame that has this number in its class
abbrev pub copies_for : Document → ℕ → SentFrame → List ℤ
copies_for d number f = copies_of d Ru (class_of f.stream) number

abbrev pub numbered_row : Document → ℕ → SentFrame → SentRow
numbered_row d number f = record { line = line_for d number f; frame = frame_for d f; copies = copies_for d number f }

-- the counts with a frame more
abbrev pub with_frame : SentFrame → SentCounts → SentCounts
with_frame f n = counted (class_of f.stream) n

-- the number of a frame, where so many of each class were sent with it and before it
abbrev pub number_of : SentFrame → SentCounts → ℕ
number_of f n = count_of (class_of f.stream) n

abbrev pub row_of : Document → SentCounts → SentFrame → SentRow
row_of d n f = numbered_row d (number_of f n) f

-- these frames, where so many were sent before them
unfoldable pub rows_behind : Document → SentCounts → List SentFrame → List SentRow
rows_behind d n [] = []
rows_behind d n (f ∷ fs) = row_of d (with_frame f n) f ∷ rows_behind d (with_frame f n) fs

-- all of them, in the order in which they are sent
abbrev pub rows_of : Document → List SentRow
rows_of d = rows_behind d none_sent (sent_for d)
