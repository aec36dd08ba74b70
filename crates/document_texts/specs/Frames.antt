-- A frame that is sent for a document, as the queue gives it (this project's means).
use Rattle.std.specs.Prelude.{◌≡◌, ℕ, ◌+◌, ◌%◌, ◌==◌, List, map, Some}
use Rattle.std.specs.List.{slice_get}
use Rattle.ecpri_fragments.specs.declared.sequence.SeqField.{SeqField}
use Rattle.window_config.specs.declared.endpoints.EndpointConfig.{EndpointConfig}
use Rattle.window_config.specs.declared.plan.PlanLine.{PlanLine}
use Rattle.fh_document.specs.Proper.{IsDocument}
use Rattle.fh_document.specs.declared.document.Document.{Document}
use Rattle.du_scheduler.specs.declared.turns.Turn.{Turn}
use Rattle.plan_model.specs.Packs.{Message, parts_of}
use Rattle.plan_model.specs.Sent.{SentFrame}
use Rattle.plan_model.specs.Streams.{Part}
use Rattle.plan_model.specs.Valid.{IsValid}
use Rattle.du_scheduler.specs.Kept.{placed_line}
use Rattle.du_scheduler.specs.Tables.{IsTable}
use Rattle.du_scheduler.specs.declared.kept.PlacedLine.{PlacedLine}
use Rattle.du_scheduler.specs.declared.tables.Table.{Table}
use Rattle.du_scheduler.specs.Runs.{turn_of}
use Rattle.document_traffic.specs.Sending.{lines_of, sent_for}
use Rattle.fh_base.specs.Members.{IsIn}

-- the sequence field of a turn's frame, where so many carry its message
abbrev pub turn_field : Turn → ℕ → SeqField
turn_field t frames = record { seq = t.number % 256; last = t.sub + 1 == frames; sub = t.sub }

-- this is the turn of this frame, which is sent for the document
pub record IsTurnFor (d : Document) (f : SentFrame) (t : Turn) : Type 0 where
  pub document : IsDocument d
  pub valid : IsValid d.config d.plan
  pub there : IsIn f (sent_for d)
  pub is : t ≡ turn_of f

-- and these are the parts of its message
pub record IsFrameOf (d : Document) (f : SentFrame) (parts : List PlacedLine) (t : Turn) : Type 0 where
  pub turn : IsTurnFor d f t
  pub parts_are : parts ≡ map placed_line (parts_of f.message)

-- the part's line is at its place in a plan, and is of this endpoint
pub record StandsIn (plan : List PlanLine) (e : EndpointConfig) (x : Part) : Type 0 where
  pub line : slice_get plan x.planned.index ≡ Some x.planned.line
  pub endpoint : x.planned.endpoint ≡ e

-- and so does each part of a message; these are their places
pub record IsPlaced (plan : List PlanLine) (e : EndpointConfig) (parts : List PlacedLine) (m : Message Part) : Type 0 where
  pub are : parts ≡ map placed_line (parts_of m)
  pub each : (x : Part) → IsIn x (parts_of m) → StandsIn plan e x

-- the table is of the document's plan, and this is the turn of one of its frames
pub record IsTabled (d : Document) (table : Table) (t : Turn) : Type 0 where
  pub frame : SentFrame
  pub turn : IsTurnFor d frame t
  pub table_is : IsTable d.config (lines_of d) table
