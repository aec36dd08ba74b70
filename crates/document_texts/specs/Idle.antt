-- When the endpoints of a document are idle, and the document with the plan lines that are proposed (this project's profile).
use Rattle.std.specs.Prelude.{◌≡◌, ◌≢◌, ℕ, ◌≤◌, List, ◌++◌}
use Rattle.air_source.specs.declared.events.AirCell.{AirCell}
use Rattle.air_source.specs.declared.events.Side.TheVariants.{Ru}
use Rattle.window_config.specs.declared.endpoints.EndpointConfig.{EndpointConfig}
use Rattle.window_config.specs.declared.plan.PlanLine.{PlanLine}
use Rattle.plan_model.specs.Valid.{IsValid}
use Rattle.schedule_laws.specs.Cells.{planned_air}
use Rattle.replay_laws.specs.Moments.{end_of_time}
use Rattle.fh_document.specs.Lines.{line_of, reached}
use Rattle.fh_document.specs.PlanLines.{planned}
use Rattle.fh_document.specs.Proper.{IsDocument}
use Rattle.fh_document.specs.Steps.{Said}
use Rattle.fh_document.specs.declared.document.Document.{Document}
use Rattle.fh_document.specs.Joined.{spaced}
use Rattle.fh_document.specs.LineWords.{plan_words}
use Rattle.document_traffic.specs.Sending.{lines_of}
use Rattle.document_traffic.specs.Undisturbed.{IsUndisturbed, blocks_for, told_for}
use Rattle.document_traffic.specs.Replayed.{traffic_of}
use Rattle.fronthaul_replay.specs.Replaying.{events_of}
use Rattle.idle_spans.specs.Tables.{AreFrames, cells_of}
use Rattle.idle_laws.specs.Spans.{AreSpans}
use Rattle.idle_text.specs.Proposed.{proposed}
use Rattle.idle_text.specs.Text.{idle_text}
use Rattle.fh_base.specs.Members.{IsIn}

-- the cells that a document's replay reports
abbrev pub cells_for : Document → List AirCell
cells_for d = cells_of (events_of d)

-- the text of a document: the listed spans of each endpoint in some frames, of at least so many symbols, and the lines for its free slots
abbrev pub document_idle : Document → ℕ → ℕ → ℕ → List ℕ
document_idle d first last min = idle_text d.config.endpoints d.plan first last min (cells_for d)

-- those lines
abbrev pub proposed_for : Document → ℕ → ℕ → ℕ → List PlanLine
proposed_for d first last min = proposed d.config.endpoints first last (cells_for d) min d.plan

-- the document with lines of these numbers after its plan
abbrev pub enlarged : Document → List PlanLine → List ℕ → Document
enlarged d lines numbers = record d { plan = d.plan ++ lines; plan_lines = d.plan_lines ++ numbers }

-- where nothing disturbs a document, its radio unit reports, cell for cell and in order, what this one's plan says with this one's samples
abbrev pub RadiatesAs : Document → Document → Type 0
RadiatesAs d e = IsUndisturbed e → told_for Ru e (traffic_of e) ≡ planned_air d.config (blocks_for d) (lines_of d) end_of_time

-- what holds of the text
pub record IsIdle (d : Document) (first last min : ℕ) : Type 0 where
  -- a listed span holds no radiated element, and no longer one around it does without
  pub spans : (e : EndpointConfig) → AreSpans e first last (cells_for d) min
  -- the plan with the proposed lines after it is valid
  pub valid : IsValid d.config (d.plan ++ proposed_for d first last min)
  -- each of them is read as the line that it is
  pub read : (r : Said) (n : ℕ) (line : PlanLine) → n ≢ 1 → reached r ≤ 2 → IsIn line (proposed_for d first last min) → line_of r n (spaced (plan_words line)) ≡ planned r n line
  -- the added lines name idle elements only: cells and blocks are those of the document
  pub enlarged : (numbers : List ℕ) → IsDocument (enlarged d (proposed_for d first last min) numbers) → RadiatesAs d (enlarged d (proposed_for d first last min) numbers)
