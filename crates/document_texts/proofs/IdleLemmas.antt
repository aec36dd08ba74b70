-- What holds of the text of a document.
use Rattle.std.proofs.Common.{◌≡◌, ℕ, List, [], ◌++◌, refl, sym, ap, ◌∙◌}
use Rattle.air_source.specs.declared.events.AirCell.{AirCell}
use Rattle.window_config.specs.declared.config.Config.{Config}
use Rattle.plan_model.specs.Lines.{planned}
use Rattle.plan_model.specs.Valid.{IsValid}
use Rattle.plan_model.specs.declared.lines.PlannedLine.{PlannedLine}
use Rattle.schedule_laws.specs.Cells.{planned_air}
use Rattle.replay_laws.specs.Moments.{end_of_time}
use Rattle.fh_document.specs.Proper.{IsDocument}
use Rattle.fh_document.specs.declared.document.Document.{Document}
use Rattle.document_traffic.specs.Sending.{lines_of}
use Rattle.document_traffic.specs.Undisturbed.{IsUndisturbed, blocks_for}
use Rattle.fronthaul_replay.specs.Replaying.{events_of}
use Rattle.fronthaul_replay.proofs.LawLemmas.{is_sound}
use Rattle.idle_laws.proofs.Radiating.{radiate_nothing}
use Rattle.idle_spans.specs.Tables.{AreFrames, Marks, SpansValue, Stands, cells_of}
use Rattle.idle_spans.proofs.TableLemmas.{spans_stand as marks_stand}
use Rattle.idle_laws.proofs.ReadLemmas.{are_proposed_read}
use Rattle.idle_laws.proofs.SpanLemmas.{spans_stand}
use Rattle.idle_laws.proofs.ValidLemmas.{are_proposed_valid, proposed_followed}
use Rattle.document_texts.specs.Idle.{IsIdle, RadiatesAs, cells_for, enlarged, proposed_for}

-- the spans stand for the cells of the events that they heard
pub heard_stands : (old new : SpansValue) (d : Document) (first last : ℕ) → Stands old d.config first last [] → Marks old new (cells_of (events_of d)) → Stands new d.config first last (cells_for d)
heard_stands old new d first last stands marks = marks_stand old new d.config first last [] (cells_for d) stands marks

radiates_as : (d : Document) (first last min : ℕ) (numbers : List ℕ) → IsDocument d → IsValid d.config d.plan → IsDocument (enlarged d (proposed_for d first last min) numbers)
    → RadiatesAs d (enlarged d (proposed_for d first last min) numbers)
radiates_as d first last min numbers document valid more undisturbed =
    let e = enlarged d (proposed_for d first last min) numbers in
    let es = d.config.endpoints in
    let f = proposed_followed es first last (cells_for d) min d.plan in
    let sound = is_sound e (record { document = more; valid = are_proposed_valid d.config d.plan first last (cells_for d) min document.config valid }) in
    (sound.exactly_once undisturbed).cells
    ∙ ap (λ (ps : List PlannedLine). planned_air d.config (blocks_for d) ps end_of_time) f.is
    ∙ radiate_nothing d.config (blocks_for d) (planned es d.plan) f.idles end_of_time f.idle

pub is_idle : (d : Document) (first last min : ℕ) → IsDocument d → IsValid d.config d.plan → AreFrames first last → IsIdle d first last min
is_idle d first last min document valid frames = record {
  spans = λ e. spans_stand e first last (cells_for d) min;
  valid = are_proposed_valid d.config d.plan first last (cells_for d) min document.config valid;
  read = λ r n line later reached m. are_proposed_read d.config.endpoints d.plan first last (cells_for d) min document.ids frames r n line later reached m;
  enlarged = λ numbers more. radiates_as d first last min numbers document valid more;
}
