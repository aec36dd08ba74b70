-- The explanation of a document has both pictures.
use Rattle.std.proofs.Common.{ℕ, ◌+◌, ◌^◌, ◌<◌, ◌≤◌, List, [], ◌∷◌, length, false, arith}
use Rattle.std.specs.List.{AllByRecursion}
use Rattle.std.proofs.lemmas.List.Elements.{recursion_from_All}
use Rattle.air_source.specs.declared.events.Side.TheVariants.{Du, Ru}
use Rattle.window_config.specs.declared.endpoints.EndpointConfig.{EndpointConfig}
use Rattle.fh_document.specs.declared.document.Document.{Document}
use Rattle.fh_document.proofs.Properness.{proper}
use Rattle.document_traffic.specs.Laws.{IsReplayable}
use Rattle.document_traffic.specs.Sending.{lines_of}
use Rattle.document_traffic.proofs.LineLemmas.{lines_fit}
use Rattle.document_traffic.specs.Replayed.{traffic_of}
use Rattle.document_traffic.proofs.ReplayedLemmas.{landings_are_replayed}
use Rattle.fronthaul_replay.specs.Replaying.{events_of}
use Rattle.explain_model.specs.Subjects.{reasons_of}
use Rattle.explain_model.specs.Stories.{arrival_count}
use Rattle.explain_model.specs.Text.{explain_of, explained}
use Rattle.document_texts.specs.Text.{HasFewFrames, explanation, subject_of}
use Rattle.drawn_laws.specs.Drawable.{IsShort}
use Rattle.drawn_laws.proofs.Drawn.{drawable_are_drawn}
use Rattle.drawn_laws.specs.Events.{IsDrawnSubject, IsNamed, IsPlacedLine}
use Rattle.drawn_laws.proofs.Drawable.{events_are_drawable}
use Rattle.drawn_laws.proofs.Replays.{replays_are_drawn}
use Rattle.fh_document.specs.Written.{IsSpaced}
use Rattle.fh_document.proofs.WrittenLemmas.{documents_are_written}
use Rattle.drawn_laws.specs.Documents.{DocumentsAreDrawn, EventsAreDrawn, IsExplainable, IsNumbered, ReadAreDrawn, WrittenAreDrawn}
use Rattle.drawn_laws.proofs.Plans.{lines_placed, uplink_short}

placed : (d : Document) → IsReplayable d → AllByRecursion (IsPlacedLine d.config.endpoints) (lines_of d)
placed d is = lines_placed d.config d.plan is.document.config (lines_fit d.plan is.document.plan) is.valid

pub events_are_drawn : EventsAreDrawn
events_are_drawn d is numbered =
    replays_are_drawn d.config (traffic_of d) is.document.config (landings_are_replayed d Ru is) (landings_are_replayed d Du is) (uplink_short d.config (lines_of d) (placed d is)) numbered

named : (es : List EndpointConfig) → AllByRecursion (λ (e : EndpointConfig). e.id < 2 ^ 16) es → AllByRecursion IsSpaced es → AllByRecursion IsNamed es
named [] h k = tt
named (e ∷ es) h k = (record { id = h.0; spacing = k.0 }, named es h.1 k.1)

subject : (d : Document) → IsExplainable d → IsDrawnSubject (subject_of d)
subject d is = record {
  config = is.replayable.document.config;
  named = named d.config.endpoints (recursion_from_All (λ (e : EndpointConfig). e.id < 2 ^ 16) d.config.endpoints is.replayable.document.ids) is.spaced;
  plan = placed d is.replayable;
  numbers = is.numbers;
}

pub documents_are_drawn : DocumentsAreDrawn
unfolding explanation explain_of
documents_are_drawn d is =
    drawable_are_drawn (explained false d.config (reasons_of (subject_of d) (events_of d)) (events_of d))
    (events_are_drawable (subject_of d) (events_of d) (subject d is) (events_are_drawn d is.replayable is.numbered))

short : (most : ℕ) (ns : List ℕ) → most ≤ 67108865 → AllByRecursion (λ n. n ≤ most) ns → AllByRecursion IsShort ns
short most [] few h = tt
short most (n ∷ ns) few h = let low = h.0 in (omega (arith, few, low), short most ns few h.1)

pub read_are_drawn : ReadAreDrawn
read_are_drawn text d few is valid numbered =
    let written = documents_are_written text d is in
    documents_are_drawn d (record {
      replayable = record { document = proper text d is; valid = valid };
      spaced = written.spaced;
      numbers = short (length text + 1) d.plan_lines (omega (arith, few)) written.numbers;
      numbered = numbered;
    })

short_of : (n : ℕ) → n < 2 ^ 32 → IsShort n
short_of n low = omega (arith, low)

numbered_of : (d : Document) → HasFewFrames d → IsNumbered d
numbered_of d few = short_of (arrival_count (events_of d)) few

pub written_are_drawn : WrittenAreDrawn
written_are_drawn text d short is valid few = read_are_drawn text d short is valid (numbered_of d few)
