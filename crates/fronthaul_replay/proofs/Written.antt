-- What an air over text wrote of a document's events.
use Rattle.std.proofs.Common.{◌≡◌, ◌≢◌, ◌∙◌, ℕ, List, [], ◌++◌, Option, Result, Ok, Err, OnErr, length, refl, sym, ap, subst, arith, true≢false}
use Rattle.std.specs.Prelude.{is_ok}
use Rattle.std.specs.List.{flat_map}
use Rattle.std.specs.Io.KnownBytes.{append_known}
use Rattle.fh_base.specs.Told.{WritesFront, WritesPart}
use Rattle.air_source.specs.declared.airs.AirFault.{AirFault}
use Rattle.air_source.specs.declared.airs.AirFault.TheVariants.{Failed, NoMemory as WantsMemory}
use Rattle.air_source.specs.declared.events.Event.{Event}
use Rattle.fh_document.specs.declared.document.Document.{Document}
use Rattle.fh_base.specs.Owed.{Carried}
use Rattle.fh_base.proofs.Parts.{front_part, part_behind}
use Rattle.air_source.specs.Stopping.{Halted}
use Rattle.report_airs.specs.Counts.{counter_text}
use Rattle.report_airs.specs.Text.{end_text, event_text}
use Rattle.report_airs.proofs.Texts.{cut_front, finish_front, finished, front_of_whole, stops_front}
use Rattle.fronthaul_replay.specs.declared.report.TextFault.{TextFault}
use Rattle.fronthaul_replay.specs.declared.report.TextFault.TheVariants.{WriteFault, NoMemory}
use Rattle.fronthaul_replay.specs.Cut.{CutBy}
use Rattle.fronthaul_replay.specs.Replaying.{events_of}
use Rattle.fronthaul_replay.specs.Reports.{document_counts, document_report}

-- a text of a document, by the text of each event
abbrev IsText : (Event → List ℕ) → (Document → List ℕ) → Type 0
IsText text_of text = (d : Document) → text d ≡ flat_map text_of (events_of d) ++ end_text

pub report_is : IsText event_text document_report
unfolding document_report
report_is d = refl

pub counts_are : IsText counter_text document_counts
unfolding document_counts
counts_are d = refl

-- the last line is there
some_end : end_text ≢ []
some_end none = let empty : 4 ≡ 0 = ap length none in omega (arith, empty)

-- ---- a clause of errors

-- where an answer is passed on
pub error_passed : {T U D E : Type 0} (one : Result T D) (two : Result U E) (P : Type 0) → is_ok two ≡ is_ok one → OnErr one P → OnErr two P
error_passed one (Ok y) P same holds = tt
error_passed (Ok x) (Err e) P same holds = absurd (true≢false (sym same))
error_passed (Err d) (Err e) P same holds = holds

module _ (text_of : Event → List ℕ) (text : Document → List ℕ) (text_is : IsText text_of text) (d : Document) where
  -- where a fresh air heard the events, and then wrote what it owed and the last line, it wrote the text
  pub heard_whole : (written : Option (List ℕ)) (owed : List ℕ) (middle : Option (List ℕ)) (owed_now : List ℕ) (now : Option (List ℕ))
      → owed ≡ [] → Carried written owed (flat_map text_of (events_of d)) middle owed_now → now ≡ append_known middle (owed_now ++ end_text) → now ≡ append_known written (text d)
  heard_whole written owed middle owed_now now fresh h whole = finished text_of written owed (events_of d) middle owed_now now fresh h whole ∙ ap (append_known written) (sym (text_is d))

  -- where it wrote a front of what it owed and of the last line, it wrote a front of the text
  pub heard_front : (written : Option (List ℕ)) (owed : List ℕ) (middle : Option (List ℕ)) (owed_now : List ℕ) (now : Option (List ℕ))
      → owed ≡ [] → Carried written owed (flat_map text_of (events_of d)) middle owed_now → WritesFront middle now (owed_now ++ end_text) → WritesFront written now (text d)
  heard_front written owed middle owed_now now fresh h front =
      subst (λ (t : List ℕ). WritesFront written now t) (sym (text_is d)) (finish_front text_of written owed (events_of d) middle owed_now now fresh h front)

  -- where it wrote a part of what it owed and of the last line, it wrote a part of the text
  pub heard_part : (written : Option (List ℕ)) (owed : List ℕ) (middle : Option (List ℕ)) (owed_now : List ℕ) (now : Option (List ℕ))
      → owed ≡ [] → Carried written owed (flat_map text_of (events_of d)) middle owed_now → WritesPart middle now (owed_now ++ end_text) → WritesPart written now (text d)
  heard_part written owed middle owed_now now fresh h part =
      subst (λ (o : List ℕ). WritesPart written now (o ++ text d)) fresh
      (subst (λ (t : List ℕ). WritesPart written now (owed ++ t)) (sym (text_is d)) (part_behind written owed (flat_map text_of (events_of d)) middle owed_now end_text now h part))

  module _ {A : Type 0} (written : A → Option (List ℕ)) (faults refusals : A → ℕ) (owed : A → List ℕ) (old new : A) where
    -- what an air over text heard, and how it stopped
    abbrev TextGrew : A → List Event → A → Type 0
    TextGrew a es b = Carried (written a) (owed a) (flat_map text_of es) (written b) (owed b)

    abbrev TextStopped : AirFault → A → Event → A → Type 0
    TextStopped fault a e b = Halted fault (written a) (faults a) (refusals a) (owed a) (text_of e) (written b) (faults b) (refusals b)

    abbrev OfWhole : List ℕ → Type 0
    OfWhole t = WritesFront (written old) (written new) t

    abbrev OfPart : List ℕ → Type 0
    OfPart t = WritesPart (written old) (written new) t

    -- where it owed nothing, it wrote a front of the text
    pub cut_text : (f : TextFault) → owed old ≡ [] → CutBy f TextGrew TextStopped (events_of d) old new → WritesFront (written old) (written new) (text d)
    cut_text WriteFault fresh cut =
        subst OfWhole (sym (text_is d)) (front_of_whole text_of (written old) (written new) (events_of d) (stops_front text_of Failed written faults refusals owed (events_of d) old new fresh cut))
    cut_text NoMemory fresh cut =
        subst OfWhole (sym (text_is d)) (front_of_whole text_of (written old) (written new) (events_of d) (cut_front text_of WantsMemory written faults refusals owed (events_of d) old new fresh cut))

    -- and not all of it, since the last line was still to follow
    pub part_text : (f : TextFault) → owed old ≡ [] → CutBy f TextGrew TextStopped (events_of d) old new → WritesPart (written old) (written new) (text d)
    part_text WriteFault fresh cut =
        subst OfPart (sym (text_is d)) (front_part (written old) (written new) (flat_map text_of (events_of d)) end_text some_end (stops_front text_of Failed written faults refusals owed (events_of d) old new fresh cut))
    part_text NoMemory fresh cut =
        subst OfPart (sym (text_is d)) (front_part (written old) (written new) (flat_map text_of (events_of d)) end_text some_end (cut_front text_of WantsMemory written faults refusals owed (events_of d) old new fresh cut))
