-- What an air wrote of a document's capture or summary where a replay was cut.
use Rattle.std.proofs.Common.{◌≡◌, ◌≢◌, ℕ, List, [], ◌++◌, Option, length, refl, ap, ◌∙◌, subst, arith, length-append}
use Rattle.std.specs.Io.KnownBytes.{append_known}
use Rattle.fh_base.specs.Told.{WritesFront, WritesPart}
use Rattle.fh_base.proofs.Progress.{front_none}
use Rattle.air_source.specs.Moves.{state_after, given_by}
use Rattle.air_source.specs.declared.airs.AirFault.{AirFault}
use Rattle.air_source.specs.declared.airs.AirFault.TheVariants.{Failed, NoMemory as WantsMemory}
use Rattle.air_source.specs.declared.events.Event.{Event}
use Rattle.fh_document.specs.declared.document.Document.{Document}
use Rattle.fronthaul_replay.specs.Replaying.{events_of}
use Rattle.fh_base.specs.Owed.{Carried}
use Rattle.fh_base.proofs.Parts.{front_part, part_behind}
use Rattle.air_source.specs.Stopping.{Halted}
use Rattle.air_source.proofs.Fronts.{front_of, stops_front, cut_front}
use Rattle.capture_records.specs.declared.layout.TheConstants.{MAGIC}
use Rattle.report_airs.specs.Capture.{whole_capture, event_record, events_records}
use Rattle.report_airs.specs.Recorded.{Recorded}
use Rattle.report_airs.proofs.Captured as captured
use Rattle.report_airs.specs.SumStates.{SumState}
use Rattle.report_airs.specs.States.{closing_text, sum_start, sum_next, sum_gives, sum_ends}
use Rattle.report_airs.specs.Summary.{end_text, whole_summary}
use Rattle.report_airs.specs.SumLaws.{Heard}
use Rattle.report_airs.proofs.Whole.{summary_is}
use Rattle.report_airs.proofs.Written as summed
use Rattle.fronthaul_replay.specs.declared.report.TextFault.{TextFault}
use Rattle.fronthaul_replay.specs.declared.report.TextFault.TheVariants.{WriteFault, NoMemory}
use Rattle.fronthaul_replay.specs.Cut.{CutBy}
use Rattle.fronthaul_replay.specs.Reports.{summary_of, capture_of}
use Rattle.fronthaul_replay.proofs.Counted.{document_counts}

-- the last line is there
some_behind : (xs : List ℕ) → xs ++ end_text ≢ []
some_behind xs none =
    let empty : length (xs ++ end_text) ≡ 0 = ap length none in
    let four : length end_text ≡ 4 = refl in
    omega (arith, empty, four, length-append xs end_text)

module _ {A : Type 0} (written : A → Option (List ℕ)) (faults refusals : A → ℕ) (owed : A → List ℕ) (d : Document) (old new : A) where
  -- what a capture air heard, and how it stopped
  abbrev CaptureGrew : A → List Event → A → Type 0
  CaptureGrew a es b = Recorded (written a) (owed a) (events_records es) (written b) (owed b)

  abbrev CaptureStopped : AirFault → A → Event → A → Type 0
  CaptureStopped fault a e b = Halted fault (written a) (faults a) (refusals a) (owed a) (event_record e) (written b) (faults b) (refusals b)

  -- where it owed the magic, it wrote a front of the capture
  pub capture_cut : (f : TextFault) → owed old ≡ MAGIC → CutBy f CaptureGrew CaptureStopped (events_of d) old new → WritesFront (written old) (written new) (capture_of d)
  unfolding capture_of
  capture_cut WriteFault magic cut = stops_front CaptureGrew (CaptureStopped Failed) written whole_capture old new (events_of d) (captured.writes_out Failed written faults refusals owed old magic) cut
  capture_cut NoMemory magic cut = cut_front CaptureGrew (CaptureStopped WantsMemory) written whole_capture old new (events_of d) (captured.writes_out WantsMemory written faults refusals owed old magic) cut

  -- and not all of it, since at least its last byte was still owed
  pub capture_cut_part : (f : TextFault) → owed old ≡ MAGIC → CutBy f CaptureGrew CaptureStopped (events_of d) old new → WritesPart (written old) (written new) (capture_of d)
  unfolding capture_of
  capture_cut_part WriteFault magic cut = captured.stopped_part Failed written faults refusals owed (events_of d) old new magic cut
  capture_cut_part NoMemory magic cut = captured.cut_part WantsMemory written faults refusals owed (events_of d) old new magic cut

module _ {A : Type 0} (written : A → Option (List ℕ)) (faults refusals : A → ℕ) (owed : A → List ℕ) (sums : A → SumState) (d : Document) (old new : A) where
  -- what a summary air heard, and how it stopped
  abbrev SummaryGrew : A → List Event → A → Type 0
  SummaryGrew a es b = Heard (sums a) (written a) (owed a) es (sums b) (written b) (owed b)

  abbrev SummaryStopped : AirFault → A → Event → A → Type 0
  SummaryStopped fault a e b = Halted fault (written a) (faults a) (refusals a) (owed a) (sum_gives (sums a) e) (written b) (faults b) (refusals b)

  begins : WritesFront (written old) (written new) (summed.summary_begun (events_of d)) → WritesFront (written old) (written new) (whole_summary (events_of d))
  begins front = front_of (written old) (written new) (summed.summary_begun (events_of d)) (whole_summary (events_of d)) (summed.summary_begins (events_of d) (document_counts d)) front

  begins_part : WritesFront (written old) (written new) (summed.summary_begun (events_of d)) → WritesPart (written old) (written new) (whole_summary (events_of d))
  begins_part front =
      let last = state_after sum_next sum_start (events_of d) in
      subst (λ (t : List ℕ). WritesPart (written old) (written new) t) (summary_is (events_of d) (document_counts d))
      (front_part (written old) (written new) (summed.summary_begun (events_of d)) (sum_ends last) (some_behind (closing_text last)) front)

  -- where it had heard nothing, it wrote a front of the summary
  pub summary_cut : (f : TextFault) → owed old ≡ [] → sums old ≡ sum_start → CutBy f SummaryGrew SummaryStopped (events_of d) old new → WritesFront (written old) (written new) (summary_of d)
  unfolding summary_of
  summary_cut WriteFault none start cut =
      begins (stops_front SummaryGrew (SummaryStopped Failed) written summed.summary_begun old new (events_of d) (summed.writes_out Failed written faults refusals owed sums old none start) cut)
  summary_cut NoMemory none start cut =
      begins (cut_front SummaryGrew (SummaryStopped WantsMemory) written summed.summary_begun old new (events_of d) (summed.writes_out WantsMemory written faults refusals owed sums old none start) cut)

  -- and not all of it, since the last line was still to follow
  pub summary_cut_part : (f : TextFault) → owed old ≡ [] → sums old ≡ sum_start → CutBy f SummaryGrew SummaryStopped (events_of d) old new → WritesPart (written old) (written new) (summary_of d)
  unfolding summary_of
  summary_cut_part WriteFault none start cut =
      begins_part (stops_front SummaryGrew (SummaryStopped Failed) written summed.summary_begun old new (events_of d) (summed.writes_out Failed written faults refusals owed sums old none start) cut)
  summary_cut_part NoMemory none start cut =
      begins_part (cut_front SummaryGrew (SummaryStopped WantsMemory) written summed.summary_begun old new (events_of d) (summed.writes_out WantsMemory written faults refusals owed sums old none start) cut)

-- all of a capture, and a front of it, at the end
pub capture_done : (d : Document) (written : Option (List ℕ)) (owed : List ℕ) (middle : Option (List ℕ)) (owed_now : List ℕ) (now : Option (List ℕ))
    → owed ≡ MAGIC → Recorded written owed (events_records (events_of d)) middle owed_now → now ≡ append_known middle owed_now → now ≡ append_known written (capture_of d)
unfolding capture_of
capture_done d written owed middle owed_now now magic h whole = captured.finished (events_of d) written owed middle owed_now now magic h whole

pub capture_front : (d : Document) (written : Option (List ℕ)) (owed : List ℕ) (middle : Option (List ℕ)) (owed_now : List ℕ) (now : Option (List ℕ))
    → owed ≡ MAGIC → Recorded written owed (events_records (events_of d)) middle owed_now → WritesFront middle now owed_now → WritesFront written now (capture_of d)
unfolding capture_of
capture_front d written owed middle owed_now now magic h front = captured.finish_front (events_of d) written owed middle owed_now now magic h front

-- and a part of it
pub capture_part : (d : Document) (written : Option (List ℕ)) (owed : List ℕ) (middle : Option (List ℕ)) (owed_now : List ℕ) (now : Option (List ℕ))
    → owed ≡ MAGIC → Recorded written owed (events_records (events_of d)) middle owed_now → WritesPart middle now owed_now → WritesPart written now (capture_of d)
unfolding capture_of
capture_part d written owed middle owed_now now magic h part = captured.finish_part (events_of d) written owed middle owed_now now magic h part

-- all of a summary, and a front of it, at the end
pub summary_done : (d : Document) (s : SumState) (written : Option (List ℕ)) (owed : List ℕ) (s_now : SumState) (middle : Option (List ℕ)) (owed_now : List ℕ) (now : Option (List ℕ))
    → owed ≡ [] → s ≡ sum_start → Heard s written owed (events_of d) s_now middle owed_now → now ≡ append_known middle (owed_now ++ sum_ends s_now) → now ≡ append_known written (summary_of d)
unfolding summary_of
summary_done d s written owed s_now middle owed_now now none start h whole = summed.finished (events_of d) s written owed s_now middle owed_now now (document_counts d) none start h whole

pub summary_front : (d : Document) (s : SumState) (written : Option (List ℕ)) (owed : List ℕ) (s_now : SumState) (middle : Option (List ℕ)) (owed_now : List ℕ) (now : Option (List ℕ))
    → owed ≡ [] → s ≡ sum_start → Heard s written owed (events_of d) s_now middle owed_now → WritesFront middle now (owed_now ++ sum_ends s_now) → WritesFront written now (summary_of d)
unfolding summary_of
summary_front d s written owed s_now middle owed_now now none start h front = summed.finish_front (events_of d) s written owed s_now middle owed_now now (document_counts d) none start h front

-- and a part of it
pub summary_part : (d : Document) (s : SumState) (written : Option (List ℕ)) (owed : List ℕ) (s_now : SumState) (middle : Option (List ℕ)) (owed_now : List ℕ) (now : Option (List ℕ))
    → owed ≡ [] → s ≡ sum_start → Heard s written owed (events_of d) s_now middle owed_now → WritesPart middle now (owed_now ++ sum_ends s_now) → WritesPart written now (summary_of d)
unfolding summary_of
summary_part d s written owed s_now middle owed_now now none start h part =
    let es = events_of d in
    let begun = subst (λ (x : SumState). Carried written owed (given_by sum_next sum_gives x es) middle owed_now) start h.carried in
    let ended : s_now ≡ state_after sum_next sum_start es = h.moved ∙ ap (λ x. state_after sum_next x es) start in
    let all = part_behind written owed (summed.summary_begun es) middle owed_now (sum_ends s_now) now begun part in
    subst (λ (t : List ℕ). WritesPart written now t) (ap (λ x. summed.summary_begun es ++ sum_ends x) ended ∙ summary_is es (document_counts d))
    (subst (λ (o : List ℕ). WritesPart written now (o ++ (summed.summary_begun es ++ sum_ends s_now))) none all)

-- nothing of it is a part of it
pub summary_none : (d : Document) (written : Option (List ℕ)) → WritesPart written written (summary_of d)
unfolding summary_of
summary_none d written =
    let es = events_of d in
    let last = state_after sum_next sum_start es in
    subst (λ (t : List ℕ). WritesPart written written t) (summary_is es (document_counts d))
    (front_part written written (summed.summary_begun es) (sum_ends last) (some_behind (closing_text last)) (front_none written (summed.summary_begun es)))
