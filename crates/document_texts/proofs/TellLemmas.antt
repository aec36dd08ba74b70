-- What an air that was told a document's events wrote of its explanation.
use Rattle.std.proofs.Common.{◌≡◌, ◌<◌, ◌^◌, ℕ, Bool, true, List, [], ◌∷◌, ◌++◌, inl, inr, Option, Some, Result, Ok, Err, OnErr, OnOk, refl, sym, subst}
use Rattle.std.specs.Io.KnownBytes.{append_known}
use Rattle.air_source.specs.Stops.{GrewSome, StopsIn}
use Rattle.air_source.specs.declared.airs.AirFault.{AirFault}
use Rattle.air_source.specs.declared.airs.AirFault.TheVariants.{Failed, NoMemory as WantsMemory}
use Rattle.air_source.specs.declared.events.Event.{Event}
use Rattle.explain_air.proofs.FlushLemmas.{after_rests}
use Rattle.explain_air.proofs.Fronts.{text_part}
use Rattle.explain_air.specs.Airs.{Grew, IsAfter, Stopped, owed_of, sink_of, text_of}
use Rattle.explain_air.specs.Heard.{HasHeard}
use Rattle.explain_air.specs.declared.air.ExplainAir.{ExplainAir}
use Rattle.explain_air.specs.declared.kept.Kept.{Kept}
use Rattle.explain_model.proofs.Fronts.{lines_grow}
use Rattle.explain_model.specs.Subjects.{Subject, counts_last, open_lines, reasons_of}
use Rattle.explain_model.specs.Stories.{arrival_count}
use Rattle.explain_model.specs.Text.{explain_of}
use Rattle.document_texts.proofs.EventLemmas.{counts_come_last}
use Rattle.document_texts.specs.Text.{HasFewFrames, IsFresh, explanation, subject_of}
use Rattle.fh_base.proofs.Progress.{front_none, front_whole}
use Rattle.fh_base.specs.Told.{WritesFront, WritesPart}
use Rattle.fh_document.specs.declared.document.Document.{Document}
use Rattle.fronthaul_replay.specs.Cut.{CutBy}
use Rattle.fronthaul_replay.specs.Replaying.{events_of}
use Rattle.fronthaul_replay.specs.declared.report.TextFault.{TextFault}
use Rattle.fronthaul_replay.specs.declared.report.TextFault.TheVariants.{WriteFault, NoMemory}
use Rattle.document_traffic.specs.Replayed.{traffic_of}
use Rattle.fh_base.proofs.Parts.{part_front}

-- ---- no matter how far

-- and so is the whole, whatever is answered
pub front_by : {T E : Type 0} (r : Result T E) (old new : Option (List ℕ)) (text : List ℕ)
    → OnErr r (WritesPart old new text) → OnOk r (new ≡ append_known old text) → WritesFront old new text
front_by (Ok x) old new text part whole = front_whole old new text whole
front_by (Err e) old new text part whole = part_front old new text part

-- nothing is a part of an explanation
pub nothing_told : (f : Bool) (d : Document) (w : Option (List ℕ)) → WritesPart w w (explanation f d)
unfolding explanation
nothing_told f d w =
    let s = subject_of d in
    text_part f w w d.config (reasons_of s (events_of d)) (events_of d) (open_lines s []) (lines_grow.going_on s [] (events_of d)) (front_none w (text_of f (open_lines s [])))

module _ {K : Type 0} (of_sink : K → Option (List ℕ)) (d : Document) (f : Bool) (base : Option (List ℕ)) where
  abbrev A : Type 0
  A = ExplainAir K

  abbrev written : A → Option (List ℕ)
  written a = of_sink (sink_of a)

  abbrev IsAt : List Event → A → Type 0
  IsAt events a = IsAfter (subject_of d) f base events a.faults a.kept (written a) (owed_of a)

  -- what the air heard, and how it stopped
  abbrev AirGrew : A → List Event → A → Type 0
  AirGrew a events b = Grew d.config [] a.faults a.kept (written a) (owed_of a) events b.faults b.kept (written b) (owed_of b)

  abbrev AirStopped : AirFault → A → Event → A → Type 0
  AirStopped fault a e b = Stopped a.faults a.kept (written a) (owed_of a) e (written b)

  abbrev PartOf : A → List Event → Type 0
  PartOf b events = WritesPart base (written b) (explain_of f d.config (reasons_of (subject_of d) events) events)

  -- ---- begun

  abbrev Begins : Option Kept → A → Type 0
  Begins before a = (s : Subject) (k : Kept) → s.config ≡ d.config → before ≡ Some k → HasHeard s [] k → IsAfter s f base [] a.faults a.kept (written a) (owed_of a)

  pub begun : (before : Option Kept) (a : A) → IsFresh (subject_of d) before → Begins before a → IsAt [] a
  begun before a fresh begins = begins (subject_of d) fresh.it refl fresh.is fresh.heard

  pub begin_part : (now : Option (List ℕ))
      → ((s : Subject) (events : List Event) → s.config ≡ d.config → WritesPart base now (explain_of f s.config (reasons_of s events) events))
      → WritesPart base now (explanation f d)
  unfolding explanation
  begin_part now part = part (subject_of d) (events_of d) refl

  -- ---- told

  pub grown : (events : List Event) (a b : A) → IsAt [] a → AirGrew a events b → IsAt events b
  grown events a b at grew = grew.after (subject_of d) f base refl at

  last_of : (events : List Event) → events_of d ≡ events → counts_last events ≡ true
  last_of events is = subst (λ (es : List Event). counts_last es ≡ true) is (counts_come_last d.config (traffic_of d))

  part_of : (b : A) (events : List Event) → events_of d ≡ events → PartOf b events → WritesPart base (written b) (explanation f d)
  unfolding explanation
  part_of b events is part = subst (λ (es : List Event). PartOf b es) (sym is) part

  stopped_part : (fault : AirFault) (a b : A) → IsAt [] a → StopsIn AirGrew (AirStopped fault) (events_of d) a b → WritesPart base (written b) (explanation f d)
  stopped_part fault a b at s =
      part_of b (s.before ++ s.event ∷ s.after) s.is
      (s.stop.part (subject_of d) f base s.before s.after (grown s.before a s.middle at s.heard) (last_of (s.before ++ s.event ∷ s.after) s.is))

  rested_part : (a b : A) → IsAt [] a → GrewSome AirGrew (events_of d) a b → WritesPart base (written b) (explanation f d)
  rested_part a b at s =
      part_of b (s.before ++ s.after) s.is (after_rests (subject_of d) f base s.before b.faults b.kept (written b) (owed_of b) s.after (last_of (s.before ++ s.after) s.is) (grown s.before a b at s.heard))

  -- it was cut in its events
  pub cut_part : (fault : TextFault) (a b : A) → IsAt [] a → CutBy fault AirGrew AirStopped (events_of d) a b → WritesPart base (written b) (explanation f d)
  cut_part WriteFault a b at s = stopped_part Failed a b at s
  cut_part NoMemory a b at (inl s) = rested_part a b at s
  cut_part NoMemory a b at (inr s) = stopped_part WantsMemory a b at s

  -- ---- finished

  abbrev Finishes : A → Option (List ℕ) → Type 0
  Finishes b now = (s : Subject) (faults : Bool) (old : Option (List ℕ)) (events : List Event) → IsAfter s faults old events b.faults b.kept (written b) (owed_of b)
      → now ≡ append_known old (explain_of faults s.config (reasons_of s events) events)

  abbrev FinishesPart : A → Option (List ℕ) → Type 0
  FinishesPart b now = (s : Subject) (faults : Bool) (old : Option (List ℕ)) (events : List Event) → IsAfter s faults old events b.faults b.kept (written b) (owed_of b)
      → WritesPart old now (explain_of faults s.config (reasons_of s events) events)

  pub finish_whole : (b : A) (now : Option (List ℕ)) → IsAt (events_of d) b → Finishes b now → now ≡ append_known base (explanation f d)
  unfolding explanation
  finish_whole b now at all = all (subject_of d) f base (events_of d) at

  -- the frames of the document are as many as it numbered
  pub finish_few : (b : A) → IsAt (events_of d) b
      → ((s : Subject) (faults : Bool) (old : Option (List ℕ)) (events : List Event) → IsAfter s faults old events b.faults b.kept (written b) (owed_of b) → arrival_count events < 2 ^ 32)
      → HasFewFrames d
  finish_few b at few = few (subject_of d) f base (events_of d) at

  pub finish_part : (b : A) (now : Option (List ℕ)) → IsAt (events_of d) b → FinishesPart b now → WritesPart base now (explanation f d)
  unfolding explanation
  finish_part b now at part = part (subject_of d) f base (events_of d) at
