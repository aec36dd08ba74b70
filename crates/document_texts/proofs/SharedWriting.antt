-- What was written of a shared cell's text.
use Rattle.std.proofs.Common.{◌≡◌, ◌≢◌, length, length-append, ℕ, zero, suc, ◌+◌, ◌<◌, ◌≤◌, List, [], ◌∷◌, ◌++◌, Option, refl, ap, ap₂, sym, ◌∙◌, subst, arith, append_assoc, append-nil, ◌-◌}
use Rattle.std.specs.List.{flat_map}
use Rattle.std.specs.Io.KnownBytes.{append_known}
use Rattle.std.proofs.lemmas.Grind.{flat_map-append}
use Rattle.air_source.specs.declared.airs.AirFault.{AirFault}
use Rattle.air_source.specs.declared.airs.AirFault.TheVariants.{Failed, NoMemory as WantsMemory}
use Rattle.air_source.specs.declared.events.Event.{Event}
use Rattle.air_source.proofs.Fronts.{IsFront, WritesOut, carried_from, cut_front, front_from, stops_front}
use Rattle.fh_base.specs.Told.{WritesFront, WritesPart}
use Rattle.fh_base.specs.KnownLaws.{append_nothing, append_twice}
use Rattle.fh_base.proofs.Progress.{front_first, front_second}
use Rattle.fh_document.specs.declared.document.Document.{Document}
use Rattle.fronthaul_replay.specs.Cut.{CutBy}
use Rattle.fronthaul_replay.specs.Replaying.{events_of}
use Rattle.fronthaul_replay.specs.declared.report.TextFault.{TextFault}
use Rattle.fronthaul_replay.specs.declared.report.TextFault.TheVariants.{WriteFault, NoMemory}
use Rattle.fh_base.specs.Owed.{Carried}
use Rattle.fh_base.specs.CarriedLaws.{carried_more}
use Rattle.fh_base.proofs.Carrying.{front_behind}
use Rattle.fh_base.proofs.Parts.{front_part, part_second}
use Rattle.fh_base.proofs.OwedTelling.{all_written, last_front}
use Rattle.shared_cell.specs.Combined.{combined}
use Rattle.shared_cell.specs.declared.values.Mixed.{Mixed}
use Rattle.document_texts.specs.Lines.{combined_text, end_text, mixed_text, mixes_text, unit_text}
use Rattle.document_texts.specs.Shared.{lines_with, shared_text, unit_lines, units_cells, units_text}
use Rattle.document_texts.specs.Laws.{Heard}
use Rattle.document_texts.specs.Stopping.{Ceased}
use Rattle.document_texts.specs.UnitText.{all_taken, unit_event_text, unit_events_text}
use Rattle.document_texts.specs.Units.{unit_of}
use Rattle.document_texts.proofs.Summing.{units_taken}

-- ---- one unit

-- a front of the line above
pub begin_cut : (unit : ℕ) (events : List Event) (w v : Option (List ℕ)) (o : List ℕ) → o ≡ [] → WritesFront w v (o ++ unit_text unit) → WritesFront w v (lines_with unit events)
begin_cut unit events w v o none front = front_first w v (unit_text unit) (unit_events_text events) (subst (λ (t : List ℕ). WritesFront w v (t ++ unit_text unit)) none front)

-- that line, and all lines of the events
pub unit_done : (unit : ℕ) (events : List Event) (w v u x : Option (List ℕ)) (o p q : List ℕ) (k l : List Mixed) → o ≡ [] → Carried w o (unit_text unit) v p → Heard v p k events u q l → x ≡ append_known u q
    → x ≡ append_known w (lines_with unit events)
unit_done unit events w v u x o p q k l none begun heard whole =
    all_written w u x o (lines_with unit events) q none (carried_more w v u o p q (unit_text unit) (unit_events_text events) begun heard.carried) whole

pub unit_front : (unit : ℕ) (events : List Event) (w v u x : Option (List ℕ)) (o p q : List ℕ) (k l : List Mixed) → o ≡ [] → Carried w o (unit_text unit) v p → Heard v p k events u q l → WritesFront u x q
    → WritesFront w x (lines_with unit events)
unit_front unit events w v u x o p q k l none begun heard front =
    last_front w u x o (lines_with unit events) q none (carried_more w v u o p q (unit_text unit) (unit_events_text events) begun heard.carried) front

module _ {A : Type 0} (written : A → Option (List ℕ)) (faults : A → ℕ) (owed : A → List ℕ) (mixed : A → List Mixed) where
  -- what an air of a unit heard, and how it stopped
  abbrev UnitGrew : A → List Event → A → Type 0
  UnitGrew a es b = Heard (written a) (owed a) (mixed a) es (written b) (owed b) (mixed b)

  abbrev UnitStopped : AirFault → A → Event → A → Type 0
  UnitStopped fault a e b = Ceased fault (written a) (faults a) (owed a) (unit_event_text e) (written b) (faults b)

  begins : (start : List ℕ) (first second : List Event) → IsFront (start ++ unit_events_text first) (start ++ unit_events_text (first ++ second))
  begins start first second = record {
    rest = unit_events_text second;
    is = ap (λ (t : List ℕ). start ++ t) (flat_map-append unit_event_text first second) ∙ sym (append_assoc start (unit_events_text first) (unit_events_text second));
  }

  writes_out : (fault : AirFault) (fresh : A) → WritesOut UnitGrew (UnitStopped fault) written (λ es. owed fresh ++ unit_events_text es) fresh
  writes_out fault fresh = record {
    heard = λ events now h. carried_from (written fresh) (owed fresh) (owed fresh) (unit_events_text events) (written now) (owed now) refl h.carried;
    stops = λ events event middle now h stop.
        subst (λ (t : List ℕ). WritesFront (written fresh) (written now) (owed fresh ++ t)) (one_last events event)
        (front_from (written fresh) (owed fresh) (owed fresh) (unit_events_text events) (written middle) (owed middle) (unit_event_text event) (written now) refl h.carried stop.front);
    begins = begins (owed fresh);
  }
    where
      one_last : (events : List Event) (event : Event) → unit_events_text events ++ unit_event_text event ≡ unit_events_text (events ++ event ∷ [])
      one_last events event = sym (flat_map-append unit_event_text events (event ∷ []) ∙ ap (λ (t : List ℕ). unit_events_text events ++ t) (append-nil (unit_event_text event)))

  -- a replay that was cut wrote a front of what was owed and of the lines of its events
  cut_owed : (f : TextFault) (events : List Event) (a b : A) → CutBy f UnitGrew UnitStopped events a b → WritesFront (written a) (written b) (owed a ++ unit_events_text events)
  cut_owed WriteFault events a b cut = stops_front UnitGrew (UnitStopped Failed) written (λ es. owed a ++ unit_events_text es) a b events (writes_out Failed a) cut
  cut_owed NoMemory events a b cut = cut_front UnitGrew (UnitStopped WantsMemory) written (λ es. owed a ++ unit_events_text es) a b events (writes_out WantsMemory a) cut

  pub replay_cut : (unit : ℕ) (events : List Event) (f : TextFault) (w : Option (List ℕ)) (o : List ℕ) (a b : A) → o ≡ [] → Carried w o (unit_text unit) (written a) (owed a)
      → CutBy f UnitGrew UnitStopped events a b → WritesFront w (written b) (lines_with unit events)
  replay_cut unit events f w o a b none begun cut =
      subst (λ (t : List ℕ). WritesFront w (written b) (t ++ lines_with unit events)) none
      (front_behind w o (unit_text unit) (written a) (owed a) (unit_events_text events) (written b) begun (cut_owed f events a b cut))

-- ---- all units

-- the text of fewer units is a front of that of more
pub units_front : (d : Document) (step n more : ℕ) → IsFront (units_text d step n) (units_text d step (more + n))
unfolding units_text
units_front d step n zero =
    let same : n ≡ zero + n = omega arith in
    let own : IsFront (units_text d step n) (units_text d step n) = record { rest = []; is = sym (append-nil (units_text d step n)) } in
    subst (λ (k : ℕ). IsFront (units_text d step n) (units_text d step k)) same own
units_front d step n (suc more) =
    let before = units_front d step n more in
    let next : suc (more + n) ≡ suc more + n = omega arith in
    let front : IsFront (units_text d step n) (units_text d step (suc (more + n))) = record {
      rest = before.rest ++ unit_lines d step (more + n);
      is = ap (λ (t : List ℕ). t ++ unit_lines d step (more + n)) before.is ∙ append_assoc (units_text d step n) before.rest (unit_lines d step (more + n));
    }
    in
    subst (λ (k : ℕ). IsFront (units_text d step n) (units_text d step k)) next front

-- one unit more was written
pub units_more : (d : Document) (step n : ℕ) (w v u : Option (List ℕ)) → v ≡ append_known w (units_text d step n) → u ≡ append_known v (unit_lines d step n) → u ≡ append_known w (units_text d step (suc n))
unfolding units_text
units_more d step n w v u before now = now ∙ ap (λ (o : Option (List ℕ)). append_known o (unit_lines d step n)) before ∙ append_twice w (units_text d step n) (unit_lines d step n)

-- of one unit more a front was written
units_begun : (d : Document) (count step n : ℕ) (w v u : Option (List ℕ)) → n < count → v ≡ append_known w (units_text d step n) → WritesFront v u (unit_lines d step n) → WritesFront w u (units_text d step count)
unfolding units_text
units_begun d count step n w v u below before front =
    let more : ℕ = count - suc n in
    let same : more + suc n ≡ count = omega arith in
    let far = units_front d step (suc n) more in
    subst (λ (k : ℕ). WritesFront w u (units_text d step k)) same
    (subst (λ (t : List ℕ). WritesFront w u t) (sym far.is)
    (front_first w u (units_text d step (suc n)) far.rest (front_second w v u (units_text d step n) (unit_lines d step n) before front)))

pub units_cut : (d : Document) (count step n : ℕ) (w v u : Option (List ℕ)) → n < count → v ≡ append_known w (units_text d step n) → WritesFront v u (unit_lines d step n) → WritesFront w u (shared_text d count step)
unfolding shared_text
units_cut d count step n w v u below before front =
    front_first w u (units_text d step count) (mixes_text (combined (units_cells d step count))) (units_begun d count step n w v u below before front)

-- the lines of the combined cells are never empty
some_mixes : (ms : List Mixed) → mixes_text ms ≢ []
unfolding mixes_text
some_mixes ms none =
    let rest = flat_map mixed_text ms ++ end_text in
    let empty : length (combined_text ++ rest) ≡ 0 = ap length none in
    let nine : length combined_text ≡ 9 = refl in
    omega (arith, empty, nine, length-append combined_text rest)

-- and not all, since the combined cells were still to follow
pub units_part : (d : Document) (count step n : ℕ) (w v u : Option (List ℕ)) → n < count → v ≡ append_known w (units_text d step n) → WritesFront v u (unit_lines d step n) → WritesPart w u (shared_text d count step)
unfolding shared_text
units_part d count step n w v u below before front =
    let ms = combined (units_cells d step count) in
    front_part w u (units_text d step count) (mixes_text ms) (some_mixes ms) (units_begun d count step n w v u below before front)

-- all units, and then the combined cells
pub all_done : (d : Document) (count step : ℕ) (ms : List Mixed) (w v u : Option (List ℕ)) → ms ≡ combined (units_cells d step count) → v ≡ append_known w (units_text d step count) → u ≡ append_known v (mixes_text ms)
    → u ≡ append_known w (shared_text d count step)
unfolding shared_text
all_done d count step ms w v u is before now =
    now ∙ ap₂ (λ (o : Option (List ℕ)) (ks : List Mixed). append_known o (mixes_text ks)) before is ∙ append_twice w (units_text d step count) (mixes_text (combined (units_cells d step count)))

pub mixes_cut : (d : Document) (count step : ℕ) (ms : List Mixed) (w v u : Option (List ℕ)) → ms ≡ combined (units_cells d step count) → v ≡ append_known w (units_text d step count) → WritesFront v u (mixes_text ms)
    → WritesFront w u (shared_text d count step)
unfolding shared_text
mixes_cut d count step ms w v u is before front =
    front_second w v u (units_text d step count) (mixes_text (combined (units_cells d step count))) before (subst (λ (ks : List Mixed). WritesFront v u (mixes_text ks)) is front)

pub mixes_part : (d : Document) (count step : ℕ) (ms : List Mixed) (w v u : Option (List ℕ)) → ms ≡ combined (units_cells d step count) → v ≡ append_known w (units_text d step count) → WritesPart v u (mixes_text ms)
    → WritesPart w u (shared_text d count step)
unfolding shared_text
mixes_part d count step ms w v u is before part =
    part_second w v u (units_text d step count) (mixes_text (combined (units_cells d step count))) before (subst (λ (ks : List Mixed). WritesPart v u (mixes_text ks)) is part)

-- the same, by the number that a loop counts
pub units_next : (d : Document) (step n : ℕ) (w v u : Option (List ℕ)) → v ≡ append_known w (units_text d step n) → u ≡ append_known v (unit_lines d step n) → u ≡ append_known w (units_text d step (n + 1))
units_next d step n w v u before now =
    let next : suc n ≡ n + 1 = omega arith in
    subst (λ (k : ℕ). u ≡ append_known w (units_text d step k)) next (units_more d step n w v u before now)

pub taken_next : (d : Document) (step n : ℕ) (ms now : List Mixed) → ms ≡ units_taken d step n → now ≡ all_taken (events_of (unit_of d n step)) ms → now ≡ units_taken d step (n + 1)
unfolding units_taken
taken_next d step n ms now before is =
    let next : suc n ≡ n + 1 = omega arith in
    subst (λ (k : ℕ). now ≡ units_taken d step k) next (is ∙ ap (all_taken (events_of (unit_of d n step))) before)

-- before the first unit
pub units_none : (d : Document) (step : ℕ) (w : Option (List ℕ)) → w ≡ append_known w (units_text d step 0)
unfolding units_text
units_none d step w = sym (append_nothing w)

pub taken_none : (d : Document) (step : ℕ) (ms : List Mixed) → ms ≡ [] → ms ≡ units_taken d step 0
unfolding units_taken
taken_none d step ms is = is
