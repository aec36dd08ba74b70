-- What was written of a text, where lines were taken in part.
use Rattle.std.proofs.Common.{◌≡◌, ◌<◌, ℕ, Bool, true, false, List, [], ◌∷◌, ◌++◌, Option, length, refl, sym, ap, subst, ◌∙◌, arith, append_assoc, length-append}
use Rattle.std.proofs.lemmas.List.{take-append-le}
use Rattle.std.specs.Io.KnownBytes.{append_known}
use Rattle.explain_air.specs.Airs.{text_of}
use Rattle.explain_air.specs.OutLaws.{text_both}
use Rattle.explain_air.specs.Outs.{Took, kept_text, owed_of, sink_of}
use Rattle.explain_air.specs.declared.out.LineOut.{LineOut}
use Rattle.explain_model.specs.Subjects.{StandsBefore}
use Rattle.explain_model.specs.Faults.{is_fault}
use Rattle.explain_model.specs.Lines.{line_text}
use Rattle.explain_model.specs.declared.values.ExplainLine.{ExplainLine}
use Rattle.explain_model.specs.declared.values.ExplainLine.TheVariants as line
use Rattle.explain_model.specs.Text.{Reasoned, explain_of, lines_of}
use Rattle.explain_heard.specs.Stops.{StopsSome, Between, Within}
use Rattle.fh_base.proofs.Progress.{front_first}
use Rattle.fh_base.specs.Told.{WritesFront, WritesPart}
use Rattle.fh_base.proofs.Carrying.{carried_front, front_behind}
use Rattle.fh_base.proofs.Parts.{part_front}
use Rattle.fh_base.specs.CarriedLaws.{carried_more}
use Rattle.fh_base.specs.Owed.{Carried}
use Rattle.air_source.specs.declared.events.Event.{Event}
use Rattle.window_config.specs.declared.config.Config.{Config}

-- ---- by the lines that were taken

module _ {K : Type 0} (written : K → Option (List ℕ)) where
  abbrev grew : LineOut K → List ExplainLine → LineOut K → Type 0
  grew a lines b = Took a.faults (written (sink_of a)) (owed_of a) lines b.faults (written (sink_of b)) (owed_of b)

  abbrev stopped : LineOut K → ExplainLine → LineOut K → Type 0
  stopped a l b = WritesPart (written (sink_of a)) (written (sink_of b)) (owed_of a ++ kept_text a.faults (l ∷ []))

  -- a front of what was owed and of the text of these lines was written
  pub out_front : (lines : List ExplainLine) (a b : LineOut K) → StopsSome grew stopped lines a b → WritesFront (written (sink_of a)) (written (sink_of b)) (owed_of a ++ kept_text a.faults lines)
  out_front lines a b (Between t) =
      subst (λ (text : List ℕ). WritesFront (written (sink_of a)) (written (sink_of b)) text)
      (append_assoc (owed_of a) (kept_text a.faults t.before) (kept_text a.faults t.after)
      ∙ ap (λ (text : List ℕ). owed_of a ++ text) (sym (text_both a.faults t.before t.after) ∙ ap (kept_text a.faults) (sym t.is)))
      (front_first (written (sink_of a)) (written (sink_of b)) (owed_of a ++ kept_text a.faults t.before) (kept_text a.faults t.after)
      (carried_front (written (sink_of a)) (owed_of a) (kept_text a.faults t.before) (written (sink_of b)) (owed_of b) t.heard.carried))
  out_front lines a b (Within s) =
      let stop = subst (λ (f : Bool). WritesFront (written (sink_of s.middle)) (written (sink_of b)) (owed_of s.middle ++ kept_text f (s.line ∷ []))) s.heard.which (part_front (written (sink_of s.middle)) (written (sink_of b)) _ s.stop) in
      let so_far = front_behind (written (sink_of a)) (owed_of a) (kept_text a.faults s.before) (written (sink_of s.middle)) (owed_of s.middle) (kept_text a.faults (s.line ∷ [])) (written (sink_of b)) s.heard.carried stop in
      subst (λ (text : List ℕ). WritesFront (written (sink_of a)) (written (sink_of b)) text)
      (append_assoc (owed_of a) (kept_text a.faults s.before ++ kept_text a.faults (s.line ∷ [])) (kept_text a.faults s.after)
      ∙ ap (λ (text : List ℕ). owed_of a ++ text)
      (append_assoc (kept_text a.faults s.before) (kept_text a.faults (s.line ∷ [])) (kept_text a.faults s.after)
      ∙ ap (λ (text : List ℕ). kept_text a.faults s.before ++ text) (sym (text_both a.faults (s.line ∷ []) s.after))
      ∙ sym (text_both a.faults s.before (s.line ∷ s.after)) ∙ ap (kept_text a.faults) (sym s.is)))
      (front_first (written (sink_of a)) (written (sink_of b)) (owed_of a ++ (kept_text a.faults s.before ++ kept_text a.faults (s.line ∷ []))) (kept_text a.faults s.after) so_far)

-- ---- of the whole text

pub text_more : (faults : Bool) (xs ys : List ExplainLine) → text_of faults xs ++ kept_text faults ys ≡ text_of faults (xs ++ ys)
text_more faults xs ys =
    append_assoc (line_text (line.Head faults)) (kept_text faults xs) (kept_text faults ys)
    ∙ ap (λ (text : List ℕ). line_text (line.Head faults) ++ text) (sym (text_both faults xs ys))

-- lines more were taken
pub text_carried : (faults : Bool) (base : Option (List ℕ)) (xs ys : List ExplainLine) (w v : Option (List ℕ)) (o p : List ℕ)
    → Carried base [] (text_of faults xs) w o → Carried w o (kept_text faults ys) v p → Carried base [] (text_of faults (xs ++ ys)) v p
text_carried faults base xs ys w v o p h k =
    subst (λ (text : List ℕ). Carried base [] text v p) (text_more faults xs ys) (carried_more base w v [] o p (text_of faults xs) (kept_text faults ys) h k)

-- or in part
pub text_stops : (faults : Bool) (base : Option (List ℕ)) (xs ys : List ExplainLine) (w v : Option (List ℕ)) (o : List ℕ)
    → Carried base [] (text_of faults xs) w o → WritesFront w v (o ++ kept_text faults ys) → WritesFront base v (text_of faults (xs ++ ys))
text_stops faults base xs ys w v o h front =
    subst (λ (text : List ℕ). WritesFront base v text) (text_more faults xs ys) (front_behind base [] (text_of faults xs) w o (kept_text faults ys) v h front)

-- what was owed and is carried is a front
pub text_front : (faults : Bool) (base : Option (List ℕ)) (xs : List ExplainLine) (w : Option (List ℕ)) (o : List ℕ)
    → Carried base [] (text_of faults xs) w o → WritesFront base w (text_of faults xs)
text_front faults base xs w o h = carried_front base [] (text_of faults xs) w o h

-- ---- and not all of it

last_text : (faults : Bool) → 0 < length (kept_text faults (line.End ∷ []))
unfolding is_fault line_text
last_text true = omega arith
last_text false = omega arith

pub text_is : (faults : Bool) (c : Config) (r : Reasoned) (events : List Event) → explain_of faults c r events ≡ text_of faults (lines_of c r events)
unfolding explain_of
text_is faults c r events = refl

part_more : (base v : Option (List ℕ)) (first second : List ℕ) → 0 < length second → WritesFront base v first → WritesPart base v (first ++ second)
part_more base v first second some front = record {
  count = front.count;
  within = omega (arith, length-append first second, front.within, some);
  is = front.is ∙ ap (append_known base) (sym (take-append-le front.count first second front.within));
}

rest_text : (faults : Bool) (rest : List ExplainLine) → 0 < length (kept_text faults (rest ++ line.End ∷ []))
rest_text faults rest =
    let both = ap length (text_both faults rest (line.End ∷ [])) ∙ length-append (kept_text faults rest) (kept_text faults (line.End ∷ [])) in
    omega (arith, both, last_text faults)

pub text_part : (faults : Bool) (base v : Option (List ℕ)) (c : Config) (r : Reasoned) (events : List Event) (lines : List ExplainLine)
    → StandsBefore lines (lines_of c r events) → WritesFront base v (text_of faults lines) → WritesPart base v (explain_of faults c r events)
text_part faults base v c r events lines stands front =
    subst (λ (text : List ℕ). WritesPart base v text)
    (text_more faults lines (stands.rest ++ line.End ∷ []) ∙ ap (text_of faults) (sym stands.is) ∙ sym (text_is faults c r events))
    (part_more base v (text_of faults lines) (kept_text faults (stands.rest ++ line.End ∷ [])) (rest_text faults stands.rest) front)
