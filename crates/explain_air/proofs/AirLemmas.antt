-- An air after one event more, or stopped in it.
use Rattle.std.proofs.Common.{◌≡◌, ℕ, Bool, true, false, List, [], ◌∷◌, ◌++◌, Option, Some, None, refl, sym, subst, ◌∙◌, append_assoc}
use Rattle.air_source.specs.declared.events.Event.{Event}
use Rattle.air_source.specs.declared.events.Event.TheVariants as event
use Rattle.air_source.specs.declared.events.Side.{Side}
use Rattle.explain_air.proofs.Fronts.{text_carried, text_front, text_part, text_stops}
use Rattle.explain_air.proofs.KeptLemmas.{few_as}
use Rattle.explain_air.specs.Airs.{IsClosed, IsOpen, text_of}
use Rattle.explain_air.specs.Heard.{HasHeard}
use Rattle.explain_air.specs.Outs.{Took, kept_text}
use Rattle.explain_air.specs.declared.kept.Kept.{Kept}
use Rattle.explain_model.proofs.Counts.{no_count_more, some_more}
use Rattle.explain_model.proofs.Fronts.{lines_grow}
use Rattle.explain_model.proofs.Steps.{count_none}
use Rattle.explain_model.specs.Subjects.{StandsBefore, Subject, added, are_counts, counted_lines, ending, is_count, open_lines, reasons_of}
use Rattle.explain_model.specs.declared.values.ExplainLine.{ExplainLine}
use Rattle.explain_model.specs.declared.values.ExplainLine.TheVariants as line
use Rattle.explain_model.specs.Stories.{arrival_count}
use Rattle.explain_model.specs.Text.{explain_of, lines_of}
use Rattle.fault_counters.specs.declared.kinds.Counter.{Counter}
use Rattle.fh_base.specs.Told.{WritesFront, WritesPart}
use Rattle.fh_base.specs.Owed.{Carried}

-- ---- heard

module _ (s : Subject) (f : Bool) (base : Option (List ℕ)) (events : List Event) (which : Bool) (kept : Option Kept) (w : Option (List ℕ)) (o : List ℕ) where
  pub open_more : (e : Event) (g : Bool) (k : Kept) (v : Option (List ℕ)) (p : List ℕ) → is_count e ≡ false → IsOpen s f base events which kept w o
      → Took which w o (added s.config events e) g v p → HasHeard s (events ++ e ∷ []) k → IsOpen s f base (events ++ e ∷ []) g (Some k) v p
  open_more e g k v p still h took heard = record {
    which_is = took.which ∙ h.which_is;
    kept_one = k;
    kept_is = refl;
    heard = heard;
    plain = no_count_more events e h.plain still;
    carried =
        subst (λ (ls : List ExplainLine). Carried base [] (text_of f ls) v p) (sym (lines_grow.one s events e))
        (text_carried f base (open_lines s events) (added s.config events e) w v o p h.carried
        (subst (λ (x : Bool). Carried w o (kept_text x (added s.config events e)) v p) h.which_is took.carried));
  }

  module _ (side : Side) (n : Counter) (value : ℕ) where
    abbrev pub x : Event
    x = event.Count side n value

    abbrev pub own : List ExplainLine
    own = line.Count side n value ∷ []

    pub closed_first : (v u : Option (List ℕ)) (p q : List ℕ) (g h : Bool) → IsOpen s f base events which kept w o
        → Took which w o (ending s events) g v p → Took g v p own h u q → IsClosed s f base (events ++ x ∷ []) h None u q
    closed_first v u p q g h is first second =
        let same = first.which ∙ is.which_is in
        let one = text_carried f base (open_lines s events) (ending s events) w v o p is.carried
        (subst (λ (y : Bool). Carried w o (kept_text y (ending s events)) v p) is.which_is first.carried) in
        let two = text_carried f base (open_lines s events ++ ending s events) own v u p q one
        (subst (λ (y : Bool). Carried v p (kept_text y own) u q) same second.carried) in
        record {
          which_is = second.which ∙ same;
          kept_is = refl;
          counted = some_more events side n value;
          few = few_as _ (arrival_count events) (count_none events x refl) is.heard.few;
          carried = subst (λ (ls : List ExplainLine). Carried base [] (text_of f ls) u q) (sym (lines_grow.first_count s events side n value is.plain)) two;
        }

    pub closed_next : (u : Option (List ℕ)) (q : List ℕ) (h : Bool) → IsClosed s f base events which kept w o → Took which w o own h u q → IsClosed s f base (events ++ x ∷ []) h None u q
    closed_next u q h is took = record {
      which_is = took.which ∙ is.which_is;
      kept_is = refl;
      counted = some_more events side n value;
      few = few_as _ (arrival_count events) (count_none events x refl) is.few;
      carried =
          subst (λ (ls : List ExplainLine). Carried base [] (text_of f ls) u q) (sym (lines_grow.next_count s events side n value))
          (text_carried f base (counted_lines s events) own w u o q is.carried
          (subst (λ (y : Bool). Carried w o (kept_text y own) u q) is.which_is took.carried));
    }

  -- ---- stopped

  -- in an event that is no counter
  pub open_stops : (e : Event) (later : List Event) (v : Option (List ℕ)) → IsOpen s f base events which kept w o
      → WritesFront w v (o ++ kept_text which (added s.config events e))
      → WritesPart base v (explain_of f s.config (reasons_of s (events ++ e ∷ later)) (events ++ e ∷ later))
  open_stops e later v h front =
      let all = (events ++ e ∷ []) ++ later in
      let same : all ≡ events ++ e ∷ later = append_assoc events (e ∷ []) later in
      let stands = subst (λ (ls : List ExplainLine). StandsBefore ls (lines_of s.config (reasons_of s all) all)) (lines_grow.one s events e) (lines_grow.going_on s (events ++ e ∷ []) later) in
      subst (λ (es : List Event). WritesPart base v (explain_of f s.config (reasons_of s es) es)) same
      (text_part f base v s.config (reasons_of s all) all (open_lines s events ++ added s.config events e) stands
      (text_stops f base (open_lines s events) (added s.config events e) w v o h.carried
      (subst (λ (y : Bool). WritesFront w v (o ++ kept_text y (added s.config events e))) h.which_is front)))

  -- before any
  pub open_rests : (later : List Event) → IsOpen s f base events which kept w o → WritesPart base w (explain_of f s.config (reasons_of s (events ++ later)) (events ++ later))
  open_rests later h =
      text_part f base w s.config (reasons_of s (events ++ later)) (events ++ later) (open_lines s events) (lines_grow.going_on s events later)
      (text_front f base (open_lines s events) w o h.carried)

  pub closed_rests : (later : List Event) → are_counts later ≡ true → IsClosed s f base events which kept w o → WritesPart base w (explain_of f s.config (reasons_of s (events ++ later)) (events ++ later))
  closed_rests later counts h =
      text_part f base w s.config (reasons_of s (events ++ later)) (events ++ later) (counted_lines s events) (lines_grow.counted s events later counts)
      (text_front f base (counted_lines s events) w o h.carried)
