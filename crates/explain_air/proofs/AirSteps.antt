-- An air in one call, by what is kept of the events before it.
use Rattle.std.proofs.Common.{◌≡◌, ◌<◌, ◌^◌, ℕ, Bool, true, false, List, [], ◌∷◌, ◌++◌, inl, inr, Option, Some, None, OnOk, refl, sym, ap, subst, ◌∙◌, append_assoc, append-nil, true≢false}
use Rattle.std.specs.Prelude.{Result, Ok, Err}
use Rattle.std.specs.Io.KnownBytes.{append_known}
use Rattle.air_source.specs.declared.events.Event.{Event}
use Rattle.air_source.specs.declared.events.Event.TheVariants as event
use Rattle.air_source.specs.declared.events.Side.{Side}
use Rattle.explain_air.proofs.AirLemmas.{closed_first, closed_next, open_more, open_stops}
use Rattle.explain_air.proofs.EndLemmas.{closed_all, open_all}
use Rattle.explain_air.proofs.Fronts.{text_carried, text_is, text_more, text_part, text_stops}
use Rattle.explain_air.specs.Airs.{Closes, ClosesPart, IsTold, IsClosed, IsOpen, Tells, TellsPart, text_of}
use Rattle.explain_air.specs.Heard.{HasHeard}
use Rattle.explain_air.specs.OutLaws.{text_both, took_more}
use Rattle.explain_air.specs.Outs.{Took, kept_text}
use Rattle.explain_air.specs.declared.kept.Kept.{Kept}
use Rattle.explain_model.proofs.Counts.{behind_count, behind_some}
use Rattle.explain_model.proofs.Fronts.{lines_grow}
use Rattle.explain_model.specs.Subjects.{StandsBefore, Subject, added, counted_lines, counts_last, ending, is_count, open_lines, reasons_of}
use Rattle.explain_model.specs.declared.values.ExplainLine.{ExplainLine}
use Rattle.explain_model.specs.declared.values.ExplainLine.TheVariants as line
use Rattle.explain_model.specs.Stories.{arrival_count}
use Rattle.explain_model.specs.Text.{explain_of, lines_of}
use Rattle.fault_counters.specs.declared.kinds.Counter.{Counter}
use Rattle.fh_base.proofs.Progress.{front_first}
use Rattle.fh_base.specs.Told.{WritesFront, WritesPart}
use Rattle.fh_base.proofs.Carrying.{carried_known, front_behind, front_pushed}
use Rattle.fh_base.proofs.Parts.{part_behind, part_front, part_pushed}
use Rattle.fh_base.specs.Owed.{Carried}

pub none_some : {k : Kept} → None ≡ Some k → ⊥
none_some e = cc

pub same_one : (j k : Kept) → Some j ≡ Some k → j ≡ k
same_one j k e = cc

-- each frame that it heard has a number of 32 bits
pub few_told : (s : Subject) (f : Bool) (base : Option (List ℕ)) (events : List Event) (which : Bool) (kept : Option Kept) (w : Option (List ℕ)) (o : List ℕ)
    → IsTold s f base events which kept w o → arrival_count events < 2 ^ 32
few_told s f base events which kept w o (inl h) = h.heard.few
few_told s f base events which kept w o (inr h) = h.few

-- ---- an event that is no counter

-- where nothing is kept any more
module _ (which : Bool) (kept : Option Kept) (none : kept ≡ None) (w : Option (List ℕ)) (o : List ℕ) (e : Event) (plain : is_count e ≡ false) where
  none_stops_in : (s : Subject) (f : Bool) (base : Option (List ℕ)) (events later : List Event) → IsTold s f base events which kept w o → counts_last (events ++ e ∷ later) ≡ true
      → WritesPart base w (explain_of f s.config (reasons_of s (events ++ e ∷ later)) (events ++ e ∷ later))
  none_stops_in s f base events later (inl h) last = absurd (none_some (sym none ∙ h.kept_is))
  none_stops_in s f base events later (inr h) last = absurd (true≢false (sym (behind_some events e later last h.counted).0 ∙ plain))

  pub none_stops : TellsPart which kept w o e w
  none_stops = record { part = none_stops_in }

module _ (which : Bool) (kept : Option Kept) (k : Kept) (some : kept ≡ Some k) (w : Option (List ℕ)) (o : List ℕ) where
  -- what is kept is of the events
  kept_heard : (s : Subject) (f : Bool) (base : Option (List ℕ)) (events : List Event) → IsOpen s f base events which kept w o → HasHeard s events k
  kept_heard s f base events h = subst (λ (j : Kept). HasHeard s events j) (same_one h.kept_one k (sym h.kept_is ∙ some)) h.heard

  module _ (e : Event) where
    grows_by : is_count e ≡ false → (m : Kept) (g : Bool) (v : Option (List ℕ)) (p : List ℕ) → ((s : Subject) (events : List Event) → HasHeard s events k → HasHeard s (events ++ e ∷ []) m)
        → ((s : Subject) (events : List Event) → HasHeard s events k → Took which w o (added s.config events e) g v p)
        → (s : Subject) (f : Bool) (base : Option (List ℕ)) (events : List Event) → IsTold s f base events which kept w o → IsTold s f base (events ++ e ∷ []) g (Some m) v p
    grows_by plain m g v p after took s f base events (inl h) =
        inl (open_more s f base events which kept w o e g m v p plain h (took s events (kept_heard s f base events h)) (after s events (kept_heard s f base events h)))
    grows_by plain m g v p after took s f base events (inr h) = absurd (none_some (sym h.kept_is ∙ some))

    -- it keeps what it said of the lines
    pub grows : {T E : Type 0} (r : Result T E) → is_count e ≡ false → (m : Kept) (g : Bool) (v : Option (List ℕ)) (p : List ℕ)
        → OnOk r ((s : Subject) (events : List Event) → HasHeard s events k → HasHeard s (events ++ e ∷ []) m)
        → OnOk r ((s : Subject) (events : List Event) → HasHeard s events k → Took which w o (added s.config events e) g v p)
        → OnOk r (Tells which kept w o e which (Some m) v p)
    grows (Ok x) plain m g v p after took =
        record { told = grows_by plain m which v p after (λ s events h. record { which = refl; carried = (took s events h).carried }) }
    grows (Err x) plain m g v p after took = tt

    stops_in : (v : Option (List ℕ)) → ((s : Subject) (events : List Event) → HasHeard s events k → WritesFront w v (o ++ kept_text which (added s.config events e)))
        → (s : Subject) (f : Bool) (base : Option (List ℕ)) (events later : List Event) → IsTold s f base events which kept w o → counts_last (events ++ e ∷ later) ≡ true
        → WritesPart base v (explain_of f s.config (reasons_of s (events ++ e ∷ later)) (events ++ e ∷ later))
    stops_in v front s f base events later (inl h) last = open_stops s f base events which kept w o e later v h (front s events (kept_heard s f base events h))
    stops_in v front s f base events later (inr h) last = absurd (none_some (sym h.kept_is ∙ some))

    pub stops : (v : Option (List ℕ)) → ((s : Subject) (events : List Event) → HasHeard s events k → WritesFront w v (o ++ kept_text which (added s.config events e))) → TellsPart which kept w o e v
    stops v front = record { part = stops_in v front }

  -- ---- what was kept is told in part

  pub closes_part : (v : Option (List ℕ)) → ((s : Subject) (events : List Event) → HasHeard s events k → WritesFront w v (o ++ kept_text which (ending s events))) → ClosesPart w o which kept v
  closes_part v front = record {
    some = λ j s events is heard. front s events (subst (λ (i : Kept). HasHeard s events i) (same_one j k (sym is ∙ some)) heard);
    none = λ is. absurd (none_some (sym is ∙ some));
  }

-- ---- fronts of two lists of lines

two_texts : (which : Bool) (o : List ℕ) (a b : List ExplainLine) → o ++ (kept_text which a ++ kept_text which b) ≡ o ++ kept_text which (a ++ b)
two_texts which o a b = ap (λ (text : List ℕ). o ++ text) (sym (text_both which a b))

first_front : (which : Bool) (w v : Option (List ℕ)) (o : List ℕ) (a b : List ExplainLine) → WritesFront w v (o ++ kept_text which a) → WritesFront w v (o ++ kept_text which (a ++ b))
first_front which w v o a b front =
    subst (λ (text : List ℕ). WritesFront w v text) (append_assoc o (kept_text which a) (kept_text which b) ∙ two_texts which o a b)
    (front_first w v (o ++ kept_text which a) (kept_text which b) front)

second_front : (which : Bool) (w : Option (List ℕ)) (o : List ℕ) (a b : List ExplainLine) (g : Bool) (v u : Option (List ℕ)) (p : List ℕ)
    → Took which w o a g v p → WritesFront v u (p ++ kept_text g b) → WritesFront w u (o ++ kept_text which (a ++ b))
second_front which w o a b g v u p took front =
    subst (λ (text : List ℕ). WritesFront w u text) (two_texts which o a b)
    (front_behind w o (kept_text which a) v p (kept_text which b) u took.carried (subst (λ (x : Bool). WritesFront v u (p ++ kept_text x b)) took.which front))

-- ---- a counter

module _ (which : Bool) (kept : Option Kept) (w : Option (List ℕ)) (o : List ℕ) (side : Side) (n : Counter) (value : ℕ) where
  abbrev x : Event
  x = event.Count side n value

  abbrev own : List ExplainLine
  own = line.Count side n value ∷ []

  first_stops : (s : Subject) (f : Bool) (base : Option (List ℕ)) (events later : List Event) (v : Option (List ℕ)) → IsOpen s f base events which kept w o
      → counts_last (events ++ x ∷ later) ≡ true → WritesFront w v (o ++ kept_text which (ending s events ++ own))
      → WritesPart base v (explain_of f s.config (reasons_of s (events ++ x ∷ later)) (events ++ x ∷ later))
  first_stops s f base events later v h last front =
      let all = (events ++ x ∷ []) ++ later in
      let same : all ≡ events ++ x ∷ later = append_assoc events (x ∷ []) later in
      let stands = subst (λ (ls : List ExplainLine). StandsBefore ls (lines_of s.config (reasons_of s all) all))
      (lines_grow.first_count s events side n value h.plain ∙ append_assoc (open_lines s events) (ending s events) own)
      (lines_grow.counted s (events ++ x ∷ []) later (behind_count events x later last refl)) in
      subst (λ (es : List Event). WritesPart base v (explain_of f s.config (reasons_of s es) es)) same
      (text_part f base v s.config (reasons_of s all) all (open_lines s events ++ (ending s events ++ own)) stands
      (text_stops f base (open_lines s events) (ending s events ++ own) w v o h.carried
      (subst (λ (y : Bool). WritesFront w v (o ++ kept_text y (ending s events ++ own))) h.which_is front)))

  next_stops : (s : Subject) (f : Bool) (base : Option (List ℕ)) (events later : List Event) (v : Option (List ℕ)) → IsClosed s f base events which kept w o
      → counts_last (events ++ x ∷ later) ≡ true → WritesFront w v (o ++ kept_text which own)
      → WritesPart base v (explain_of f s.config (reasons_of s (events ++ x ∷ later)) (events ++ x ∷ later))
  next_stops s f base events later v h last front =
      let all = (events ++ x ∷ []) ++ later in
      let same : all ≡ events ++ x ∷ later = append_assoc events (x ∷ []) later in
      let stands = subst (λ (ls : List ExplainLine). StandsBefore ls (lines_of s.config (reasons_of s all) all))
      (lines_grow.next_count s events side n value)
      (lines_grow.counted s (events ++ x ∷ []) later (behind_count events x later last refl)) in
      subst (λ (es : List Event). WritesPart base v (explain_of f s.config (reasons_of s es) es)) same
      (text_part f base v s.config (reasons_of s all) all (counted_lines s events ++ own) stands
      (text_stops f base (counted_lines s events) own w v o h.carried
      (subst (λ (y : Bool). WritesFront w v (o ++ kept_text y own)) h.which_is front)))

  -- stopped before its line
  close_stops_in : (v : Option (List ℕ)) → ClosesPart w o which kept v
      → (s : Subject) (f : Bool) (base : Option (List ℕ)) (events later : List Event) → IsTold s f base events which kept w o → counts_last (events ++ x ∷ later) ≡ true
      → WritesPart base v (explain_of f s.config (reasons_of s (events ++ x ∷ later)) (events ++ x ∷ later))
  close_stops_in v closes s f base events later (inl h) last =
      first_stops s f base events later v h last (first_front which w v o (ending s events) own (closes.some h.kept_one s events h.kept_is h.heard))
  close_stops_in v closes s f base events later (inr h) last =
      next_stops s f base events later v h last (front_first w v o (kept_text which own) (closes.none h.kept_is))

  pub close_stops : (v : Option (List ℕ)) → ClosesPart w o which kept v → TellsPart which kept w o x v
  close_stops v closes = record { part = close_stops_in v closes }

  module _ (g : Bool) (v : Option (List ℕ)) (p : List ℕ) (closes : Closes w o which kept v p g) where
    count_grows_by : (h : Bool) (m : Option Kept) (u : Option (List ℕ)) (q : List ℕ) → m ≡ None → Took g v p own h u q
        → (s : Subject) (f : Bool) (base : Option (List ℕ)) (events : List Event) → IsTold s f base events which kept w o → IsTold s f base (events ++ x ∷ []) h m u q
    count_grows_by h m u q none took s f base events (inl is) =
        inr (subst (λ (k : Option Kept). IsClosed s f base (events ++ x ∷ []) h k u q) (sym none)
        (closed_first s f base events which kept w o side n value v u p q g h is (closes.some is.kept_one s events is.kept_is is.heard) took))
    count_grows_by h m u q none took s f base events (inr is) =
        inr (subst (λ (k : Option Kept). IsClosed s f base (events ++ x ∷ []) h k u q) (sym none)
        (closed_next s f base events which kept w o side n value u q h is (took_more which g h w v u o p q [] own (closes.none is.kept_is) took)))

    pub count_grows : (h : Bool) (m : Option Kept) (u : Option (List ℕ)) (q : List ℕ) → m ≡ None → Took g v p own h u q → Tells which kept w o x h m u q
    count_grows h m u q none took = record { told = count_grows_by h m u q none took }

    count_stops_in : (u : Option (List ℕ)) → WritesPart v u (p ++ kept_text g own)
        → (s : Subject) (f : Bool) (base : Option (List ℕ)) (events later : List Event) → IsTold s f base events which kept w o → counts_last (events ++ x ∷ later) ≡ true
        → WritesPart base u (explain_of f s.config (reasons_of s (events ++ x ∷ later)) (events ++ x ∷ later))
    count_stops_in u part s f base events later (inl is) last =
        first_stops s f base events later u is last
        (second_front which w o (ending s events) own g v u p (closes.some is.kept_one s events is.kept_is is.heard) (part_front v u _ part))
    count_stops_in u part s f base events later (inr is) last =
        next_stops s f base events later u is last (second_front which w o [] own g v u p (closes.none is.kept_is) (part_front v u _ part))

    pub count_stops : (u : Option (List ℕ)) → WritesPart v u (p ++ kept_text g own) → TellsPart which kept w o x u
    count_stops u part = record { part = count_stops_in u part }

-- ---- the end

abbrev end : List ExplainLine
end = line.End ∷ []

-- these lines were carried, and only the last is left of all
record IsNearEnd (s : Subject) (f : Bool) (base : Option (List ℕ)) (events : List Event) (g : Bool) (v : Option (List ℕ)) (p : List ℕ) : Type 0 where
  which_is : g ≡ f
  lines : List ExplainLine
  all_are : lines_of s.config (reasons_of s events) events ≡ lines ++ end
  carried : Carried base [] (text_of f lines) v p

whole_text : (s : Subject) (f : Bool) (events : List Event) (lines : List ExplainLine) → lines_of s.config (reasons_of s events) events ≡ lines ++ end
    → text_of f lines ++ kept_text f end ≡ explain_of f s.config (reasons_of s events) events
whole_text s f events lines is = text_more f lines end ∙ ap (text_of f) (sym is) ∙ sym (text_is f s.config (reasons_of s events) events)

module _ (which : Bool) (kept : Option Kept) (w : Option (List ℕ)) (o : List ℕ) (s : Subject) (f : Bool) (base : Option (List ℕ)) (events : List Event) where
  module _ (v : Option (List ℕ)) where
    open_end : (lines more : List ExplainLine) → lines_of s.config (reasons_of s events) events ≡ (lines ++ more) ++ end → Carried base [] (text_of f lines) w o
        → WritesFront w v (o ++ kept_text f more) → WritesPart base v (explain_of f s.config (reasons_of s events) events)
    open_end lines more is carried front =
        text_part f base v s.config (reasons_of s events) events (lines ++ more) (record { rest = []; is = is }) (text_stops f base lines more w v o carried front)

    pub close_part : ClosesPart w o which kept v → IsTold s f base events which kept w o → WritesPart base v (explain_of f s.config (reasons_of s events) events)
    close_part closes (inl h) =
        open_end (open_lines s events) (ending s events) (open_all s events h.plain) h.carried
        (subst (λ (y : Bool). WritesFront w v (o ++ kept_text y (ending s events))) h.which_is (closes.some h.kept_one s events h.kept_is h.heard))
    close_part closes (inr h) =
        text_part f base v s.config (reasons_of s events) events (counted_lines s events) (record { rest = []; is = closed_all s events })
        (front_pushed base [] (text_of f (counted_lines s events)) w o v h.carried (closes.none h.kept_is))

  module _ (g : Bool) (v : Option (List ℕ)) (p : List ℕ) (closes : Closes w o which kept v p g) where
    near_end : IsTold s f base events which kept w o → IsNearEnd s f base events g v p
    near_end (inl h) =
        let took = closes.some h.kept_one s events h.kept_is h.heard in
        record {
          which_is = took.which ∙ h.which_is;
          lines = open_lines s events ++ ending s events;
          all_are = open_all s events h.plain;
          carried = text_carried f base (open_lines s events) (ending s events) w v o p h.carried
              (subst (λ (y : Bool). Carried w o (kept_text y (ending s events)) v p) h.which_is took.carried);
        }
    near_end (inr h) =
        let took = closes.none h.kept_is in
        record {
          which_is = took.which ∙ h.which_is;
          lines = counted_lines s events ++ [];
          all_are = closed_all s events ∙ ap (λ (ls : List ExplainLine). ls ++ end) (sym (append-nil (counted_lines s events)));
          carried = text_carried f base (counted_lines s events) [] w v o p h.carried (subst (λ (y : Bool). Carried w o (kept_text y []) v p) h.which_is took.carried);
        }

    -- stopped in the last line
    end_part_of : (u : Option (List ℕ)) → IsNearEnd s f base events g v p → WritesPart v u (p ++ kept_text g end) → WritesPart base u (explain_of f s.config (reasons_of s events) events)
    end_part_of u h part =
        subst (λ (text : List ℕ). WritesPart base u text) (whole_text s f events h.lines h.all_are)
        (part_behind base [] (text_of f h.lines) v p (kept_text f end) u h.carried (subst (λ (y : Bool). WritesPart v u (p ++ kept_text y end)) h.which_is part))

    pub end_part : (u : Option (List ℕ)) → WritesPart v u (p ++ kept_text g end) → IsTold s f base events which kept w o → WritesPart base u (explain_of f s.config (reasons_of s events) events)
    end_part u part is = end_part_of u (near_end is) part

    -- all is told
    module _ (h : Bool) (u : Option (List ℕ)) (q : List ℕ) (took : Took g v p end h u q) where
      told_of : IsNearEnd s f base events g v p → Carried base [] (explain_of f s.config (reasons_of s events) events) u q
      told_of near =
          subst (λ (text : List ℕ). Carried base [] text u q) (ap (text_of f) (sym near.all_are) ∙ sym (text_is f s.config (reasons_of s events) events))
          (text_carried f base near.lines end v u p q near.carried (subst (λ (y : Bool). Carried v p (kept_text y end) u q) near.which_is took.carried))

      pub all_pushed : (now : Option (List ℕ)) → now ≡ append_known u q → IsTold s f base events which kept w o
          → now ≡ append_known base (explain_of f s.config (reasons_of s events) events)
      all_pushed now pushed is = pushed ∙ carried_known base [] (explain_of f s.config (reasons_of s events) events) u q (told_of (near_end is))

      pub part_left : (now : Option (List ℕ)) → WritesPart u now q → IsTold s f base events which kept w o → WritesPart base now (explain_of f s.config (reasons_of s events) events)
      part_left now part is = part_pushed base [] (explain_of f s.config (reasons_of s events) events) u q now (told_of (near_end is)) part
