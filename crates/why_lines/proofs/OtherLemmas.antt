-- Lines of other kinds.
use Rattle.std.proofs.Common.{◌≡◌, ℕ, Bool, false, List, [], ◌∷◌, ◌++◌, length, refl, ap, ap₂, ◌∙◌}
use Rattle.std.specs.Prelude.{◌==◌, ◌||◌, not, nat_lt, filter, if◌then◌else◌, ⊤, Option, Some, None}
use Rattle.std.specs.List.{AllByRecursion, flat_map}
use Rattle.std.proofs.lemmas.List.Elements.{filter-append}
use Rattle.ecpri_fragments.specs.Pieces.{joined}
use Rattle.ecpri_fragments.specs.Sequence.{id_of}
use Rattle.ecpri_frames.specs.Messages.{Message}
use Rattle.ecpri_frames.specs.declared.heads.TheConstants.{ONE_WAY_DELAY, REAL_TIME_CONTROL, IQ_DATA}
use Rattle.air_source.specs.declared.events.Event.{Event}
use Rattle.air_source.specs.declared.events.Event.TheVariants as event
use Rattle.air_source.specs.declared.events.Side.{Side}
use Rattle.air_source.specs.declared.events.Side.TheVariants.{Ru, Du}
use Rattle.window_config.specs.declared.config.Config.{Config}
use Rattle.window_config.specs.declared.endpoints.EndpointConfig.{EndpointConfig}
use Rattle.unit_model.specs.Meetings.{find_endpoint}
use Rattle.unit_model.specs.Judgements.{Judgement, Met, Commanded, Fragmented, Unread, Turned, Given}
use Rattle.explain_model.specs.declared.values.ExplainLine.{ExplainLine}
use Rattle.explain_model.specs.declared.values.ExplainLine.TheVariants as line
use Rattle.explain_model.specs.declared.values.Margin.{Margin}
use Rattle.explain_model.specs.declared.values.MarginClass.{MarginClass}
use Rattle.explain_model.specs.declared.values.MarginClass.TheVariants.{Down, Up, Data}
use Rattle.explain_model.specs.Cells.{Entry, Lines, Of, entries_after}
use Rattle.explain_model.specs.Judged.{judged_before}
use Rattle.explain_model.specs.Margins.{Dated, dated, dated_at, margin_line, margin_lines, margins_at, margins_of}
use Rattle.explain_model.specs.Messages.{line_to, message_lines}
use Rattle.explain_model.specs.Sections.{judged_lines, judgement_lines, story_lines}
use Rattle.explain_model.specs.Stories.{Story, Told, Came, Cell, Delay, Count}
use Rattle.explain_model.specs.Text.{count_line, count_lines, endpoint_lines, first_lines}
use Rattle.why_lines.specs.Laws.{HaveNone, is_cells, is_why_missing, is_why_silent}
use Rattle.fh_base.proofs.MemberLemmas.{all_join as all_both}
use Rattle.fh_base.proofs.CommonLemmas.{all_if, all_left, all_right}

-- ---- lists of which each passes, or none

none_both : (p : ExplainLine → Bool) (xs ys : List ExplainLine) → filter p xs ≡ [] → filter p ys ≡ [] → filter p (xs ++ ys) ≡ []
none_both p xs ys h k = filter-append p xs ys ∙ ap₂ ◌++◌ h k

pub none_of_each : {A : Type 0} (p : ExplainLine → Bool) (f : A → List ExplainLine) → ((x : A) → filter p (f x) ≡ []) → (xs : List A) → filter p (flat_map f xs) ≡ []
none_of_each p f none [] = refl
none_of_each p f none (x ∷ xs) = none_both p (f x) (flat_map f xs) (none x) (none_of_each p f none xs)

pub all_of_each : {A : Type 0} (p : ExplainLine → Bool) (f : A → List ExplainLine) → ((x : A) → filter p (f x) ≡ f x) → (xs : List A) → filter p (flat_map f xs) ≡ flat_map f xs
all_of_each p f all [] = refl
all_of_each p f all (x ∷ xs) = filter-append p (f x) (flat_map f xs) ∙ ap₂ ◌++◌ (all x) (all_of_each p f all xs)

-- ---- what is around the lines of events and of reasons

module _ (p : ExplainLine → Bool) where
  no_endpoint : ((e : EndpointConfig) → p (line.Endpoint e) ≡ false) → (es : List EndpointConfig) → filter p (endpoint_lines es) ≡ []
  no_endpoint none [] = refl
  no_endpoint none (e ∷ es) =
      ap₂ (λ (b : Bool) (xs : List ExplainLine). if b then line.Endpoint e ∷ xs else xs) (none e) (no_endpoint none es)

  module _ (none : (side : Side) (of : MarginClass) (id : ℕ) (m : Margin) → p (line.Margin side of id m) ≡ false) where
    no_margin : (side : Side) (of : MarginClass) (id : ℕ) (ds : List Dated) → filter p (margin_line side of id ds) ≡ []
    no_margin side of id [] = refl
    no_margin side of id (d ∷ ds) = ap (λ (b : Bool). let xs : List ExplainLine = if b then margin_line side of id (d ∷ ds) else [] in xs) (none side of id _)

    no_margins_of : (side : Side) (of : MarginClass) (es : List EndpointConfig) (ds : List Dated) → filter p (margins_of side of es ds) ≡ []
    no_margins_of side of es ds = none_of_each p (λ e. margin_line side of e.id (dated_at of e.id ds)) (λ e. no_margin side of e.id (dated_at of e.id ds)) es

    no_margins_at : (side : Side) (es : List EndpointConfig) (ds : List Dated) → filter p (margins_at side es ds) ≡ []
    no_margins_at side es ds =
        none_both p (margins_of side Down es ds) _ (no_margins_of side Down es ds)
        (none_both p (margins_of side Up es ds) (margins_of side Data es ds) (no_margins_of side Up es ds) (no_margins_of side Data es ds))

    no_margins : (c : Config) (events : List Event) → filter p (margin_lines c events) ≡ []
    unfolding margin_lines
    no_margins c events =
        none_both p (margins_at Ru c.endpoints (dated Ru c events)) (margins_at Du c.endpoints (dated Du c events))
        (no_margins_at Ru c.endpoints (dated Ru c events)) (no_margins_at Du c.endpoints (dated Du c events))

pub first_none : (c : Config) → HaveNone (first_lines c)
first_none c = record {
  cells = no_endpoint is_cells (λ e. refl) c.endpoints;
  missing = no_endpoint is_why_missing (λ e. refl) c.endpoints;
  silent = no_endpoint is_why_silent (λ e. refl) c.endpoints;
}

pub margins_none : (c : Config) (events : List Event) → HaveNone (margin_lines c events)
margins_none c events = record {
  cells = no_margins is_cells (λ side of id m. refl) c events;
  missing = no_margins is_why_missing (λ side of id m. refl) c events;
  silent = no_margins is_why_silent (λ side of id m. refl) c events;
}

no_count : (e : Event) → HaveNone (count_line e)
no_count (event.Count side counter value) = record { cells = refl; missing = refl; silent = refl }
no_count (event.Cell a) = record { cells = refl; missing = refl; silent = refl }
no_count (event.Arrival side at frame) = record { cells = refl; missing = refl; silent = refl }
no_count (event.Delay at side number value) = record { cells = refl; missing = refl; silent = refl }

pub counts_none : (events : List Event) → HaveNone (count_lines events)
counts_none events = record {
  cells = none_of_each is_cells count_line (λ e. (no_count e).cells) events;
  missing = none_of_each is_why_missing count_line (λ e. (no_count e).missing) events;
  silent = none_of_each is_why_silent count_line (λ e. (no_count e).silent) events;
}

-- ---- the lines of an arrival

-- neither cells nor a reason
abbrev pub IsPlain : ExplainLine → Type 0
IsPlain (line.Cells run mask word) = ⊥
IsPlain (line.WhyMissing run mask reason) = ⊥
IsPlain (line.WhySilent run mask number reason) = ⊥
IsPlain _ = ⊤

module _ (c : Config) (side : Side) (n : ℕ) where
  line_plain : (m : Message) (o : Option (ℕ × EndpointConfig)) → AllByRecursion IsPlain (line_to side n m o)
  line_plain m None = (tt, tt)
  line_plain m (Some found) = all_if IsPlain (m.head.kind == REAL_TIME_CONTROL) _ [] (tt, tt) tt

  message_plain : (m : Message) → AllByRecursion IsPlain (message_lines side c.endpoints n m)
  unfolding message_lines
  message_plain m =
      all_if IsPlain (m.head.kind == ONE_WAY_DELAY) _ _ (tt, tt)
      (all_if IsPlain (not (m.head.kind == IQ_DATA || m.head.kind == REAL_TIME_CONTROL)) _ _ (tt, tt)
      (all_if IsPlain (nat_lt (length m.payload) 4) _ _ (tt, tt) (line_plain m (find_endpoint c.endpoints (id_of m.payload)))))

  judgement_plain : (before : List Judgement) (j : Judgement) → AllByRecursion IsPlain (judgement_lines c side n before j)
  judgement_plain before (Met m) = message_plain m
  judgement_plain before (Commanded s v) = (tt, tt)
  judgement_plain before (Fragmented e f v) = (tt, tt)
  judgement_plain before (Unread ep e m why) = (tt, tt)
  judgement_plain before (Turned ep e m) = (tt, tt)
  judgement_plain before (Given h v) = (tt, tt)

  judged_plain : (before js : List Judgement) → AllByRecursion IsPlain (judged_lines c side n before js)
  unfolding judged_lines
  judged_plain before [] = tt
  judged_plain before (j ∷ js) = all_both IsPlain (judgement_lines c side n before j) _ (judgement_plain before j) (judged_plain (j ∷ before) js)

story_plain : (c : Config) (before : List Judgement) (s : Story) → AllByRecursion IsPlain (story_lines c before s)
unfolding story_lines
story_plain c before s = (tt, judged_plain c s.side s.number before s.judged)

-- ---- and of all events

abbrev pub IsPlainEntry : Entry → Type 0
IsPlainEntry (Lines ls) = AllByRecursion IsPlain ls
IsPlainEntry (Of a w) = ⊤

pub entries_plain : (c : Config) (earlier ts : List Told) → AllByRecursion IsPlainEntry (entries_after c earlier ts)
unfolding entries_after
entries_plain c earlier [] = tt
entries_plain c earlier (Came s ∷ ts) = (story_plain c (judged_before s.side earlier) s, entries_plain c (earlier ++ Came s ∷ []) ts)
entries_plain c earlier (Cell a ∷ ts) = (tt, entries_plain c (earlier ++ Cell a ∷ []) ts)
entries_plain c earlier (Delay at side id value ∷ ts) = ((tt, tt), entries_plain c (earlier ++ Delay at side id value ∷ []) ts)
entries_plain c earlier (Count side counter value ∷ ts) = (tt, entries_plain c (earlier ++ Count side counter value ∷ []) ts)

pub all_parts : {A : Type 0} (P : A → Type 0) (ps : List (List A)) → AllByRecursion P (joined ps) → AllByRecursion (AllByRecursion P) ps
all_parts P [] h = tt
all_parts P (p ∷ ps) h = (all_left P p (joined ps) h, all_parts P ps (all_right P p (joined ps) h))
