-- Each thing that a unit judges has one line.
use Rattle.std.proofs.Common.{◌≡◌, ℕ, ℤ, Bool, true, false, List, [], ◌∷◌, ◌++◌, length, refl, sym, ap, ap₂, subst, ◌∙◌, append-nil, true≢false}
use Rattle.std.specs.Prelude.{◌==◌, ◌||◌, not, nat_lt, cond, if◌then◌else◌, filter, ⊤, Option, Some, None, Result, Ok, Err}
use Rattle.std.specs.List.{AllByRecursion, flat_map}
use Rattle.std.proofs.lemmas.List.Elements.{filter-append}
use Rattle.std.proofs.lemmas.Grind.{flat_map-append}
use Rattle.fh_base.specs.Numbering.{shape_of}
use Rattle.cplane_sections.specs.Tests.{checked}
use Rattle.cplane_sections.specs.declared.values.CHead.{CHead}
use Rattle.cplane_sections.specs.declared.values.CRefusal.{CRefusal}
use Rattle.ecpri_fragments.specs.Pieces.{joined}
use Rattle.ecpri_fragments.specs.Sequence.{application, id_of, is_fragmented, sequence_of}
use Rattle.ecpri_frames.specs.Messages.{Message}
use Rattle.ecpri_frames.specs.declared.heads.TheConstants.{ONE_WAY_DELAY, REAL_TIME_CONTROL, IQ_DATA}
use Rattle.fault_counters.specs.declared.kinds.Counter.TheVariants as counter
use Rattle.air_source.specs.declared.events.Side.{Side}
use Rattle.air_source.specs.declared.events.Side.TheVariants.{Ru, Du}
use Rattle.window_config.specs.declared.config.Config.{Config}
use Rattle.window_config.specs.declared.endpoints.EndpointConfig.{EndpointConfig}
use Rattle.unit_model.specs.Meetings.{Meeting, Ignored, command_read, control_met, find_endpoint, meet, met_by}
use Rattle.unit_model.specs.Judgements.{Judgement, Met, Commanded, Fragmented, Unread, Turned, Given}
use Rattle.explain_model.specs.declared.values.ExplainLine.{ExplainLine}
use Rattle.explain_model.specs.declared.values.ExplainLine.TheVariants as line
use Rattle.explain_model.specs.Cells.{Entry, Lines, Of, entries, entries_after, lines_in, piece_lines, runs_on}
use Rattle.explain_model.specs.Judged.{judged_before}
use Rattle.explain_model.specs.Messages.{line_to, message_lines}
use Rattle.explain_model.specs.Pieces.{AreLinked, pieces}
use Rattle.explain_model.specs.Sections.{control_line, data_line, frame_line, judged_lines, judgement_lines, story_lines, whole_line}
use Rattle.explain_model.specs.Stories.{Story, Told, Came, Cell, Delay, Count, stories, stories_in, told}
use Rattle.explain_model.proofs.PieceLemmas.{are_pieces}
use Rattle.explain_laws.specs.Each.{AreArrivals, EachJudgedHasOneLine, OneEach, has_line, is_arrival_line, is_piece}
use Rattle.fh_base.proofs.MemberLemmas.{all_join as all_both}
use Rattle.fh_base.proofs.CommonLemmas.{all_if}

-- ---- one judgement

module _ (n : ℕ) where
  both : (is : List Judgement) (ks : List ExplainLine) (js : List Judgement) (ls : List ExplainLine) → OneEach n is ks → OneEach n js ls → OneEach n (is ++ js) (ks ++ ls)
  both [] [] js ls h g = g
  both [] (k ∷ ks) js ls h g = absurd h
  both (i ∷ is) [] js ls h g = absurd h
  both (i ∷ is) (k ∷ ks) js ls h g = (h.0, both is ks js ls h.1 g)

  -- it, where it has a line
  abbrev kept : Bool → Judgement → List Judgement
  kept own j = if own then j ∷ [] else []

  module _ (side : Side) (es : List EndpointConfig) (at : ℤ) (m : Message) where
    -- a message that is met so has these lines
    abbrev IsSo : Meeting → List ExplainLine → Type 0
    IsSo x ls = OneEach n (kept (not (is_piece x)) (Met m)) ls

    no_piece : (fragmented : Bool) (e : EndpointConfig) (ep : ℕ) (payload : List ℕ) (r : Result CHead CRefusal)
        → is_piece (if fragmented then Ignored counter.CRefused else command_read ep e at payload r) ≡ false
    no_piece true e ep payload r = refl
    no_piece false e ep payload (Ok head) = refl
    no_piece false e ep payload (Err r) = refl

    no_command_piece : (s : Side) (ep : ℕ) (e : EndpointConfig) → is_piece (control_met s ep e at m.payload) ≡ false
    no_command_piece Ru ep e = no_piece (is_fragmented (sequence_of m.payload)) e ep (application m.payload) (checked (shape_of e.numerology) (application m.payload))
    no_command_piece Du ep e = refl

    by_kind : (ep : ℕ) (e : EndpointConfig) (command : Bool) → (m.head.kind == REAL_TIME_CONTROL) ≡ command
        → IsSo (met_by side m.head.kind at m.payload (Some (ep, e))) (line_to side n m (Some (ep, e)))
    by_kind ep e true is = rw (is, no_command_piece side ep e) ((refl, refl), tt)
    by_kind ep e false is = rw is tt

    by_endpoint : (o : Option (ℕ × EndpointConfig)) → IsSo (met_by side m.head.kind at m.payload o) (line_to side n m o)
    by_endpoint None = ((refl, refl, refl), tt)
    by_endpoint (Some found) = by_kind found.0 found.1 (m.head.kind == REAL_TIME_CONTROL) refl

    by_tests : (delay other short : Bool)
        → IsSo (if delay then Ignored counter.Delay else (if other then Ignored counter.OtherType else (if short then Ignored counter.Short else met_by side m.head.kind at m.payload (find_endpoint es (id_of m.payload)))))
        (if delay then line.Measure n m.place (length m.payload) ∷ []
        else (if other then line.Other n m.place m.head.kind (length m.payload) ∷ []
        else (if short then line.Short n m.place m.head.kind (length m.payload) ∷ []
        else line_to side n m (find_endpoint es (id_of m.payload)))))
    by_tests true o s = ((refl, refl, refl), tt)
    by_tests false true s = ((refl, refl, refl, refl), tt)
    by_tests false false true = ((refl, refl, refl, refl), tt)
    by_tests false false false = by_endpoint (find_endpoint es (id_of m.payload))

    message_each : IsSo (meet side es at m) (message_lines side es n m)
    unfolding meet message_lines
    message_each = by_tests (m.head.kind == ONE_WAY_DELAY) (not (m.head.kind == IQ_DATA || m.head.kind == REAL_TIME_CONTROL)) (nat_lt (length m.payload) 4)

  module _ (c : Config) (side : Side) (at : ℤ) where
    judgement_each : (before : List Judgement) (j : Judgement) → OneEach n (kept (has_line side c.endpoints at j) j) (judgement_lines c side n before j)
    unfolding control_line data_line whole_line
    judgement_each before (Met m) = message_each side c.endpoints at m
    judgement_each before (Commanded s v) = ((refl, refl, refl, refl), tt)
    judgement_each before (Fragmented e f v) = ((refl, refl, refl, refl, refl), tt)
    judgement_each before (Unread ep e m why) = ((refl, refl, refl), tt)
    judgement_each before (Turned ep e m) = ((refl, refl, refl), tt)
    judgement_each before (Given h v) = ((refl, refl, refl), tt)

    kept_first : (j : Judgement) (js : List Judgement) (own : Bool) → cond own (j ∷ js) js ≡ kept own j ++ js
    kept_first j js true = refl
    kept_first j js false = refl

    judged_each : (before js : List Judgement) → OneEach n (filter (has_line side c.endpoints at) js) (judged_lines c side n before js)
    unfolding judged_lines
    judged_each before [] = tt
    judged_each before (j ∷ js) =
        let own = has_line side c.endpoints at j in
        let later = filter (has_line side c.endpoints at) js in
        subst (λ (l : List Judgement). OneEach n l (judgement_lines c side n before j ++ judged_lines c side n (j ∷ before) js)) (sym (kept_first j later own))
        (both (kept own j) (judgement_lines c side n before j) later (judged_lines c side n (j ∷ before) js) (judgement_each before j) (judged_each (j ∷ before) js))

-- ---- all lines of an arrival are an arrival's

abbrev pub IsInner : ExplainLine → Type 0
IsInner (line.Measure number place size) = ⊤
IsInner (line.Other number place kind size) = ⊤
IsInner (line.Short number place kind size) = ⊤
IsInner (line.Unknown message kind) = ⊤
IsInner (line.Command message said) = ⊤
IsInner (line.Control s) = ⊤
IsInner (line.Fragment message bytes verdict) = ⊤
IsInner (line.Whole w) = ⊤
IsInner (line.Data s) = ⊤
IsInner _ = ⊥

module _ (c : Config) (side : Side) (n : ℕ) where
  line_inner : (m : Message) (o : Option (ℕ × EndpointConfig)) → AllByRecursion IsInner (line_to side n m o)
  line_inner m None = (tt, tt)
  line_inner m (Some found) = all_if IsInner (m.head.kind == REAL_TIME_CONTROL) _ [] (tt, tt) tt

  message_inner : (m : Message) → AllByRecursion IsInner (message_lines side c.endpoints n m)
  unfolding message_lines
  message_inner m =
      all_if IsInner (m.head.kind == ONE_WAY_DELAY) _ _ (tt, tt)
      (all_if IsInner (not (m.head.kind == IQ_DATA || m.head.kind == REAL_TIME_CONTROL)) _ _ (tt, tt)
      (all_if IsInner (nat_lt (length m.payload) 4) _ _ (tt, tt) (line_inner m (find_endpoint c.endpoints (id_of m.payload)))))

  judgement_inner : (before : List Judgement) (j : Judgement) → AllByRecursion IsInner (judgement_lines c side n before j)
  judgement_inner before (Met m) = message_inner m
  judgement_inner before (Commanded s v) = (tt, tt)
  judgement_inner before (Fragmented e f v) = (tt, tt)
  judgement_inner before (Unread ep e m why) = (tt, tt)
  judgement_inner before (Turned ep e m) = (tt, tt)
  judgement_inner before (Given h v) = (tt, tt)

  pub judged_inner : (before js : List Judgement) → AllByRecursion IsInner (judged_lines c side n before js)
  unfolding judged_lines
  judged_inner before [] = tt
  judged_inner before (j ∷ js) = all_both IsInner (judgement_lines c side n before j) _ (judgement_inner before j) (judged_inner (j ∷ before) js)

inner_is : (l : ExplainLine) → IsInner l → is_arrival_line l ≡ true
inner_is (line.Measure number place size) h = refl
inner_is (line.Other number place kind size) h = refl
inner_is (line.Short number place kind size) h = refl
inner_is (line.Unknown message kind) h = refl
inner_is (line.Command message said) h = refl
inner_is (line.Control s) h = refl
inner_is (line.Fragment message bytes verdict) h = refl
inner_is (line.Whole w) h = refl
inner_is (line.Data s) h = refl
inner_is _ h = absurd h

all_kept : (ls : List ExplainLine) → AllByRecursion IsInner ls → filter is_arrival_line ls ≡ ls
all_kept [] h = refl
all_kept (l ∷ ls) h = rw (inner_is l h.0) (ap (λ r. l ∷ r) (all_kept ls h.1))

-- ---- the lines of arrivals among all

abbrev of_entry : Entry → List ExplainLine
of_entry (Lines ls) = filter is_arrival_line ls
of_entry (Of a w) = []

cells_only : (rest : List Entry) (x : Entry) → AreLinked runs_on (x ∷ rest) → of_entry x ≡ [] → flat_map of_entry rest ≡ []
cells_only [] x h is = refl
cells_only (Lines ls ∷ rest) (Lines ks) h is = absurd (true≢false (sym h.0))
cells_only (Lines ls ∷ rest) (Of a w) h is = absurd (true≢false (sym h.0))
cells_only (Of b v ∷ rest) x h is = cells_only rest (Of b v) h.1 refl

of_piece : (p : List Entry) → AreLinked runs_on p → filter is_arrival_line (piece_lines p) ≡ flat_map of_entry p
of_piece [] h = refl
of_piece (Lines ls ∷ []) h = ap (filter is_arrival_line) (append-nil ls) ∙ sym (append-nil (filter is_arrival_line ls))
of_piece (Lines ls ∷ Lines ks ∷ rest) h = absurd (true≢false (sym h.0))
of_piece (Lines ls ∷ Of a w ∷ rest) h = absurd (true≢false (sym h.0))
of_piece (Of a w ∷ rest) h = sym (cells_only rest (Of a w) h refl)

of_pieces : (ps : List (List Entry)) → AllByRecursion (AreLinked runs_on) ps → filter is_arrival_line (flat_map piece_lines ps) ≡ flat_map of_entry (joined ps)
of_pieces [] h = refl
of_pieces (p ∷ ps) h =
    filter-append is_arrival_line (piece_lines p) (flat_map piece_lines ps)
    ∙ ap₂ ◌++◌ (of_piece p h.0) (of_pieces ps h.1)
    ∙ sym (flat_map-append of_entry p (joined ps))

of_lines : (es : List Entry) → filter is_arrival_line (lines_in es) ≡ flat_map of_entry es
unfolding lines_in
of_lines es = of_pieces (pieces runs_on es) (are_pieces runs_on es).linked ∙ ap (flat_map of_entry) (are_pieces runs_on es).all

module _ (c : Config) where
  arrival_of : (before : List Judgement) (s : Story) → filter is_arrival_line (story_lines c before s) ≡ frame_line s ∷ judged_lines c s.side s.number before s.judged
  unfolding story_lines
  arrival_of before s = ap (λ r. frame_line s ∷ r) (all_kept (judged_lines c s.side s.number before s.judged) (judged_inner c s.side s.number before s.judged))

  are : (earlier ts : List Told) → AreArrivals c (stories_in ts) (flat_map of_entry (entries_after c earlier ts))
  unfolding entries_after stories_in
  are earlier [] = refl
  are earlier (Came s ∷ ts) =
      let before = judged_before s.side earlier in
      let own = judged_lines c s.side s.number before s.judged in
      let later = flat_map of_entry (entries_after c (earlier ++ Came s ∷ []) ts) in
      (own, later, record { is = ap (λ r. r ++ later) (arrival_of before s); each = judged_each s.number c s.side s.arrival.at before s.judged }, are (earlier ++ Came s ∷ []) ts)
  are earlier (Cell a ∷ ts) = are (earlier ++ Cell a ∷ []) ts
  are earlier (Delay at side id value ∷ ts) = are (earlier ++ Delay at side id value ∷ []) ts
  are earlier (Count side k value ∷ ts) = are (earlier ++ Count side k value ∷ []) ts

pub each_has_one : EachJudgedHasOneLine
each_has_one c events = subst (AreArrivals c (stories c events)) (sym (of_lines (entries c events))) (are c [] (told c events))
