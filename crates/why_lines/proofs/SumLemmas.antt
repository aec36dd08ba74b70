-- The sums of lines are those of the cells of a replay and of its plan.
use Rattle.std.proofs.Common.{◌≡◌, ℕ, ◌+◌, ◌==◌, Bool, true, false, List, [], ◌∷◌, ◌++◌, length, suc, refl, sym, ap, ap₂, subst, ◌∙◌, append-nil}
use Rattle.std.specs.Prelude.{◌&&◌, filter, if◌then◌else◌, is_some}
use Rattle.std.specs.List.{AllByRecursion, flat_map}
use Rattle.std.proofs.lemmas.Grind.{flat_map-append}
use Rattle.std.proofs.lemmas.List.Elements.{filter-append}
use Rattle.air_source.specs.Units.{same_side}
use Rattle.air_source.specs.declared.events.Event.{Event}
use Rattle.air_source.specs.declared.events.Event.TheVariants as event
use Rattle.air_source.specs.declared.events.Side.{Side}
use Rattle.air_source.specs.declared.events.Side.TheVariants.{Ru, Du}
use Rattle.window_config.specs.declared.config.Config.{Config}
use Rattle.window_config.specs.declared.endpoints.EndpointConfig.{EndpointConfig}
use Rattle.window_config.specs.declared.plan.PlanLine.{PlanLine}
use Rattle.explain_model.specs.Reasons.{word_of}
use Rattle.explain_model.specs.declared.reasons.ReasonWord.{ReasonWord}
use Rattle.explain_model.specs.declared.values.ExplainLine.{ExplainLine}
use Rattle.explain_model.specs.declared.values.ExplainLine.TheVariants as line
use Rattle.explain_model.specs.Cells.{Entry, Lines, Of, entries, event_lines, lines_in, piece_lines, runs_on}
use Rattle.explain_model.specs.Pieces.{pieces}
use Rattle.explain_model.specs.Text.{is_shown as is_shown_event, shown_by, shown_count, sum_lines, sums_of}
use Rattle.explain_model.proofs.PieceLemmas.{are_pieces}
use Rattle.explain_model.specs.Missing.{MissingCell, goes_on_missing, missing_line, missing_lines, missing_of, why_lines}
use Rattle.explain_model.specs.Same.{same_word}
use Rattle.explain_model.specs.Seen.{Seen, cell_runs, run_of, seen, seen_in, seen_of}
use Rattle.explain_model.specs.Silent.{SilentPrb, SilentSymbol, goes_on_silent, silent_in as silent_symbols_in, silent_line, silent_lines, silent_lines_of, silent_symbol_lines}
use Rattle.explain_model.specs.Sums.{missing_count, missing_sum, missing_sums, missing_words, reasoned, silent_at, silent_count, silent_sum, silent_sums, silent_words}
use Rattle.explain_model.specs.Told.{all_silent, missing_as_told, silent_as_told, told_missing, told_silent}
use Rattle.explain_model.specs.Unused.{UnusedBlock, UnusedSymbol, goes_on_unused, unused_line, unused_lines, unused_lines_of, unused_symbol_lines}
use Rattle.explain_model.proofs.SeenLemmas.{runs_hold_cells}
use Rattle.explain_model.proofs.ToldLemmas.{missing_are_told, silent_are_told}
use Rattle.why_lines.specs.Laws.{HaveLines, HaveNone, SumsAreOfLines, is_cells, is_why_missing, is_why_silent, told_lines}
use Rattle.why_lines.specs.Sums.{endpoint_text, missing_in, missing_text, shown_in, silent_in, silent_text, sum_in, sum_text}
use Rattle.why_lines.specs.declared.words.SumWord.TheVariants.{Shown, Missing, Silent}
use Rattle.why_lines.proofs.ReasonLineLemmas.{count_both, count_mapped, is_missing, is_shown, is_silent, missing_is, missing_only, only, shown_is, shown_only, silent_is, silent_only, sum_told, told_seen}
use Rattle.why_lines.proofs.OtherLemmas.{IsPlain, IsPlainEntry, all_of_each, all_parts, counts_none, entries_plain, first_none, margins_none, none_of_each}

-- ---- cells that are shown

plain_unseen : (l : ExplainLine) → IsPlain l → told_seen l ≡ []
plain_unseen (line.Cells run mask word) h = absurd h
plain_unseen _ h = refl

none_seen : (ls : List ExplainLine) → AllByRecursion IsPlain ls → flat_map told_seen ls ≡ []
none_seen [] h = refl
none_seen (l ∷ ls) h = ap₂ ◌++◌ (plain_unseen l h.0) (none_seen ls h.1)

piece_seen : (c : Config) (p : List Entry) → AllByRecursion IsPlainEntry p → flat_map told_seen (piece_lines p) ≡ flat_map seen_in (run_of c p)
unfolding seen_in
piece_seen c [] h = refl
piece_seen c (Lines ls ∷ rest) h = ap (flat_map told_seen) (append-nil ls) ∙ none_seen ls h.0
piece_seen c (Of a w ∷ rest) h = refl

pieces_seen : (c : Config) (ps : List (List Entry)) → AllByRecursion (AllByRecursion IsPlainEntry) ps → flat_map told_seen (flat_map piece_lines ps) ≡ flat_map seen_in (flat_map (run_of c) ps)
pieces_seen c [] h = refl
pieces_seen c (p ∷ ps) h =
    flat_map-append told_seen (piece_lines p) (flat_map piece_lines ps)
    ∙ ap₂ ◌++◌ (piece_seen c p h.0) (pieces_seen c ps h.1)
    ∙ sym (flat_map-append seen_in (run_of c p) (flat_map (run_of c) ps))

plain_pieces : (c : Config) (events : List Event) → AllByRecursion (AllByRecursion IsPlainEntry) (pieces runs_on (entries c events))
plain_pieces c events =
    all_parts IsPlainEntry (pieces runs_on (entries c events))
    (subst (AllByRecursion IsPlainEntry) (sym (are_pieces runs_on (entries c events)).all) (entries_plain c [] _))

events_seen : (c : Config) (events : List Event) → flat_map told_seen (event_lines c events) ≡ seen events
unfolding lines_in cell_runs
events_seen c events = pieces_seen c (pieces runs_on (entries c events)) (plain_pieces c events) ∙ runs_hold_cells c events

module _ (side : Side) (id : ℕ) where
  shown_step : (b : Bool) (s : Seen) (e : Event) (xs : List Seen) (ys : List Event) → length xs ≡ length ys → length (if b then s ∷ xs else xs) ≡ length (if b then e ∷ ys else ys)
  shown_step true s e xs ys h = ap suc h
  shown_step false s e xs ys h = h

  shown_events : (events : List Event) → length (filter (is_shown side id) (seen events)) ≡ length (filter (is_shown_event side id) events)
  unfolding seen
  shown_events [] = refl
  shown_events (event.Cell a ∷ rest) =
      shown_step (same_side a.side side && ((a.id == id) && is_some a.block)) (seen_of a) (event.Cell a) (filter (is_shown side id) (seen rest)) (filter (is_shown_event side id) rest) (shown_events rest)
  shown_events (event.Arrival at_side at frame ∷ rest) = shown_events rest
  shown_events (event.Delay at at_side number value ∷ rest) = shown_events rest
  shown_events (event.Count at_side counter value ∷ rest) = shown_events rest

  shown_of_events : (c : Config) (events : List Event) → shown_in side id (event_lines c events) ≡ shown_count side id events
  unfolding shown_count
  shown_of_events c events =
      sum_told side id Shown told_seen (is_shown side id) (shown_is side id) (event_lines c events)
      ∙ ap (λ xs. length (filter (is_shown side id) xs)) (events_seen c events)
      ∙ shown_events events

-- ---- cells that are missing

missing_of_events : (side : Side) (id : ℕ) (word : ReasonWord) (c : Config) (events : List Event) → missing_in side id word (why_lines c events) ≡ missing_count (missing_of c events) side id word
unfolding missing_count
missing_of_events side id word c events =
    sum_told side id (Missing word) told_missing (is_missing side id word) (missing_is side id word) (why_lines c events)
    ∙ ap (λ xs. length (filter (is_missing side id word) xs)) (missing_are_told c events).0
    ∙ count_mapped (is_missing side id word) missing_as_told (missing_of c events)

-- ---- PRBs that are silent

none_of : {A : Type 0} (xs : List A) → length (filter (λ x. false) xs) ≡ 0
none_of [] = refl
none_of (x ∷ xs) = none_of xs

if_all : {A : Type 0} (q : A → Bool) (xs : List A) (b : Bool) → length (filter (λ x. b && q x) xs) ≡ length (filter q (if b then xs else []))
if_all q xs true = refl
if_all q xs false = none_of xs

module _ (id : ℕ) (word : ReasonWord) where
  abbrev has_word : SilentPrb → Bool
  has_word x = same_word (word_of x.reason) word

  symbols_silent : (ss : List SilentSymbol) → length (filter (is_silent Ru id word) (flat_map all_silent ss)) ≡ length (filter has_word (flat_map (silent_at id) ss))
  symbols_silent [] = refl
  symbols_silent (s ∷ ss) =
      count_both (is_silent Ru id word) (all_silent s) (flat_map all_silent ss)
      ∙ ap₂ (λ m n. m + n)
      (count_mapped (is_silent Ru id word) (silent_as_told s) s.prbs ∙ if_all has_word s.prbs (s.planned.endpoint.id == id))
      (symbols_silent ss)
      ∙ sym (count_both has_word (silent_at id s) (flat_map (silent_at id) ss))

  none_distributed : (ss : List SilentSymbol) → length (filter (is_silent Du id word) (flat_map all_silent ss)) ≡ 0
  none_distributed [] = refl
  none_distributed (s ∷ ss) =
      count_both (is_silent Du id word) (all_silent s) (flat_map all_silent ss)
      ∙ ap₂ (λ m n. m + n) (count_mapped (is_silent Du id word) (silent_as_told s) s.prbs ∙ none_of s.prbs) (none_distributed ss)

  module _ (c : Config) (plan : List PlanLine) (numbers : List ℕ) (events : List Event) where
    silent_of_plan : silent_in Ru id word (silent_lines c plan numbers events) ≡ silent_count (silent_symbols_in c plan numbers events) id word
    unfolding silent_count
    silent_of_plan =
        sum_told Ru id (Silent word) told_silent (is_silent Ru id word) (silent_is Ru id word) (silent_lines c plan numbers events)
        ∙ ap (λ xs. length (filter (is_silent Ru id word) xs)) (silent_are_told c plan numbers events)
        ∙ symbols_silent (silent_symbols_in c plan numbers events)

    silent_elsewhere : silent_in Du id word (silent_lines c plan numbers events) ≡ 0
    silent_elsewhere =
        sum_told Du id (Silent word) told_silent (is_silent Du id word) (silent_is Du id word) (silent_lines c plan numbers events)
        ∙ ap (λ xs. length (filter (is_silent Du id word) xs)) (silent_are_told c plan numbers events)
        ∙ none_distributed (silent_symbols_in c plan numbers events)

-- ---- the text

lines_same : {A : Type 0} (f g : A → List ExplainLine) → ((x : A) → f x ≡ g x) → (xs : List A) → flat_map f xs ≡ flat_map g xs
lines_same f g same [] = refl
lines_same f g same (x ∷ xs) = ap₂ ◌++◌ (same x) (lines_same f g same xs)

module _ (c : Config) (plan : List PlanLine) (numbers : List ℕ) (events : List Event) (ls : List ExplainLine) (have : HaveLines c plan numbers events ls) where
  shown_same : (side : Side) (id : ℕ) → shown_in side id ls ≡ shown_count side id events
  shown_same side id =
      only side id Shown is_cells (shown_only side id) ls
      ∙ ap (sum_in side id Shown) have.cells
      ∙ sym (only side id Shown is_cells (shown_only side id) (event_lines c events))
      ∙ shown_of_events side id c events

  missing_same : (side : Side) (id : ℕ) (word : ReasonWord) → missing_in side id word ls ≡ missing_count (missing_of c events) side id word
  missing_same side id word =
      only side id (Missing word) is_why_missing (missing_only side id word) ls
      ∙ ap (sum_in side id (Missing word)) have.missing
      ∙ missing_of_events side id word c events

  silent_alone : (side : Side) (id : ℕ) (word : ReasonWord) → silent_in side id word ls ≡ silent_in side id word (silent_lines c plan numbers events)
  silent_alone side id word = only side id (Silent word) is_why_silent (silent_only side id word) ls ∙ ap (sum_in side id (Silent word)) have.silent

  missing_lines_same : (side : Side) (id : ℕ) → missing_text side id ls ≡ missing_sums (missing_of c events) side id
  unfolding missing_sums
  missing_lines_same side id = lines_same _ _ (λ word. ap (missing_sum side id word) (missing_same side id word)) missing_words

  silent_lines_same : (side : Side) (id : ℕ) → silent_text side id ls ≡ silent_sums (silent_symbols_in c plan numbers events) side id
  unfolding silent_sums
  silent_lines_same Ru id = lines_same _ _ (λ word. ap (silent_sum Ru id word) (silent_alone Ru id word ∙ silent_of_plan id word c plan numbers events)) silent_words
  silent_lines_same Du id = lines_same _ (λ word. []) (λ word. ap (silent_sum Du id word) (silent_alone Du id word ∙ silent_elsewhere id word c plan numbers events)) silent_words

  endpoint_same : (side : Side) (e : EndpointConfig) → endpoint_text side ls e ≡ sums_of side (reasoned c plan numbers events) events e
  endpoint_same side e =
      ap₂ ◌++◌ (ap (shown_by side e.id) (shown_same side e.id)) (ap₂ ◌++◌ (missing_lines_same side e.id) (silent_lines_same side e.id))

  of_unit : (side : Side) → sum_text c.endpoints side ls ≡ flat_map (sums_of side (reasoned c plan numbers events) events) c.endpoints
  unfolding sum_text
  of_unit side = lines_same _ _ (endpoint_same side) c.endpoints

  of_both : sum_text c.endpoints Ru ls ++ sum_text c.endpoints Du ls ≡ sum_lines c (reasoned c plan numbers events) events
  of_both = ap₂ ◌++◌ (of_unit Ru) (of_unit Du)

-- ---- the lines that are told have those that count

-- of a list of lines those of each kind
record Has (ls cells missing silent : List ExplainLine) : Type 0 where
  of_cells : filter is_cells ls ≡ cells
  of_missing : filter is_why_missing ls ≡ missing
  of_silent : filter is_why_silent ls ≡ silent

has_both : (xs ys a b d e f g : List ExplainLine) → Has xs a b d → Has ys e f g → Has (xs ++ ys) (a ++ e) (b ++ f) (d ++ g)
has_both xs ys a b d e f g h k = record {
  of_cells = filter-append is_cells xs ys ∙ ap₂ ◌++◌ h.of_cells k.of_cells;
  of_missing = filter-append is_why_missing xs ys ∙ ap₂ ◌++◌ h.of_missing k.of_missing;
  of_silent = filter-append is_why_silent xs ys ∙ ap₂ ◌++◌ h.of_silent k.of_silent;
}

has_none : (ls : List ExplainLine) → HaveNone ls → Has ls [] [] []
has_none ls h = record { of_cells = h.cells; of_missing = h.missing; of_silent = h.silent }

missing_piece : (p : List MissingCell) → Has (missing_line p) [] (missing_line p) []
missing_piece [] = record { of_cells = refl; of_missing = refl; of_silent = refl }
missing_piece (x ∷ xs) = record { of_cells = refl; of_missing = refl; of_silent = refl }

why_has : (xs : List MissingCell) → Has (missing_lines xs) [] (missing_lines xs) []
unfolding missing_lines
why_has xs = record {
  of_cells = none_of_each is_cells missing_line (λ p. (missing_piece p).of_cells) (pieces goes_on_missing xs);
  of_missing = all_of_each is_why_missing missing_line (λ p. (missing_piece p).of_missing) (pieces goes_on_missing xs);
  of_silent = none_of_each is_why_silent missing_line (λ p. (missing_piece p).of_silent) (pieces goes_on_missing xs);
}

silent_piece : (s : SilentSymbol) (p : List SilentPrb) → Has (silent_line s p) [] [] (silent_line s p)
silent_piece s [] = record { of_cells = refl; of_missing = refl; of_silent = refl }
silent_piece s (x ∷ xs) = record { of_cells = refl; of_missing = refl; of_silent = refl }

symbol_has : (s : SilentSymbol) → Has (silent_symbol_lines s) [] [] (silent_symbol_lines s)
unfolding silent_symbol_lines
symbol_has s = record {
  of_cells = none_of_each is_cells (silent_line s) (λ p. (silent_piece s p).of_cells) (pieces goes_on_silent s.prbs);
  of_missing = none_of_each is_why_missing (silent_line s) (λ p. (silent_piece s p).of_missing) (pieces goes_on_silent s.prbs);
  of_silent = all_of_each is_why_silent (silent_line s) (λ p. (silent_piece s p).of_silent) (pieces goes_on_silent s.prbs);
}

silent_has : (ss : List SilentSymbol) → Has (silent_lines_of ss) [] [] (silent_lines_of ss)
unfolding silent_lines_of
silent_has ss = record {
  of_cells = none_of_each is_cells silent_symbol_lines (λ s. (symbol_has s).of_cells) ss;
  of_missing = none_of_each is_why_missing silent_symbol_lines (λ s. (symbol_has s).of_missing) ss;
  of_silent = all_of_each is_why_silent silent_symbol_lines (λ s. (symbol_has s).of_silent) ss;
}

unused_piece : (u : UnusedSymbol) (p : List UnusedBlock) → Has (unused_line u p) [] [] []
unused_piece u [] = record { of_cells = refl; of_missing = refl; of_silent = refl }
unused_piece u (x ∷ xs) = record { of_cells = refl; of_missing = refl; of_silent = refl }

unused_symbol_has : (u : UnusedSymbol) → Has (unused_symbol_lines u) [] [] []
unfolding unused_symbol_lines
unused_symbol_has u = record {
  of_cells = none_of_each is_cells (unused_line u) (λ p. (unused_piece u p).of_cells) (pieces goes_on_unused u.blocks);
  of_missing = none_of_each is_why_missing (unused_line u) (λ p. (unused_piece u p).of_missing) (pieces goes_on_unused u.blocks);
  of_silent = none_of_each is_why_silent (unused_line u) (λ p. (unused_piece u p).of_silent) (pieces goes_on_unused u.blocks);
}

unused_has : (us : List UnusedSymbol) → Has (unused_lines_of us) [] [] []
unfolding unused_lines_of
unused_has us = record {
  of_cells = none_of_each is_cells unused_symbol_lines (λ u. (unused_symbol_has u).of_cells) us;
  of_missing = none_of_each is_why_missing unused_symbol_lines (λ u. (unused_symbol_has u).of_missing) us;
  of_silent = none_of_each is_why_silent unused_symbol_lines (λ u. (unused_symbol_has u).of_silent) us;
}

-- the lines of events have no reasons

plain_line : (l : ExplainLine) → IsPlain l → Has (l ∷ []) [] [] []
plain_line (line.Cells run mask word) h = absurd h
plain_line (line.WhyMissing run mask reason) h = absurd h
plain_line (line.WhySilent run mask number reason) h = absurd h
plain_line _ h = record { of_cells = refl; of_missing = refl; of_silent = refl }

plain_has : (ls : List ExplainLine) → AllByRecursion IsPlain ls → Has ls [] [] []
plain_has [] h = record { of_cells = refl; of_missing = refl; of_silent = refl }
plain_has (l ∷ ls) h = has_both (l ∷ []) ls [] [] [] [] [] [] (plain_line l h.0) (plain_has ls h.1)

abbrev NoReasons : List ExplainLine → Type 0
NoReasons ls = Has ls (filter is_cells ls) [] []

piece_has : (p : List Entry) → AllByRecursion IsPlainEntry p → NoReasons (piece_lines p)
piece_has [] h = record { of_cells = refl; of_missing = refl; of_silent = refl }
piece_has (Lines ls ∷ rest) h = let plain = plain_has ls h.0 in
    record {
      of_cells = refl;
      of_missing = ap (filter is_why_missing) (append-nil ls) ∙ plain.of_missing;
      of_silent = ap (filter is_why_silent) (append-nil ls) ∙ plain.of_silent;
    }
piece_has (Of a w ∷ rest) h = record { of_cells = refl; of_missing = refl; of_silent = refl }

pieces_have : (ps : List (List Entry)) → AllByRecursion (AllByRecursion IsPlainEntry) ps → NoReasons (flat_map piece_lines ps)
pieces_have [] h = record { of_cells = refl; of_missing = refl; of_silent = refl }
pieces_have (p ∷ ps) h =
    let both = has_both (piece_lines p) (flat_map piece_lines ps) _ [] [] _ [] [] (piece_has p h.0) (pieces_have ps h.1) in
    record { of_cells = refl; of_missing = both.of_missing; of_silent = both.of_silent }

events_have : (c : Config) (events : List Event) → NoReasons (event_lines c events)
unfolding lines_in
events_have c events = pieces_have (pieces runs_on (entries c events)) (plain_pieces c events)

told_have : (c : Config) (plan : List PlanLine) (numbers : List ℕ) (events : List Event) (front back : List ExplainLine) → HaveNone front → HaveNone back
    → HaveLines c plan numbers events (told_lines c plan numbers events front back)
told_have c plan numbers events front back none last =
    let why = why_lines c events in
    let silent = silent_lines c plan numbers events in
    let unused = unused_lines c events in
    let cells = filter is_cells (event_lines c events) in
    let reasons = has_both why (silent ++ unused) [] why [] [] [] (silent ++ []) (why_has _) (has_both silent unused [] [] silent [] [] [] (silent_has _) (unused_has _)) in
    let behind = has_both (why ++ (silent ++ unused)) back [] (why ++ []) (silent ++ []) [] [] [] reasons (has_none back last) in
    let from = has_both (event_lines c events) ((why ++ (silent ++ unused)) ++ back) cells [] [] [] ((why ++ []) ++ []) ((silent ++ []) ++ []) (events_have c events) behind in
    let all = has_both front _ [] [] [] (cells ++ []) ((why ++ []) ++ []) ((silent ++ []) ++ []) (has_none front none) from in
    record {
      cells = all.of_cells ∙ append-nil cells;
      missing = all.of_missing ∙ append-nil (why ++ []) ∙ append-nil why;
      silent = all.of_silent ∙ append-nil (silent ++ []) ∙ append-nil silent;
    }

pub sums_are : SumsAreOfLines
sums_are = record {
  unit = λ c plan numbers events ls side have. of_unit c plan numbers events ls have side;
  both = of_both;
  told = told_have;
  first = first_none;
  margins = margins_none;
  counts = counts_none;
}
