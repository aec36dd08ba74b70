-- Missing cells by runs are those of all cells.
use Rattle.std.proofs.Common.{◌≡◌, ℕ, zero, suc, ◌+◌, Bool, true, false, not, if◌then◌else◌, List, [], ◌∷◌, ◌++◌, filter, map, refl, sym, ap, ap₂, ◌∙◌}
use Rattle.std.specs.List.{AllByRecursion, flat_map}
use Rattle.std.proofs.lemmas.List.Elements.{filter-append}
use Rattle.air_source.specs.declared.events.Event.{Event}
use Rattle.window_config.specs.declared.config.Config.{Config}
use Rattle.fh_base.specs.Lists.{each}
use Rattle.explain_model.specs.Cells.{Entry, Lines, Of, runs}
use Rattle.explain_model.proofs.AloneLemmas.{others_never_matter}
use Rattle.explain_model.specs.Missing.{MissingCell, goes_on_missing, is_missing, missing_cell, missing_cells, missing_line, missing_lines, missing_of, why_lines}
use Rattle.explain_model.specs.SilentReasons.{Kept, kept, missing_reason, of_symbol}
use Rattle.explain_model.specs.Seen.{Seen, cell_runs, ep_of, run_of, seen_at, seen_in, seen_key}
use Rattle.explain_model.proofs.SeenLemmas.{runs_hold_cells}
use Rattle.explain_model.specs.Pieces.{pieces}
use Rattle.explain_heard.specs.Runs.{piece_line, run_lines}
use Rattle.explain_heard.proofs.MapLemmas.{run_lines_map}
use Rattle.explain_model.specs.Keys.{run_key}
use Rattle.explain_model.specs.declared.keys.SymbolKey.{SymbolKey}
use Rattle.explain_model.specs.declared.runs.CellRun.{CellRun}
use Rattle.explain_records.specs.Missing.{missing_cell_of, missing_line_of, missing_prb_at, missing_prbs, missing_prbs_by, missing_prbs_of, missing_related, missing_run_line, missing_text}
use Rattle.explain_records.specs.Stored.{SameBySymbol}
use Rattle.explain_records.specs.declared.missing.MissingPrb.{MissingPrb}
use Rattle.fh_base.proofs.EachLemmas.{each_same}
use Rattle.fh_base.proofs.MemberLemmas.{all_join as all_append}

-- ---- a run by the records of its symbol

pub alone : (all : Kept) (r : CellRun) → missing_prbs_by (of_symbol (run_key r) all) r ≡ missing_prbs_by all r
alone all r = each_same r.prb r.count (missing_prb_at (of_symbol (run_key r) all) r) (missing_prb_at all r)
    (λ prb. ap (λ e. let m : MissingPrb = record { run = r; prb = prb; reason = e } in m ∷ []) (others_never_matter.missing all (run_key r) prb))

-- those of a run, of records that are the same of each symbol
pub same_run : (all ordered : Kept) (r : CellRun) → ((key : SymbolKey) → of_symbol key ordered ≡ of_symbol key all) → missing_prbs_of ordered r ≡ missing_prbs_of all r
same_run all ordered r same =
    ap (λ xs. let ys : List MissingPrb = if r.shown then [] else xs in ys)
    (sym (alone ordered r) ∙ ap (λ k. missing_prbs_by k r) (same (run_key r)) ∙ alone all r)

pub same_runs : (all ordered : Kept) → ((key : SymbolKey) → of_symbol key ordered ≡ of_symbol key all) → (rs : List CellRun) → missing_prbs ordered rs ≡ missing_prbs all rs
same_runs all ordered same [] = refl
same_runs all ordered same (r ∷ rs) = ap₂ (λ x y. x ++ y) (same_run all ordered r same) (same_runs all ordered same rs)

-- ---- lists

pub map_append : {A B : Type 0} (f : A → B) (xs ys : List A) → map f (xs ++ ys) ≡ map f xs ++ map f ys
map_append f [] ys = refl
map_append f (x ∷ xs) ys = ap (λ l. f x ∷ l) (map_append f xs ys)

map_each : {A B : Type 0} (f : A → B) (first n : ℕ) (g : ℕ → A) → map f (each first n (λ k. g k ∷ [])) ≡ each first n (λ k. f (g k) ∷ [])
unfolding each
map_each f first zero g = refl
map_each f first (suc n) g = ap (λ l. f (g first) ∷ l) (map_each f (first + 1) n g)

filter_each : {A : Type 0} (p : A → Bool) (first n : ℕ) (g : ℕ → A) → ((k : ℕ) → p (g k) ≡ true) → filter p (each first n (λ k. g k ∷ [])) ≡ each first n (λ k. g k ∷ [])
unfolding each
filter_each p first zero g all = refl
filter_each p first (suc n) g all = rw (all first) (ap (λ l. g first ∷ l) (filter_each p (first + 1) n g all))

filter_none : {A : Type 0} (p : A → Bool) (first n : ℕ) (g : ℕ → A) → ((k : ℕ) → p (g k) ≡ false) → filter p (each first n (λ k. g k ∷ [])) ≡ []
unfolding each
filter_none p first zero g none = refl
filter_none p first (suc n) g none = rw (none first) (filter_none p (first + 1) n g none)

-- ---- the cells of a run

-- it names the endpoint that has its id
abbrev pub HasEndpoint : Config → CellRun → Type 0
HasEndpoint c r = r.ep ≡ ep_of c r.id

same_key : (c : Config) (r : CellRun) → HasEndpoint c r → (prb : ℕ) → run_key r ≡ seen_key c (seen_at r prb)
same_key c r is prb = ap (λ (n : ℕ). let k : SymbolKey = record { side = r.side; ep = n; slot = r.slot; symbol = r.symbol } in k) is

cells_missing : (c : Config) (all : Kept) (r : CellRun) → HasEndpoint c r → (b : Bool) → r.shown ≡ b
    → map missing_cell_of (let ys : List MissingPrb = if b then [] else missing_prbs_by all r in ys) ≡ missing_cells c all (seen_in r)
unfolding missing_cells seen_in
cells_missing c all r is true shown =
    sym (ap (map (missing_cell c all)) (filter_none is_missing r.prb r.count (seen_at r) (λ prb. ap not shown)))
cells_missing c all r is false shown =
    map_each missing_cell_of r.prb r.count (λ prb. let m : MissingPrb = record { run = r; prb = prb; reason = missing_reason all (run_key r) prb } in m)
    ∙ each_same r.prb r.count _ (λ prb. missing_cell c all (seen_at r prb) ∷ [])
    (λ prb. ap (λ k. let m : MissingCell = record { cell = seen_at r prb; reason = missing_reason all k prb } in m ∷ []) (same_key c r is prb))
    ∙ sym (map_each (missing_cell c all) r.prb r.count (seen_at r))
    ∙ sym (ap (map (missing_cell c all)) (filter_each is_missing r.prb r.count (seen_at r) (λ prb. ap not shown)))

cells_append : (c : Config) (all : Kept) (xs ys : List Seen) → missing_cells c all (xs ++ ys) ≡ missing_cells c all xs ++ missing_cells c all ys
unfolding missing_cells
cells_append c all xs ys = ap (map (missing_cell c all)) (filter-append is_missing xs ys) ∙ map_append (missing_cell c all) (filter is_missing xs) (filter is_missing ys)

cells_of_runs : (c : Config) (all : Kept) (rs : List CellRun) → AllByRecursion (HasEndpoint c) rs → map missing_cell_of (missing_prbs all rs) ≡ missing_cells c all (flat_map seen_in rs)
unfolding missing_cells
cells_of_runs c all [] h = refl
cells_of_runs c all (r ∷ rs) h =
    map_append missing_cell_of (missing_prbs_of all r) (missing_prbs all rs)
    ∙ ap₂ (λ x y. x ++ y) (cells_missing c all r h.0 r.shown refl) (cells_of_runs c all rs h.1)
    ∙ sym (cells_append c all (seen_in r) (flat_map seen_in rs))

-- ---- the runs that are kept

pub run_has : (c : Config) (es : List Entry) → AllByRecursion (HasEndpoint c) (run_of c es)
run_has c [] = tt
run_has c (Lines ls ∷ rest) = tt
run_has c (Of a w ∷ rest) = (refl, tt)

pub runs_have : (c : Config) (ps : List (List Entry)) → AllByRecursion (HasEndpoint c) (flat_map (run_of c) ps)
runs_have c [] = tt
runs_have c (p ∷ ps) = all_append (HasEndpoint c) (run_of c p) (flat_map (run_of c) ps) (run_has c p) (runs_have c ps)

kept_have : (c : Config) (events : List Event) → AllByRecursion (HasEndpoint c) (cell_runs c events)
unfolding cell_runs
kept_have c events = runs_have c (runs c events)

-- ---- their lines

line_same : (p : List MissingCell) → piece_line missing_run_line p ≡ missing_line p
line_same [] = refl
line_same (x ∷ xs) = refl

lines_same : (ps : List (List MissingCell)) → flat_map (piece_line missing_run_line) ps ≡ flat_map missing_line ps
lines_same [] = refl
lines_same (p ∷ ps) = ap₂ (λ x y. x ++ y) (line_same p) (lines_same ps)

pub text_is : (c : Config) (events : List Event) → missing_text (kept c events) (cell_runs c events) ≡ why_lines c events
unfolding missing_lines
text_is c events =
    sym (run_lines_map missing_cell_of goes_on_missing missing_run_line (missing_prbs (kept c events) (cell_runs c events)))
    ∙ ap (run_lines goes_on_missing missing_run_line) (cells_of_runs c (kept c events) (cell_runs c events) (kept_have c events)
    ∙ ap (missing_cells c (kept c events)) (runs_hold_cells c events))
    ∙ lines_same (pieces goes_on_missing (missing_of c events))

-- of records that are the same of each symbol
pub missing_told : (c : Config) (events : List Event) (ordered : Kept) → SameBySymbol (kept c events) ordered → missing_text ordered (cell_runs c events) ≡ why_lines c events
missing_told c events ordered same = ap (run_lines missing_related missing_line_of) (same_runs (kept c events) ordered same (cell_runs c events)) ∙ text_is c events
