-- The lines of cells that are given one by one are those of the runs that the complete list is cut into.
use Rattle.std.proofs.Common.{◌≡◌, ℕ, pos, ◌+◌, ◌+ℤ◌, Bool, true, false, ◌&&◌, cond, nat_lt, List, [], ◌∷◌, ◌++◌, Option, None, Some, refl, sym, ap, subst, ◌∙◌, arith, append_assoc, append-nil}
use Rattle.std.specs.Cmp.{second_so}
use Rattle.std.specs.List.{flat_map}
use Rattle.std.proofs.lemmas.Int.{ints}
use Rattle.std.proofs.lemmas.List.Concat.{flat_map-cons}
use Rattle.std.proofs.lemmas.List.Sums.{fold_push}
use Rattle.air_source.specs.declared.events.AirCell.{AirCell}
use Rattle.report_airs.specs.declared.totals.Totals.{Totals}
use Rattle.report_airs.specs.Lines.{sum_line, line_text}
use Rattle.report_airs.specs.OpenRuns.{OpenRun}
use Rattle.report_airs.specs.Places.{place_of, same_place}
use Rattle.report_airs.specs.Totals.{no_totals, cell_totals, plus, run_totals}
use Rattle.report_airs.specs.Summary.{follows, joined, runs_of, run_text, cells_text}
use Rattle.report_airs.specs.States.{opened, goes_on_with, with_cell, run_ended, run_after, run_line}
use Rattle.report_airs.proofs.Same.{same_is}

-- the lines that cells give one by one, and that of the run that is open at the end
unfoldable pub lines_by : Option OpenRun → List AirCell → List ℕ
lines_by o [] = run_line o
lines_by o (c ∷ cells) = run_line (run_ended o c) ++ lines_by (Some (run_after o c)) cells

-- the run that is open is that of these cells, of which the last is l
record IsRunOf (r : OpenRun) (before : List AirCell) (l : AirCell) : Type 0 where
  place : r.place ≡ place_of l
  prb : r.prb ≡ l.prb
  totals : r.totals ≡ run_totals (before ++ l ∷ [])
  first : (cells : List AirCell) → run_text ((before ++ l ∷ []) ++ cells) ≡ sum_line (place_of l) (run_totals ((before ++ l ∷ []) ++ cells))

plus_none : (t : Totals) → plus no_totals t ≡ t
plus_none t =
    let e : 0 + t.elements ≡ t.elements = omega arith in
    let i : pos 0 +ℤ t.i ≡ t.i = omega (arith, ints) in
    let q : pos 0 +ℤ t.q ≡ t.q = omega (arith, ints) in
    let m : 0 + t.missing ≡ t.missing = omega arith in
    λ k. record { elements = e k; i = i k; q = q k; missing = m k }

opened_is : (c : AirCell) → IsRunOf (opened c) [] c
opened_is c = record { place = refl; prb = refl; totals = sym (plus_none (cell_totals c)); first = λ cells. refl }

grown_is : (r : OpenRun) (before : List AirCell) (l c : AirCell) → IsRunOf r before l → goes_on_with r c ≡ true → IsRunOf (with_cell r c) (before ++ l ∷ []) c
grown_is r before l c h goes =
    let same : r.place ≡ place_of c = same_is r.place (place_of c) (second_so (nat_lt r.prb c.prb) (same_place r.place (place_of c)) goes) in
    let here : place_of l ≡ place_of c = sym h.place ∙ same in
    record {
      place = same;
      prb = refl;
      totals = ap (λ t. plus t (cell_totals c)) h.totals ∙ sym (fold_push (λ t c. plus t (cell_totals c)) no_totals (before ++ l ∷ []) c);
      first = λ cells.
          ap run_text (append_assoc (before ++ l ∷ []) (c ∷ []) cells)
          ∙ h.first (c ∷ cells)
          ∙ ap (λ p. sum_line p (run_totals ((before ++ l ∷ []) ++ c ∷ cells))) here
          ∙ ap (λ cs. sum_line (place_of c) (run_totals cs)) (sym (append_assoc (before ++ l ∷ []) (c ∷ []) cells));
    }

-- its line
own_line : (r : OpenRun) (before : List AirCell) (l : AirCell) → IsRunOf r before l → line_text r ≡ run_text (before ++ l ∷ [])
own_line r before l h =
    let cells = before ++ l ∷ [] in
    ap (λ p. sum_line p r.totals) h.place
    ∙ ap (sum_line (place_of l)) h.totals
    ∙ sym (subst (λ (cs : List AirCell). run_text cs ≡ sum_line (place_of l) (run_totals cs)) (append-nil cells) (h.first []))

-- whether a cell goes on it is whether it follows its last cell
goes_is : (r : OpenRun) (before : List AirCell) (l c : AirCell) → IsRunOf r before l → goes_on_with r c ≡ follows l c
goes_is r before l c h =
    ap (λ n. nat_lt n c.prb && same_place r.place (place_of c)) h.prb
    ∙ ap (λ p. nat_lt l.prb c.prb && same_place p (place_of c)) h.place

-- cells before the first of some runs
behind : List AirCell → List (List AirCell) → List (List AirCell)
behind before [] = []
behind before (run ∷ runs) = (before ++ run) ∷ runs

-- the first run begins with the first cell
record Begins (c : AirCell) (all : List (List AirCell)) : Type 0 where
  run : List AirCell
  runs : List (List AirCell)
  is : all ≡ (c ∷ run) ∷ runs

split : (b : Bool) (c d : AirCell) (run : List AirCell) (runs : List (List AirCell)) → Begins c (cond b ((c ∷ d ∷ run) ∷ runs) ((c ∷ []) ∷ (d ∷ run) ∷ runs))
split true c d run runs = record { run = d ∷ run; runs = runs; is = refl }
split false c d run runs = record { run = []; runs = (d ∷ run) ∷ runs; is = refl }

begins : (c : AirCell) (all : List (List AirCell)) → Begins c (joined c all)
begins c [] = record { run = []; runs = []; is = refl }
begins c ([] ∷ runs) = record { run = []; runs = runs; is = refl }
begins c ((d ∷ run) ∷ runs) = split (follows c d) c d run runs

starts : (c : AirCell) (cells : List AirCell) → Begins c (runs_of (c ∷ cells))
unfolding runs_of
starts c cells = begins c (runs_of cells)

-- one more cell
one_cell : (r : OpenRun) (c : AirCell) (cells : List AirCell) (b : Bool) → goes_on_with r c ≡ b
    → lines_by (Some r) (c ∷ cells) ≡ run_line (cond b None (Some r)) ++ lines_by (Some (cond b (with_cell r c) (opened c))) cells
unfolding lines_by
one_cell r c cells b e = ap (λ v. run_line (cond v None (Some r)) ++ lines_by (Some (cond v (with_cell r c) (opened c))) cells) e

-- what holds of the lines of these cells, from each open run on
abbrev FromRun : List AirCell → Type 0
FromRun cells = (r : OpenRun) (before : List AirCell) (l : AirCell) → IsRunOf r before l → lines_by (Some r) cells ≡ flat_map run_text (behind before (runs_of (l ∷ cells)))

-- how the runs go on
joins : (before : List AirCell) (l c : AirCell) (cells run : List AirCell) (runs : List (List AirCell)) (b : Bool) → runs_of (c ∷ cells) ≡ (c ∷ run) ∷ runs → follows l c ≡ b
    → flat_map run_text (behind before (runs_of (l ∷ c ∷ cells))) ≡ flat_map run_text (behind before (cond b ((l ∷ c ∷ run) ∷ runs) ((l ∷ []) ∷ (c ∷ run) ∷ runs)))
unfolding runs_of
joins before l c cells run runs b is e =
    ap (λ all. flat_map run_text (behind before (joined l all))) is
    ∙ ap (λ v. flat_map run_text (behind before (cond v ((l ∷ c ∷ run) ∷ runs) ((l ∷ []) ∷ (c ∷ run) ∷ runs)))) e

next : (b : Bool) (r : OpenRun) (before : List AirCell) (l c : AirCell) (cells run : List AirCell) (runs : List (List AirCell)) → FromRun cells → IsRunOf r before l
    → runs_of (c ∷ cells) ≡ (c ∷ run) ∷ runs → follows l c ≡ b → lines_by (Some r) (c ∷ cells) ≡ flat_map run_text (behind before (runs_of (l ∷ c ∷ cells)))
unfolding behind
next true r before l c cells run runs from h is e =
    let goes = goes_is r before l c h ∙ e in
    one_cell r c cells true goes
    ∙ from (with_cell r c) (before ++ l ∷ []) c (grown_is r before l c h goes)
    ∙ ap (λ all. flat_map run_text (behind (before ++ l ∷ []) all)) is
    ∙ ap (λ cs. flat_map run_text (cs ∷ runs)) (append_assoc before (l ∷ []) (c ∷ run))
    ∙ sym (joins before l c cells run runs true is e)
next false r before l c cells run runs from h is e =
    let goes = goes_is r before l c h ∙ e in
    one_cell r c cells false goes
    ∙ ap (λ bytes. line_text r ++ bytes) (from (opened c) [] c (opened_is c) ∙ ap (λ all. flat_map run_text (behind [] all)) is)
    ∙ ap (λ bytes. bytes ++ flat_map run_text ((c ∷ run) ∷ runs)) (own_line r before l h)
    ∙ sym (flat_map-cons run_text (before ++ l ∷ []) ((c ∷ run) ∷ runs))
    ∙ sym (joins before l c cells run runs false is e)

-- from an open run on, the lines are those of the runs
from_run : (cells : List AirCell) → FromRun cells
unfolding lines_by behind runs_of
from_run [] = λ r before l h. own_line r before l h ∙ sym (append-nil (run_text (before ++ l ∷ []))) ∙ sym (flat_map-cons run_text (before ++ l ∷ []) [])
from_run (c ∷ cells) = λ r before l h.
    let s = starts c cells in
    next (follows l c) r before l c cells s.run s.runs (from_run cells) h s.is refl

-- the lines of cells that are given one by one, from none on
pub lines_are : (cells : List AirCell) → lines_by None cells ≡ cells_text cells
unfolding lines_by behind runs_of
lines_are [] = refl
lines_are (c ∷ cells) =
    let s = starts c cells in
    from_run cells (opened c) [] c (opened_is c)
    ∙ ap (λ all. flat_map run_text (behind [] all)) s.is
    ∙ ap (flat_map run_text) (sym s.is)
