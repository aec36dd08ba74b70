-- What one more event adds to the lines.
use Rattle.std.proofs.Common.{◌≡◌, ℕ, suc, ◌+◌, Bool, true, false, List, [], ◌∷◌, ◌++◌, length, refl, sym, ap, subst, ◌∙◌, append_assoc, append-nil, length-append, true≢false, arith}
use Rattle.std.specs.Prelude.{◌==◌, if◌then◌else◌, Some, None}
use Rattle.std.specs.List.{flat_map, AllByRecursion}
use Rattle.std.proofs.lemmas.Grind.{flat_map-append}
use Rattle.std.specs.Ordering.{int_eq}
use Rattle.std.proofs.lemmas.Bool.{and_parts, eqb-true}
use Rattle.fh_base.proofs.Orders.{same_z}
use Rattle.unit_model.specs.Claims.{same_slot}
use Rattle.unit_model.proofs.ClaimLemmas.{same_slot_is}
use Rattle.air_source.specs.Units.{same_side}
use Rattle.air_source.specs.declared.events.AirCell.{AirCell}
use Rattle.air_source.specs.declared.events.Event.{Event}
use Rattle.window_config.specs.declared.config.Config.{Config}
use Rattle.explain_model.specs.declared.values.CellWord.{CellWord}
use Rattle.explain_model.specs.declared.values.CellWord.TheVariants.{Shown, Missing}
use Rattle.explain_model.specs.declared.values.ExplainLine.{ExplainLine}
use Rattle.explain_model.specs.Cells.{CellRun, Entry, Lines, Of, IsFrontOf, LinesGoOn, closed_in, closing, closing_by, entries, entries_after, entry_of, extends, is_of_run, lines_in, longer, open_in, piece_lines, run_from, run_lines, run_of, run_with, runs_on, same_word, settled_lines}
use Rattle.explain_model.specs.Pieces.{AreLinked, closed_pieces, goes_on, open_piece, as_piece, pieces}
use Rattle.explain_model.specs.Stories.{Told, told, told_of}
use Rattle.explain_model.proofs.PieceLemmas.{runs, are_pieces, split_pieces}
use Rattle.explain_model.proofs.StoryLemmas.{one}
use Rattle.air_source.proofs.Sides.{side_same}

-- ---- entries

pub entries_both : (c : Config) (earlier xs ys : List Told) → entries_after c earlier (xs ++ ys) ≡ entries_after c earlier xs ++ entries_after c (earlier ++ xs) ys
unfolding entries_after
entries_both c earlier [] ys = ap (λ e. entries_after c e ys) (sym (append-nil earlier))
entries_both c earlier (x ∷ xs) ys =
    subst (λ e. entries_after c earlier (x ∷ (xs ++ ys)) ≡ entries_after c earlier (x ∷ xs) ++ entries_after c e ys) (append_assoc earlier (x ∷ []) xs)
    (ap (λ rest. entry_of c earlier x ∷ rest) (entries_both c (earlier ++ x ∷ []) xs ys))

one_told : (c : Config) (earlier : List Told) (t : Told) → entries_after c earlier (t ∷ []) ≡ entry_of c earlier t ∷ []
unfolding entries_after
one_told c earlier t = refl

pub entry_one : (c : Config) (events : List Event) (e : Event) → entries c (events ++ e ∷ []) ≡ entries c events ++ entry_of c (told c events) (told_of c events e) ∷ []
entry_one c events e =
    ap (entries_after c []) (one c events e)
    ∙ entries_both c [] (told c events) (told_of c events e ∷ [])
    ∙ ap (λ rest. entries c events ++ rest) (one_told c (told c events) (told_of c events e))

-- ---- the cell after a run

word_same : (a b : CellWord) → same_word a b ≡ true → a ≡ b
word_same (Shown a) (Shown b) h = ap Shown (eqb-true a b h)
word_same (Shown a) Missing h = absurd cc
word_same Missing (Shown b) h = absurd cc
word_same Missing Missing h = refl

-- whether a cell is the next one goes by what the cells of the run have in common, and by the PRB after the last
alike : (r s : CellRun) → r.run.side ≡ s.run.side → r.run.at.0 ≡ s.run.at.0 → r.run.place.id ≡ s.run.place.id → r.run.place.slot ≡ s.run.place.slot
    → r.run.place.symbol ≡ s.run.place.symbol → r.run.section ≡ s.run.section → r.mask ≡ s.mask → r.word ≡ s.word
    → r.run.prb + r.run.num ≡ s.run.prb + s.run.num → (a : AirCell) (w : CellWord) → extends r a w ≡ extends s a w
alike r s e1 e2 e3 e4 e5 e6 e7 e8 e9 a w = rw (e1, e2, e3, e4, e5, e6, e7, e8, e9) refl

behind_next : (b c : AirCell) (v u : CellWord) → extends (run_from b v 1) c u ≡ true → (n : ℕ) (a : AirCell) (w : CellWord)
    → extends (run_from c u n) a w ≡ extends (run_from b v (suc n)) a w
behind_next b c v u h n a w =
    let whole = and_parts (is_of_run (run_from b v 1) c) _ h in
    let rest = and_parts (same_word v u) _ whole.1 in
    let p1 = and_parts (same_side b.side c.side) _ whole.0 in
    let p2 = and_parts (int_eq b.at.0 c.at.0) _ p1.1 in
    let p3 = and_parts (b.id == c.id) _ p2.1 in
    let p4 = and_parts (same_slot b.slot c.slot) _ p3.1 in
    let p5 = and_parts (b.symbol == c.symbol) _ p4.1 in
    let p6 = and_parts (b.section == c.section) _ p5.1 in
    let next : b.prb + 1 ≡ c.prb = eqb-true (b.prb + 1) c.prb rest.1 in
    alike (run_from c u n) (run_from b v (suc n)) (sym (side_same b.side c.side p1.0)) (sym (same_z b.at.0 c.at.0 p2.0)) (sym (eqb-true b.id c.id p3.0))
    (sym (same_slot_is b.slot c.slot p4.0)) (sym (eqb-true b.symbol c.symbol p5.0)) (sym (eqb-true b.section c.section p6.0))
    (sym (eqb-true b.mask c.mask p6.1)) (sym (word_same v u rest.0)) (omega (arith, next)) a w

-- the cell after a piece of cells is the next one of its run
next_of : (b : AirCell) (v : CellWord) (rest : List Entry) → AreLinked runs_on (Of b v ∷ rest) → (a : AirCell) (w : CellWord)
    → goes_on runs_on (Of b v ∷ rest) (Of a w) ≡ extends (run_from b v (length (Of b v ∷ rest))) a w
next_of b v [] h a w = refl
next_of b v (Lines ls ∷ rest) h a w = absurd (true≢false (sym h.0))
next_of b v (Of c u ∷ rest) h a w = next_of c u rest h.1 a w ∙ behind_next b c v u h.0 (length (Of c u ∷ rest)) a w

-- what is no cell goes on with nothing, and nothing with it
no_more : (x : Entry) (xs : List Entry) (ls : List ExplainLine) → goes_on runs_on (x ∷ xs) (Lines ls) ≡ false
no_more (Lines ks) [] ls = refl
no_more (Of b v) [] ls = refl
no_more x (y ∷ xs) ls = no_more y xs ls

none_more : (ls : List ExplainLine) (rest : List Entry) → AreLinked runs_on (Lines ls ∷ rest) → (a : AirCell) (w : CellWord) → goes_on runs_on (Lines ls ∷ rest) (Of a w) ≡ false
none_more ls [] h a w = refl
none_more ls (Lines ks ∷ rest) h a w = absurd (true≢false (sym h.0))
none_more ls (Of b v ∷ rest) h a w = absurd (true≢false (sym h.0))

open_linked : (ps : List (List Entry)) → AllByRecursion (AreLinked runs_on) ps → AreLinked runs_on (open_piece ps)
open_linked [] h = tt
open_linked (p ∷ []) h = h.0
open_linked (p ∷ q ∷ ps) h = open_linked (q ∷ ps) h.1

-- ---- lists

moves : (c s o ls : List ExplainLine) → (c ++ ((s ++ o) ++ [])) ++ ls ≡ (c ++ s) ++ (o ++ ls)
moves c s o ls =
    ap (λ l. (c ++ l) ++ ls) (append-nil (s ++ o)) ∙ append_assoc c (s ++ o) ls ∙ ap (λ l. c ++ l) (append_assoc s o ls) ∙ sym (append_assoc c s (o ++ ls))

lines_of_more : (ps : List (List Entry)) (p : List Entry) → flat_map piece_lines (ps ++ p ∷ []) ≡ flat_map piece_lines ps ++ (piece_lines p ++ [])
lines_of_more ps p = flat_map-append piece_lines ps (p ∷ [])

-- ---- one more entry

module _ (xs : List Entry) where
  abbrev ps : List (List Entry)
  ps = pieces runs_on xs

  abbrev closed_text : List ExplainLine
  closed_text = flat_map piece_lines (closed_pieces ps)

  -- the open piece goes on
  gone_on : (x : Entry) (p : List Entry) → open_piece ps ≡ p → goes_on runs_on p x ≡ true
      → closed_in (xs ++ x ∷ []) ≡ closed_text ++ settled_lines (p ++ x ∷ [])
  unfolding closed_in
  gone_on x p is goes =
      let so = ap (λ q. goes_on runs_on q x) is ∙ goes in
      rw ((runs Entry).on_closed runs_on xs x so, (runs Entry).on_open runs_on xs x so, is) refl

  gone_run : (x : Entry) (p : List Entry) → open_piece ps ≡ p → goes_on runs_on p x ≡ true → open_in (xs ++ x ∷ []) ≡ run_of (p ++ x ∷ [])
  unfolding open_in
  gone_run x p is goes =
      let so = ap (λ q. goes_on runs_on q x) is ∙ goes in
      rw ((runs Entry).on_open runs_on xs x so, is) refl

  -- it is closed
  left_off : (x : Entry) (p : List Entry) → open_piece ps ≡ p → goes_on runs_on p x ≡ false
      → closed_in (xs ++ x ∷ []) ≡ (closed_text ++ (piece_lines p ++ [])) ++ settled_lines (x ∷ [])
  unfolding closed_in
  left_off x p is goes =
      let so = ap (λ q. goes_on runs_on q x) is ∙ goes in
      rw ((runs Entry).off_closed runs_on xs x so, (runs Entry).off_open runs_on xs x so, is) (ap (λ l. l ++ settled_lines (x ∷ [])) (lines_of_more (closed_pieces ps) p))

  left_run : (x : Entry) (p : List Entry) → open_piece ps ≡ p → goes_on runs_on p x ≡ false → open_in (xs ++ x ∷ []) ≡ run_of (x ∷ [])
  unfolding open_in
  left_run x p is goes =
      let so = ap (λ q. goes_on runs_on q x) is ∙ goes in
      rw ((runs Entry).off_open runs_on xs x so) refl

  -- what there was
  was_closed : (p : List Entry) → open_piece ps ≡ p → closed_in xs ≡ closed_text ++ settled_lines p
  unfolding closed_in
  was_closed p is = rw is refl

  was_open : (p : List Entry) → open_piece ps ≡ p → open_in xs ≡ run_of p
  unfolding open_in
  was_open p is = rw is refl

  -- an entry that is no cell
  lines_by : (ls : List ExplainLine) (p : List Entry) → open_piece ps ≡ p → closed_in (xs ++ Lines ls ∷ []) ≡ closed_in xs ++ (run_lines (open_in xs) ++ ls)
  lines_by ls [] is =
      gone_on (Lines ls) [] is refl
      ∙ sym (rw (was_closed [] is, was_open [] is) (append_assoc closed_text [] ls))
  lines_by ls (x ∷ p) is =
      left_off (Lines ls) (x ∷ p) is (no_more x p ls)
      ∙ moves closed_text (settled_lines (x ∷ p)) (run_lines (run_of (x ∷ p))) ls
      ∙ sym (rw (was_closed (x ∷ p) is, was_open (x ∷ p) is) refl)

  none_by : (ls : List ExplainLine) (p : List Entry) → open_piece ps ≡ p → open_in (xs ++ Lines ls ∷ []) ≡ None
  none_by ls [] is = gone_run (Lines ls) [] is refl
  none_by ls (x ∷ p) is = left_run (Lines ls) (x ∷ p) is (no_more x p ls)

  -- a cell
  module _ (a : AirCell) (w : CellWord) where
    cell_goes : (b : AirCell) (v : CellWord) (rest : List Entry) (goes : Bool) → open_piece ps ≡ Of b v ∷ rest → goes_on runs_on (Of b v ∷ rest) (Of a w) ≡ goes
        → closed_in (xs ++ Of a w ∷ []) ≡ (closed_text ++ []) ++ closing_by goes (run_from b v (length (Of b v ∷ rest)))
    cell_goes b v rest true is goes = gone_on (Of a w) (Of b v ∷ rest) is goes ∙ sym (append-nil (closed_text ++ []))
    cell_goes b v rest false is goes =
        left_off (Of a w) (Of b v ∷ rest) is goes
        ∙ moves closed_text [] (run_lines (run_of (Of b v ∷ rest))) []
        ∙ ap (λ l. (closed_text ++ []) ++ l) (append-nil (run_lines (run_of (Of b v ∷ rest))))

    cell_by : (p : List Entry) → open_piece ps ≡ p → AreLinked runs_on p → closed_in (xs ++ Of a w ∷ []) ≡ closed_in xs ++ closing (open_in xs) a w
    cell_by [] is linked = gone_on (Of a w) [] is refl ∙ sym (rw (was_closed [] is, was_open [] is) (append-nil (closed_text ++ [])))
    cell_by (Lines ls ∷ rest) is linked =
        left_off (Of a w) (Lines ls ∷ rest) is (none_more ls rest linked a w)
        ∙ moves closed_text ls [] []
        ∙ sym (rw (was_closed (Lines ls ∷ rest) is, was_open (Lines ls ∷ rest) is) refl)
    cell_by (Of b v ∷ rest) is linked =
        cell_goes b v rest (extends (run_from b v (length (Of b v ∷ rest))) a w) is (next_of b v rest linked a w)
        ∙ sym (rw (was_closed (Of b v ∷ rest) is, was_open (Of b v ∷ rest) is) refl)

    run_goes : (b : AirCell) (v : CellWord) (rest : List Entry) (goes : Bool) → open_piece ps ≡ Of b v ∷ rest → goes_on runs_on (Of b v ∷ rest) (Of a w) ≡ goes
        → open_in (xs ++ Of a w ∷ []) ≡ Some (if goes then longer (run_from b v (length (Of b v ∷ rest))) else run_from a w 1)
    run_goes b v rest true is goes =
        gone_run (Of a w) (Of b v ∷ rest) is goes ∙ ap (λ n. Some (run_from b v n)) (length-append (Of b v ∷ rest) (Of a w ∷ []))
    run_goes b v rest false is goes = left_run (Of a w) (Of b v ∷ rest) is goes

    run_by : (p : List Entry) → open_piece ps ≡ p → AreLinked runs_on p → open_in (xs ++ Of a w ∷ []) ≡ Some (run_with (open_in xs) a w)
    run_by [] is linked = gone_run (Of a w) [] is refl ∙ sym (rw (was_open [] is) refl)
    run_by (Lines ls ∷ rest) is linked = left_run (Of a w) (Lines ls ∷ rest) is (none_more ls rest linked a w) ∙ sym (rw (was_open (Lines ls ∷ rest) is) refl)
    run_by (Of b v ∷ rest) is linked =
        run_goes b v rest (extends (run_from b v (length (Of b v ∷ rest))) a w) is (next_of b v rest linked a w) ∙ sym (rw (was_open (Of b v ∷ rest) is) refl)

  linked : AreLinked runs_on (open_piece ps)
  linked = open_linked ps (are_pieces runs_on xs).linked

  -- all lines
  all_by : (p : List Entry) → open_piece ps ≡ p → closed_text ++ flat_map piece_lines (as_piece p) ≡ closed_in xs ++ run_lines (open_in xs)
  all_by [] is = sym (rw (was_closed [] is, was_open [] is) (append-nil (closed_text ++ [])))
  all_by (x ∷ p) is =
      sym (append-nil (closed_text ++ (piece_lines (x ∷ p) ++ [])))
      ∙ moves closed_text (settled_lines (x ∷ p)) (run_lines (run_of (x ∷ p))) []
      ∙ ap (λ l. (closed_text ++ settled_lines (x ∷ p)) ++ l) (append-nil (run_lines (run_of (x ∷ p))))
      ∙ sym (rw (was_closed (x ∷ p) is, was_open (x ∷ p) is) refl)

  all_lines : lines_in xs ≡ closed_in xs ++ run_lines (open_in xs)
  unfolding lines_in
  all_lines =
      ap (flat_map piece_lines) (split_pieces runs_on xs)
      ∙ flat_map-append piece_lines (closed_pieces ps) (as_piece (open_piece ps))
      ∙ all_by (open_piece ps) refl

-- ---- what stays in front

front_of_more : (x : Entry) (xs : List Entry) → IsFrontOf (closed_in xs) (closed_in (xs ++ x ∷ []))
front_of_more (Lines ls) xs = record { back = run_lines (open_in xs) ++ ls; is = lines_by xs ls (open_piece (pieces runs_on xs)) refl }
front_of_more (Of a w) xs = record { back = closing (open_in xs) a w; is = cell_by xs a w (open_piece (pieces runs_on xs)) refl (linked xs) }

front_further : (a b c : List ExplainLine) → IsFrontOf a b → IsFrontOf b c → IsFrontOf a c
front_further a b c f g = record { back = f.back ++ g.back; is = g.is ∙ ap (λ l. l ++ g.back) f.is ∙ append_assoc a f.back g.back }

front_stays : (es more : List Entry) → IsFrontOf (closed_in es) (closed_in (es ++ more))
front_stays es [] = record { back = []; is = ap closed_in (append-nil es) ∙ sym (append-nil (closed_in es)) }
front_stays es (x ∷ more) =
    subst (λ l. IsFrontOf (closed_in es) (closed_in l)) (append_assoc es (x ∷ []) more)
    (front_further (closed_in es) (closed_in (es ++ x ∷ [])) (closed_in ((es ++ x ∷ []) ++ more)) (front_of_more x es) (front_stays (es ++ x ∷ []) more))

pub lines_go_on : LinesGoOn
lines_go_on = record {
  one_entry = entry_one;
  all = all_lines;
  on_lines = λ es ls. lines_by es ls (open_piece (pieces runs_on es)) refl;
  no_run = λ es ls. none_by es ls (open_piece (pieces runs_on es)) refl;
  on_cell = λ es a w. cell_by es a w (open_piece (pieces runs_on es)) refl (linked es);
  one_run = λ es a w. run_by es a w (open_piece (pieces runs_on es)) refl (linked es);
  stays = front_stays;
}
