-- The runs that are kept hold all cells.
use Rattle.std.proofs.Common.{◌≡◌, ℕ, ℤ, ◌+◌, ◌==◌, Bool, true, false, List, [], ◌∷◌, ◌++◌, length, zero, suc, refl, sym, ap, ap₂, ◌∙◌, append-nil}
use Rattle.std.specs.Prelude.{Option, Some, None, is_some}
use Rattle.std.specs.List.{AllByRecursion, flat_map}
use Rattle.std.specs.Ordering.{int_eq}
use Rattle.std.proofs.lemmas.Bool.{and_parts, eqb-true}
use Rattle.std.proofs.lemmas.Bool.Decides.{Decides-int_eq}
use Rattle.std.proofs.lemmas.Grind.{flat_map-append}
use Rattle.bfp_codec.specs.declared.samples.Wide.{Wide}
use Rattle.fh_base.specs.declared.values.Slot.{Slot}
use Rattle.air_source.specs.Units.{same_side}
use Rattle.air_source.specs.declared.events.AirCell.{AirCell}
use Rattle.air_source.specs.declared.events.Event.{Event}
use Rattle.air_source.specs.declared.events.Event.TheVariants as event
use Rattle.air_source.specs.declared.events.Side.{Side}
use Rattle.ecpri_fragments.specs.Pieces.{joined}
use Rattle.window_config.specs.declared.config.Config.{Config}
use Rattle.unit_model.specs.Claims.{same_slot}
use Rattle.fh_base.specs.Lists.{each}
use Rattle.unit_model.proofs.ClaimLemmas.{same_slot_is}
use Rattle.explain_model.specs.declared.values.CellWord.{CellWord}
use Rattle.explain_model.specs.declared.values.CellWord.TheVariants.{Shown, Missing}
use Rattle.explain_model.specs.Cells.{Entry, Lines, Of, entries, entries_after, runs, runs_on, same_symbol, same_word, word_by, word_of}
use Rattle.explain_model.specs.Pieces.{AreLinked}
use Rattle.explain_model.specs.Stories.{Told, Cell, Delay, Count, told_after, told_of}
use Rattle.explain_model.proofs.PieceLemmas.{are_pieces}
use Rattle.explain_model.specs.Seen.{RunsHoldCells, Seen, cell_runs, run_of, seen, seen_in, seen_of, shows}
use Rattle.air_source.proofs.Sides.{side_same}

-- the cell of this PRB, in all else like one of an entry
abbrev cell_at : AirCell → CellWord → ℕ → Seen
cell_at a w n = record {
  side = a.side;
  at = a.at;
  id = a.id;
  slot = a.slot;
  symbol = a.symbol;
  prb = n;
  section = a.section;
  mask = a.mask;
  shown = shows w;
}

-- the cells of entries
abbrev seen_word : Entry → List Seen
seen_word (Lines ls) = []
seen_word (Of a w) = cell_at a w a.prb ∷ []

cell_with : ℕ → Side → ℤ → ℕ → Slot → ℕ → ℕ → ℕ → Bool → Seen
cell_with n side at id slot symbol section mask shown = record {
  side = side;
  at = record { 0 = at };
  id = id;
  slot = slot;
  symbol = symbol;
  prb = n;
  section = section;
  mask = mask;
  shown = shown;
}

cell_is : (a : AirCell) (w : CellWord) (n : ℕ) → cell_at a w n ≡ cell_with n a.side a.at.0 a.id a.slot a.symbol a.section a.mask (shows w)
unfolding cell_with
cell_is a w n = refl

cells_equal : (n : ℕ) (a b : Side) (s t : ℤ) (i j : ℕ) (x y : Slot) (u v m k p q : ℕ) (r w : Bool) → a ≡ b → s ≡ t → i ≡ j → x ≡ y → u ≡ v → m ≡ k → p ≡ q → r ≡ w
    → cell_with n a s i x u m p r ≡ cell_with n b t j y v k q w
cells_equal n a b s t i j x y u v m k p q r w e1 e2 e3 e4 e5 e6 e7 e8 = cc

same_shows : (v w : CellWord) → same_word v w ≡ true → shows v ≡ shows w
same_shows (Shown a) (Shown b) h = refl
same_shows (Shown a) Missing h = absurd cc
same_shows Missing (Shown b) h = absurd cc
same_shows Missing Missing h = refl

next_cell : (a b : AirCell) (v w : CellWord) (n : ℕ) → runs_on (Of a v) (Of b w) ≡ true → cell_at a v n ≡ cell_at b w n
next_cell a b v w n h =
    let p = and_parts (same_symbol a b) _ h in
    let q = and_parts (same_word v w) (a.prb + 1 == b.prb) p.1 in
    let s = and_parts (same_side a.side b.side) _ p.0 in
    let t = and_parts (int_eq a.at.0 b.at.0) _ s.1 in
    let d = and_parts (a.id == b.id) _ t.1 in
    let e = and_parts (same_slot a.slot b.slot) _ d.1 in
    let f = and_parts (a.symbol == b.symbol) _ e.1 in
    let g = and_parts (a.section == b.section) (a.mask == b.mask) f.1 in
    cell_is a v n
    ∙ cells_equal n a.side b.side a.at.0 b.at.0 a.id b.id a.slot b.slot a.symbol b.symbol a.section b.section a.mask b.mask (shows v) (shows w)
    (side_same a.side b.side s.0) ((Decides-int_eq a.at.0 b.at.0).0 t.0) (eqb-true _ _ d.0) (same_slot_is a.slot b.slot e.0)
    (eqb-true _ _ f.0) (eqb-true _ _ g.0) (eqb-true _ _ g.1) (same_shows v w q.0)
    ∙ sym (cell_is b w n)

next_prb : (a b : AirCell) (v w : CellWord) → runs_on (Of a v) (Of b w) ≡ true → a.prb + 1 ≡ b.prb
next_prb a b v w h =
    let p = and_parts (same_symbol a b) _ h in
    let q = and_parts (same_word v w) (a.prb + 1 == b.prb) p.1 in
    eqb-true _ _ q.1

spread_same : (from count : ℕ) (f g : ℕ → Seen) → ((n : ℕ) → f n ≡ g n) → each from count (λ n. f n ∷ []) ≡ each from count (λ n. g n ∷ [])
unfolding each
spread_same from zero f g same = refl
spread_same from (suc count) f g same = ap₂ ◌∷◌ (same from) (spread_same (from + 1) count f g same)

run_is : (a : AirCell) (w : CellWord) (xs : List Entry) → AreLinked runs_on (Of a w ∷ xs)
    → each a.prb (length (Of a w ∷ xs)) (λ n. cell_at a w n ∷ []) ≡ flat_map seen_word (Of a w ∷ xs)
unfolding each
run_is a w [] linked = refl
run_is a w (Lines ls ∷ xs) linked = absurd (let h : false ≡ true = linked.0 in cc)
run_is a w (Of b v ∷ xs) linked =
    ap (λ r. cell_at a w a.prb ∷ r)
    (spread_same (a.prb + 1) (length (Of b v ∷ xs)) (cell_at a w) (cell_at b v) (λ n. next_cell a b w v n linked.0)
    ∙ ap (λ m. each m (length (Of b v ∷ xs)) (λ n. cell_at b v n ∷ [])) (next_prb a b w v linked.0)
    ∙ run_is b v xs linked.1)

piece_held : (c : Config) (p : List Entry) → AreLinked runs_on p → flat_map seen_in (run_of c p) ≡ flat_map seen_word p
unfolding seen_in
piece_held c [] linked = refl
piece_held c (Lines ls ∷ []) linked = refl
piece_held c (Lines ls ∷ Lines ks ∷ xs) linked = absurd (let h : false ≡ true = linked.0 in cc)
piece_held c (Lines ls ∷ Of b v ∷ xs) linked = absurd (let h : false ≡ true = linked.0 in cc)
piece_held c (Of a w ∷ xs) linked = append-nil _ ∙ run_is a w xs linked

pieces_held : (c : Config) (ps : List (List Entry)) → AllByRecursion (AreLinked runs_on) ps → flat_map seen_in (flat_map (run_of c) ps) ≡ flat_map seen_word (joined ps)
pieces_held c [] linked = refl
pieces_held c (p ∷ ps) linked =
    flat_map-append seen_in (run_of c p) (flat_map (run_of c) ps)
    ∙ ap₂ ◌++◌ (piece_held c p linked.0) (pieces_held c ps linked.1)
    ∙ sym (flat_map-append seen_word p (joined ps))

-- ---- entries have the cells of the events

word_shows : (earlier : List Told) (a : AirCell) (o : Option (List Wide)) → shows (word_by earlier a o) ≡ is_some o
word_shows earlier a (Some samples) = refl
word_shows earlier a None = refl

cell_seen : (earlier : List Told) (a : AirCell) → cell_at a (word_of earlier a) a.prb ≡ seen_of a
cell_seen earlier a =
    ap (λ (b : Bool). let s : Seen = record { side = a.side; at = a.at; id = a.id; slot = a.slot; symbol = a.symbol; prb = a.prb; section = a.section; mask = a.mask; shown = b } in s)
    (word_shows earlier a a.block)

entries_seen : (c : Config) (before : List Event) (earlier : List Told) (events : List Event)
    → flat_map seen_word (entries_after c earlier (told_after c before events)) ≡ seen events
unfolding entries_after told_after seen
entries_seen c before earlier [] = refl
entries_seen c before earlier (event.Cell a ∷ rest) =
    ap₂ ◌∷◌ (cell_seen earlier a) (entries_seen c (before ++ event.Cell a ∷ []) (earlier ++ Cell a ∷ []) rest)
entries_seen c before earlier (event.Arrival side at frame ∷ rest) =
    entries_seen c (before ++ event.Arrival side at frame ∷ []) (earlier ++ told_of c before (event.Arrival side at frame) ∷ []) rest
entries_seen c before earlier (event.Delay at side id value ∷ rest) =
    entries_seen c (before ++ event.Delay at side id value ∷ []) (earlier ++ Delay at.0 side id value ∷ []) rest
entries_seen c before earlier (event.Count side counter value ∷ rest) =
    entries_seen c (before ++ event.Count side counter value ∷ []) (earlier ++ Count side counter value ∷ []) rest

pub runs_hold_cells : RunsHoldCells
unfolding cell_runs
runs_hold_cells c events =
    let are = are_pieces runs_on (entries c events) in
    pieces_held c (runs c events) are.linked ∙ ap (flat_map seen_word) are.all ∙ entries_seen c [] [] events
