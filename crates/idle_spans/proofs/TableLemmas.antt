-- The tables, and the cells that each stands for.
use Rattle.std.proofs.Common.{◌≡◌, ℕ, ◌+◌, ◌-◌, ◌*◌, ◌<◌, ◌≤◌, inl, inr, Bool, true, false, not, ◌||◌, ◌&&◌, set, slice_index, is_some, List, [], ◌∷◌, ◌++◌, length, get_or, map, if◌then◌else◌, ◌↔◌, Option, Some, None, refl, sym, ap, subst, ◌∙◌, arith}
use Rattle.std.specs.List.{list_any}
use Rattle.std.proofs.lemmas.Nat.{mul-le}
use mir.Val.{bool_byte}
use Rattle.std.proofs.lemmas.List.{get_or-map, get_or_read, length-map, length-set, get_or-set_same, get_or-set_other}
use Rattle.std.proofs.Math.Seq.{map-set_same}
use Rattle.std.proofs.lemmas.Bool.{and_left, and_right, cases_eq, ne_eqb}
use Rattle.std.proofs.lemmas.List.Folds.{list_any-append}
use Rattle.window_config.specs.Configs.{IsConfig}
use Rattle.window_config.specs.Endpoints.{ids_of, no_endpoint}
use Rattle.window_config.specs.declared.config.Config.{Config}
use Rattle.window_config.specs.declared.endpoints.EndpointConfig.{EndpointConfig}
use Rattle.air_source.specs.declared.events.AirCell.{AirCell}
use Rattle.idle_spans.specs.declared.places.Place.{Place}
use Rattle.idle_spans.specs.declared.places.Span.{Span}
use Rattle.idle_spans.specs.declared.places.Mark.{Mark}
use Rattle.idle_spans.specs.Symbols.{frame_symbols, symbol_at, symbol_count, IsAfter}
use Rattle.idle_spans.specs.Silence.{is_of_symbol, is_shown, is_missed, is_silent, has_missing}
use Rattle.idle_spans.specs.Marked.{no_mark}
use Rattle.idle_spans.specs.Runs.{IsLongRun, IsNext, IsNextSpan, count_from, span_of}
use Rattle.idle_spans.specs.Scans.{IsFirstRun, IsRowSpan, IsRowNext, row_silent, row_missing, row_span}
use Rattle.idle_spans.specs.Tables.{RowValue, SpansValue, IsRow, AreApart, MarksRow, Marks, RowStands, Stands, mark_at, row_at, no_row, endpoints_of, endpoint_at, row_symbol}
use Rattle.idle_spans.proofs.NumberLemmas.{frame_few}
use Rattle.idle_spans.proofs.RunLemmas.{run_same, count_same}
use Rattle.air_source.specs.Units.{is_down}

count_few : (first last e : ℕ) → last ≤ first + 9 → e ≤ 2240 → (last + 1 - first) * e ≤ 22400
count_few first last e few small = omega (arith, mul-le (last + 1 - first) e 10 2240 (omega arith) small)

-- a table has few symbols
pub marks_few : (r : RowValue) → IsRow r → length r.marks ≤ 22400
marks_few r is =
    let b = count_few r.first r.last (frame_symbols r.endpoint.numerology) is.frames.few (frame_few r.endpoint.numerology).1 in
    subst (λ (x : ℕ). x ≤ 22400) (sym is.size) b

-- ---- what a table stands for

or_told : {X : Type 0} (p : X → Bool) (a b : Bool) (xs ys : List X) → a ≡ list_any p xs → b ≡ (a || list_any p ys) → b ≡ list_any p (xs ++ ys)
or_told p a b xs ys first second = second ∙ ap (λ (x : Bool). x || list_any p ys) first ∙ sym (list_any-append p xs ys)

-- the facts of one kind of mark
module _ (old new : RowValue) (first last : ℕ) (cells more : List AirCell) (stands : RowStands old first last cells) (marks : MarksRow old new more) where
  below_old : (k : ℕ) → k < symbol_count old.endpoint.numerology first last → k < length old.marks
  below_old k below = subst (λ (x : ℕ). k < x) (sym stands.size) below

  shown_of : (k : ℕ) → k < symbol_count old.endpoint.numerology first last → (mark_at new k).shown ≡ is_shown old.endpoint (symbol_at old.endpoint.numerology first k) (cells ++ more)
  shown_of k below = or_told _ (mark_at old k).shown (mark_at new k).shown cells more (stands.shown k below)
      (marks.shown k (below_old k below) ∙ ap (λ (f : ℕ). (mark_at old k).shown || is_shown old.endpoint (symbol_at old.endpoint.numerology f k) more) stands.first_is)

  missed_of : (k : ℕ) → k < symbol_count old.endpoint.numerology first last → (mark_at new k).missed ≡ is_missed old.endpoint (symbol_at old.endpoint.numerology first k) (cells ++ more)
  missed_of k below = or_told _ (mark_at old k).missed (mark_at new k).missed cells more (stands.missed k below)
      (marks.missed k (below_old k below) ∙ ap (λ (f : ℕ). (mark_at old k).missed || is_missed old.endpoint (symbol_at old.endpoint.numerology f k) more) stands.first_is)

  pub row_stands : RowStands new first last (cells ++ more)
  row_stands = record {
    first_is = marks.first ∙ stands.first_is;
    last_is = marks.last ∙ stands.last_is;
    size = marks.size ∙ stands.size ∙ ap (λ (e : EndpointConfig). symbol_count e.numerology first last) (sym marks.endpoint);
    shown = λ k. subst (λ (e : EndpointConfig). k < symbol_count e.numerology first last → (mark_at new k).shown ≡ is_shown e (symbol_at e.numerology first k) (cells ++ more)) (sym marks.endpoint) (shown_of k);
    missed = λ k. subst (λ (e : EndpointConfig). k < symbol_count e.numerology first last → (mark_at new k).missed ≡ is_missed e (symbol_at e.numerology first k) (cells ++ more)) (sym marks.endpoint) (missed_of k);
  }

-- and of a table that is seen as another
pub few_seen : (r s : RowValue) → r ≡ s → IsRow r → length s.marks ≤ 22400
few_seen r s same is = subst (λ (x : RowValue). length x.marks ≤ 22400) same (marks_few r is)

-- the tables of all endpoints
pub spans_stand : (old new : SpansValue) (config : Config) (first last : ℕ) (cells more : List AirCell)
    → Stands old config first last cells → Marks old new more → Stands new config first last (cells ++ more)
spans_stand old new config first last cells more stands marks = record {
  endpoints = sym marks.endpoints ∙ stands.endpoints;
  rows = λ ep below.
      let under : ep < length old.rows = subst (λ (x : ℕ). ep < x) marks.size below in
      row_stands (row_at old ep) (row_at new ep) first last cells more (stands.rows ep under) (marks.rows ep under);
}

-- ---- the first span by a table

module _ (r : RowValue) (after : Option Place) (min start : ℕ) (begins : (k : ℕ) → k < length r.marks → ((start ≤ k) ↔ IsAfter r.endpoint.numerology after (row_symbol r k))) where
  below_of : (k m : ℕ) → IsLongRun (row_silent r) (length r.marks) min k m → k < length r.marks
  below_of k m run = let some = run.run.some in let within = run.run.within in omega arith

  pub row_none : ((k m : ℕ) → IsLongRun (row_silent r) (length r.marks) min k m → start ≤ k → ⊥) → IsRowNext r after min None
  row_none none k m run later = none k m run ((begins k (below_of k m run)).1 later)

  pub row_some : (first len : ℕ) (s : Span) → IsFirstRun (row_silent r) (length r.marks) min start first len → s ≡ row_span r first len → IsRowSpan r after min s
  row_some first len s found is = record {
    number = first;
    len = len;
    is = is;
    run = found.run;
    later = (begins first (below_of first len found.run)).0 found.low;
    least = λ k m run later. found.least k m run ((begins k (below_of k m run)).1 later);
  }

-- ---- the first span by the cells

module _ (r : RowValue) (first last : ℕ) (cells : List AirCell) (after : Option Place) (min : ℕ) (stands : RowStands r first last cells) where
  silent_is : (k : ℕ) → k < length r.marks → row_silent r k ≡ is_silent r.endpoint first cells k
  silent_is k below = ap not (stands.shown k (subst (λ (x : ℕ). k < x) stands.size below))

  missing_is : (k : ℕ) → k < length r.marks → row_missing r k ≡ has_missing r.endpoint first cells k
  missing_is k below = stands.missed k (subst (λ (x : ℕ). k < x) stands.size below)

  -- a run by the cells is one by the table, and the other way round
  by_table : (k m : ℕ) → IsLongRun (is_silent r.endpoint first cells) (symbol_count r.endpoint.numerology first last) min k m → IsLongRun (row_silent r) (length r.marks) min k m
  by_table k m run = run_same (is_silent r.endpoint first cells) (row_silent r) (length r.marks) (λ j below. sym (silent_is j below)) min k m
      (subst (λ (x : ℕ). IsLongRun (is_silent r.endpoint first cells) x min k m) (sym stands.size) run)

  by_cells : (k m : ℕ) → IsLongRun (row_silent r) (length r.marks) min k m → IsLongRun (is_silent r.endpoint first cells) (symbol_count r.endpoint.numerology first last) min k m
  by_cells k m run = subst (λ (x : ℕ). IsLongRun (is_silent r.endpoint first cells) x min k m) stands.size
      (run_same (row_silent r) (is_silent r.endpoint first cells) (length r.marks) silent_is min k m run)

  after_is : (k : ℕ) → IsAfter r.endpoint.numerology after (symbol_at r.endpoint.numerology first k) → IsAfter r.endpoint.numerology after (row_symbol r k)
  after_is k later = subst (λ (f : ℕ). IsAfter r.endpoint.numerology after (symbol_at r.endpoint.numerology f k)) (sym stands.first_is) later

  span_is : (k m : ℕ) → k + m ≤ length r.marks → row_span r k m ≡ span_of r.endpoint first cells k m
  span_is k m within =
      ap (λ (f : ℕ). let s : Span = record { first = symbol_at r.endpoint.numerology f k; last = symbol_at r.endpoint.numerology f (k + m - 1); symbols = m; missed = count_from (row_missing r) k m } in s) stands.first_is
      ∙ ap (λ (c : ℕ). let s : Span = record { first = symbol_at r.endpoint.numerology first k; last = symbol_at r.endpoint.numerology first (k + m - 1); symbols = m; missed = c } in s)
      (count_same (row_missing r) (has_missing r.endpoint first cells) (length r.marks) missing_is k m within)

  some_next : (s : Span) → IsRowSpan r after min s → IsNextSpan r.endpoint first last cells after min s
  some_next s found =
      let is : s ≡ span_of r.endpoint first cells found.number found.len = found.is ∙ span_is found.number found.len found.run.run.within in
      let later : IsAfter r.endpoint.numerology after (symbol_at r.endpoint.numerology first found.number) =
      subst (λ (f : ℕ). IsAfter r.endpoint.numerology after (symbol_at r.endpoint.numerology f found.number)) stands.first_is found.later in
      record {
        number = found.number;
        len = found.len;
        is = is;
        listed = by_cells found.number found.len found.run;
        later = subst (λ (x : Span). IsAfter r.endpoint.numerology after x.first) (sym is) later;
        least = λ k m run after_it. found.least k m (by_table k m run) (after_is k after_it);
      }

  pub next_is : (result : Option Span) → IsRowNext r after min result → IsNext r.endpoint first last cells after min result
  next_is None none = λ k m run later. none k m (by_table k m run) (after_is k later)
  next_is (Some s) found = some_next s found

-- the table of an endpoint is that of the configuration's endpoint
pub endpoint_is : (s : SpansValue) (config : Config) (ep : ℕ) → ep < length s.rows → endpoints_of s ≡ config.endpoints → (row_at s ep).endpoint ≡ endpoint_at config ep
endpoint_is s config ep below same =
    sym (get_or-map (λ (r : RowValue). r.endpoint) s.rows ep no_row no_endpoint below) ∙ ap (λ (l : List EndpointConfig). get_or l ep no_endpoint) same

pub spans_next : (s : SpansValue) (config : Config) (first last : ℕ) (cells : List AirCell) (ep : ℕ) (after : Option Place) (min : ℕ) (result : Option Span)
    → ep < length s.rows → Stands s config first last cells → IsRowNext (row_at s ep) after min result → IsNext (endpoint_at config ep) first last cells after min result
spans_next s config first last cells ep after min result below stands next =
    subst (λ (e : EndpointConfig). IsNext e first last cells after min result) (endpoint_is s config ep below stands.endpoints)
    (next_is (row_at s ep) first last cells after min (stands.rows ep below) result next)

-- ---- what is read

-- a mark that is read is that of the table
pub missing_read : (r s : RowValue) (i : ℕ) (m : Mark) → r ≡ s → i < length s.marks → m ≡ get_or r.marks i m → m.missed ≡ row_missing s i
missing_read r s i m same below read =
    let within : i < length r.marks = subst (λ (x : RowValue). i < length x.marks) (sym same) below in
    ap (λ (x : Mark). x.missed) (get_or_read r.marks i m within read no_mark) ∙ ap (λ (x : RowValue). row_missing x i) same

pub byte_is : (b : Bool) → bool_byte b ≡ (if b then 1 else 0)
byte_is true = refl
byte_is false = refl

pub byte_few : (n : ℕ) (b : Bool) → n ≡ bool_byte b → n ≤ 1
byte_few n true is = omega arith
byte_few n false is = omega arith

-- a table that is read is that of the endpoint
pub row_read : (a b : SpansValue) (i : ℕ) (r : RowValue) → a ≡ b → i < length b.rows → r ≡ get_or a.rows i r → r ≡ row_at b i
row_read a b i r same below read =
    let within : i < length a.rows = subst (λ (x : SpansValue). i < length x.rows) (sym same) below in
    get_or_read a.rows i r within read no_row ∙ ap (λ (x : SpansValue). row_at x i) same

-- the tables of a configuration's endpoints have different ids
pub rows_apart : (rows : List RowValue) (config : Config) → IsConfig config → map (λ (r : RowValue). r.endpoint) rows ≡ config.endpoints → AreApart rows
rows_apart rows config is same i j i_below j_below ids =
    let len : length config.endpoints ≡ length rows = ap length (sym same) ∙ length-map rows (λ (r : RowValue). r.endpoint) in
    is.endpoints.differ i j (counted i len i_below) (counted j len j_below) (id_of i i_below ∙ ids ∙ sym (id_of j j_below))
  where
    counted : (k : ℕ) → length config.endpoints ≡ length rows → k < length rows → k < length (ids_of config.endpoints)
    counted k len below = omega (arith, length-map config.endpoints (λ (e : EndpointConfig). e.id))

    id_of : (k : ℕ) → k < length rows → slice_index (ids_of config.endpoints) k ≡ (get_or rows k no_row).endpoint.id
    id_of k below =
        let under : k < length config.endpoints = omega (arith, ap length same, length-map rows (λ (r : RowValue). r.endpoint)) in
        get_or-map (λ (e : EndpointConfig). e.id) config.endpoints k no_endpoint 0 under
        ∙ ap (λ (l : List EndpointConfig). (get_or l k no_endpoint).id) (sym same)
        ∙ ap (λ (e : EndpointConfig). e.id) (get_or-map (λ (r : RowValue). r.endpoint) rows k no_row no_endpoint below)

-- where one table is marked, the others stay, which are of other ids
other_id : (e : EndpointConfig) (p : Place) (c : AirCell) (b : Bool) → (c.id ≡ e.id → ⊥) → (is_of_symbol e p c && b) ≡ false
other_id e p c b other = and_left _ b (and_right (is_down c.side) _ (and_left _ _ (ne_eqb c.id e.id other)))

or_nothing : (a t : Bool) → t ≡ false → a ≡ (a || (t || false))
or_nothing true t e = refl
or_nothing false t e = rw e refl

row_other : (r : RowValue) (c : AirCell) → (c.id ≡ r.endpoint.id → ⊥) → MarksRow r r (c ∷ [])
row_other r c other = record {
  endpoint = refl;
  first = refl;
  last = refl;
  size = refl;
  shown = λ k below. or_nothing (mark_at r k).shown _ (other_id r.endpoint (row_symbol r k) c (is_some c.block) other);
  missed = λ k below. or_nothing (mark_at r k).missed _ (other_id r.endpoint (row_symbol r k) c (not (is_some c.block)) other);
}

-- the endpoint of a table that is marked stays
endpoints_kept : (old : List RowValue) (ep : ℕ) (new : RowValue) → ep < length old → new.endpoint ≡ (get_or old ep no_row).endpoint
    → map (λ (r : RowValue). r.endpoint) old ≡ map (λ (r : RowValue). r.endpoint) (set old ep new)
endpoints_kept old ep new below same = sym (map-set_same (λ (r : RowValue). r.endpoint) old ep new no_row same)

pub rows_marked : (old : List RowValue) (ep : ℕ) (r new : RowValue) (c : AirCell) → AreApart old → ep < length old → r ≡ get_or old ep r
    → (get_or old ep no_row).endpoint.id ≡ c.id → MarksRow r new (c ∷ []) → Marks (record { rows = old }) (record { rows = set old ep new }) (c ∷ [])
rows_marked old ep r new c apart below read id marks =
    let there : r ≡ get_or old ep no_row = get_or_read old ep r below read no_row in
    record {
      size = length-set old ep new;
      endpoints = endpoints_kept old ep new below (marks.endpoint ∙ ap (λ (x : RowValue). x.endpoint) there);
      rows = λ k k_below. elim (cases_eq k ep) [
        | inl same ↦
            let own : get_or (set old ep new) k no_row ≡ new = ap (λ (j : ℕ). get_or (set old ep new) j no_row) same ∙ get_or-set_same old ep new no_row below in
            let was : get_or old k no_row ≡ r = ap (λ (j : ℕ). get_or old j no_row) same ∙ sym there in
            subst (λ (x : RowValue). MarksRow (get_or old k no_row) x (c ∷ [])) (sym own) (subst (λ (x : RowValue). MarksRow x new (c ∷ [])) (sym was) marks)
        | inr other ↦
            subst (λ (x : RowValue). MarksRow (get_or old k no_row) x (c ∷ [])) (sym (get_or-set_other old ep k new no_row other))
            (row_other (get_or old k no_row) c (λ e. other (apart k ep k_below below (sym e ∙ sym id))))
      ];
    }

-- the same, of tables that are seen in another way
pub spans_marked : (a b : SpansValue) (ep : ℕ) (r new : RowValue) (c : AirCell) → a ≡ b → AreApart a.rows → ep < length b.rows → r ≡ get_or a.rows ep r
    → (row_at b ep).endpoint.id ≡ c.id → MarksRow r new (c ∷ []) → Marks b (record { rows = set a.rows ep new }) (c ∷ [])
spans_marked a b ep r new c same apart below read id marks =
    let under : ep < length a.rows = subst (λ (x : SpansValue). ep < length x.rows) (sym same) below in
    let id_too : (row_at a ep).endpoint.id ≡ c.id = subst (λ (x : SpansValue). (row_at x ep).endpoint.id ≡ c.id) (sym same) id in
    subst (λ (x : SpansValue). Marks x (record { rows = set a.rows ep new }) (c ∷ [])) same (rows_marked a.rows ep r new c apart under read id_too marks)
