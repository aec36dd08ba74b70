-- The laws of marking cells.
use Rattle.std.specs.Prelude.{◌≡◌, ℕ, ◌<◌, Bool, true, false, ◌||◌, List, [], ◌∷◌, ◌++◌, length, refl}
use Rattle.std.proofs.Common.{sym, ap, subst, ◌∙◌}
use Rattle.std.specs.List.{list_any}
use Rattle.std.proofs.lemmas.List.Folds.{list_any-append}
use Rattle.air_source.specs.declared.events.AirCell.{AirCell}
use Rattle.air_source.specs.declared.events.Event.{Event}
use Rattle.air_source.specs.declared.events.Event.TheVariants.{Cell, Delay, Arrival, Count}
use Rattle.idle_spans.specs.Silence.{is_shown, is_missed}
use Rattle.idle_spans.specs.Tables.{RowValue, SpansValue, MarksRow, Marks, mark_at, row_at, row_symbol, cells_of}

or_none : (a : Bool) → a ≡ (a || false)
or_none true = refl
or_none false = refl

-- told in turn is told together
or_more : {X : Type 0} (p : X → Bool) (a b c : Bool) (xs ys : List X) → b ≡ (a || list_any p xs) → c ≡ (b || list_any p ys) → c ≡ (a || list_any p (xs ++ ys))
or_more p true b c xs ys first second = second ∙ ap (λ (x : Bool). x || list_any p ys) first
or_more p false b c xs ys first second = second ∙ ap (λ (x : Bool). x || list_any p ys) first ∙ sym (list_any-append p xs ys)

row_none : (r : RowValue) → MarksRow r r []
row_none r = record {
  endpoint = refl;
  first = refl;
  last = refl;
  size = refl;
  shown = λ k below. or_none (mark_at r k).shown;
  missed = λ k below. or_none (mark_at r k).missed;
}

row_more : (a b c : RowValue) (first second : List AirCell) → MarksRow a b first → MarksRow b c second → MarksRow a c (first ++ second)
row_more a b c first second x y = record {
  endpoint = y.endpoint ∙ x.endpoint;
  first = y.first ∙ x.first;
  last = y.last ∙ x.last;
  size = y.size ∙ x.size;
  shown = λ k below. or_more _ (mark_at a k).shown (mark_at b k).shown (mark_at c k).shown first second (x.shown k below) (again_shown k below);
  missed = λ k below. or_more _ (mark_at a k).missed (mark_at b k).missed (mark_at c k).missed first second (x.missed k below) (again_missed k below);
}
  where
    below_too : (k : ℕ) → k < length a.marks → k < length b.marks
    below_too k below = subst (λ (n : ℕ). k < n) (sym x.size) below

    again_shown : (k : ℕ) → k < length a.marks → (mark_at c k).shown ≡ ((mark_at b k).shown || is_shown a.endpoint (row_symbol a k) second)
    again_shown k below = y.shown k (below_too k below)
        ∙ ap (λ e. (mark_at b k).shown || is_shown e (row_symbol (record b { endpoint = e }) k) second) x.endpoint
        ∙ ap (λ (n : ℕ). (mark_at b k).shown || is_shown a.endpoint (row_symbol (record a { first = n }) k) second) x.first

    again_missed : (k : ℕ) → k < length a.marks → (mark_at c k).missed ≡ ((mark_at b k).missed || is_missed a.endpoint (row_symbol a k) second)
    again_missed k below = y.missed k (below_too k below)
        ∙ ap (λ e. (mark_at b k).missed || is_missed e (row_symbol (record b { endpoint = e }) k) second) x.endpoint
        ∙ ap (λ (n : ℕ). (mark_at b k).missed || is_missed a.endpoint (row_symbol (record a { first = n }) k) second) x.first

-- nothing was marked
pub marks_none : (s : SpansValue) → Marks s s []
marks_none s = record { size = refl; endpoints = refl; rows = λ ep below. row_none (row_at s ep) }

-- some cells were marked, and then others
pub marks_more : (a b c : SpansValue) (first second : List AirCell) → Marks a b first → Marks b c second → Marks a c (first ++ second)
marks_more a b c first second x y = record {
  size = y.size ∙ x.size;
  endpoints = x.endpoints ∙ y.endpoints;
  rows = λ ep below. row_more (row_at a ep) (row_at b ep) (row_at c ep) first second (x.rows ep below) (y.rows ep (subst (λ (n : ℕ). ep < n) (sym x.size) below));
}

-- the cells among events, and then among others
cells_append : (first second : List Event) → cells_of (first ++ second) ≡ cells_of first ++ cells_of second
cells_append [] second = refl
cells_append (Cell c ∷ first) second = ap (λ (l : List AirCell). c ∷ l) (cells_append first second)
cells_append (Delay at side id value ∷ first) second = cells_append first second
cells_append (Arrival side at frame ∷ first) second = cells_append first second
cells_append (Count side counter value ∷ first) second = cells_append first second

pub heard_none : (s : SpansValue) → Marks s s (cells_of [])
heard_none s = marks_none s

pub heard_more : (a b c : SpansValue) (first second : List Event) → Marks a b (cells_of first) → Marks b c (cells_of second) → Marks a c (cells_of (first ++ second))
heard_more a b c first second x y =
    subst (λ (l : List AirCell). Marks a c l) (sym (cells_append first second)) (marks_more a b c (cells_of first) (cells_of second) x y)
