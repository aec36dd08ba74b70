-- Marks in columns, counted by their kinds.
use Rattle.std.specs.Prelude.{ℕ, zero, suc, ◌+◌, ◌<◌, List, [], ◌∷◌, ◌++◌, Bool, true, false, ◌&&◌, ◌==◌, Option, Some, None}
use Rattle.std.specs.List.{count_by}
use Rattle.pictures.specs.declared.arrivals.Arrival.{Arrival}
use Rattle.pictures.specs.declared.arrivals.Kind.{Kind}
use Rattle.pictures.specs.declared.arrivals.Kind.TheVariants.{OnTime, Late, Early}
use Rattle.pictures.specs.declared.tallies.Counts.{Counts}

abbrev pub is_on_time : Kind → Bool
is_on_time OnTime = true
is_on_time Late = false
is_on_time Early = false

abbrev pub is_late : Kind → Bool
is_late OnTime = false
is_late Late = true
is_late Early = false

abbrev pub is_early : Kind → Bool
is_early OnTime = false
is_early Late = false
is_early Early = true

abbrev pub no_counts : Counts
no_counts = record { on_time = 0; late = 0; early = 0 }

-- one more of a kind
abbrev pub counted : Kind → Counts → Counts
counted OnTime c = record c { on_time = c.on_time + 1 }
counted Late c = record c { late = c.late + 1 }
counted Early c = record c { early = c.early + 1 }

-- each number is below a limit
pub record IsBelow (limit : ℕ) (c : Counts) : Type 0 where
  pub on_time : c.on_time < limit
  pub late : c.late < limit
  pub early : c.early < limit

-- a mark in a column
pub record Mark : Type 0 where
  pub column : ℕ
  pub kind : Kind

abbrev pub mark_at : Kind → ℕ → Mark
mark_at kind column = record { column = column; kind = kind }

abbrev pub last_marks : Kind → Option ℕ → List Mark
last_marks kind None = []
last_marks kind (Some column) = mark_at kind column ∷ []

-- an arrival has a mark where its message began to arrive, and one where it was there, if that is another arrival
abbrev pub marks_of : Arrival → List Mark
marks_of a = mark_at a.kind a.first ∷ last_marks a.kind a.last

-- the marks in a column, by their kinds
abbrev pub column_at : List Mark → ℕ → Counts
column_at ms c = record {
  on_time = count_by (λ m. (m.column == c) && is_on_time m.kind) ms;
  late = count_by (λ m. (m.column == c) && is_late m.kind) ms;
  early = count_by (λ m. (m.column == c) && is_early m.kind) ms;
}

-- those of the columns below n
unfoldable pub columns_of : ℕ → List Mark → List Counts
columns_of zero ms = []
columns_of (suc n) ms = columns_of n ms ++ column_at ms n ∷ []
