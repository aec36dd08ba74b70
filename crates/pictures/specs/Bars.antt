-- Bars of arrivals.
use Rattle.std.specs.Prelude.{ℕ, ◌+◌, ◌-◌, List, [], ◌++◌, length, max, ◌==◌, if◌then◌else◌, codes}
use Rattle.std.specs.List.{fold, slice_index_or}
use Rattle.line_words.specs.Each.{each}
use Rattle.pictures.specs.Scales.{scaled}
use Rattle.pictures.specs.Counts.{no_counts}
use Rattle.pictures.specs.declared.tallies.Counts.{Counts}
use Rattle.pictures.specs.Elements.{rect_text}

abbrev pub sum_of : Counts → ℕ
sum_of c = c.on_time + c.late + c.early

-- the most marks of a column
abbrev pub most_of : List Counts → ℕ
most_of columns = fold (λ most c. max most (sum_of c)) 0 columns

-- 48 pixels for the most, at least 4 for any, and none for none
abbrev pub height_of : ℕ → ℕ → ℕ
height_of n most = if n == 0 then 0 else max (scaled n (max most 1) 48) 4

-- a bar of a kind, where it has a height
abbrev pub bar_text : List ℕ → ℕ → ℕ → ℕ → List ℕ
bar_text class x top height = if height == 0 then [] else rect_text class (record { x = x; y = top; width = 3; height = height })

-- from the base upwards those on time, the late and the early ones, each bar on the one before it
unfoldable pub column_text : ℕ → ℕ → ℕ → Counts → List ℕ
column_text base most column c =
    bar_text (codes "ok") (213 + column) (base - height_of c.on_time most) (height_of c.on_time most)
    ++ bar_text (codes "late") (213 + column) (base - height_of c.on_time most - height_of c.late most) (height_of c.late most)
    ++ bar_text (codes "early") (213 + column) (base - height_of c.on_time most - height_of c.late most - height_of c.early most) (height_of c.early most)

-- the bars of the column with an index
abbrev pub nth_column : ℕ → List Counts → ℕ → List ℕ
nth_column base columns k = column_text base (most_of columns) k (slice_index_or columns k no_counts)

-- the columns from left to right
unfoldable pub bars_text : ℕ → List Counts → List ℕ
bars_text base columns = each (nth_column base columns) (length columns)
