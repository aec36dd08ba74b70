-- What is counted of the arrivals of a flow.
use Rattle.std.specs.Prelude.{ℕ, ℤ, List, Option, Some, None, if◌then◌else◌, slice_set}
use Rattle.std.specs.Int.{int_min}
use Rattle.std.specs.List.{count_by, flat_map, fold, slice_index_or}
use Rattle.pictures.specs.declared.arrivals.Arrival.{Arrival}
use Rattle.pictures.specs.declared.arrivals.Kind.{Kind}
use Rattle.pictures.specs.declared.tallies.Counts.{Counts}
use Rattle.pictures.specs.declared.tallies.TheConstants.{COLUMNS}
use Rattle.pictures.specs.Counts.{is_on_time, is_late, is_early, no_counts, counted, marks_of, columns_of}

-- the sections, by their kinds
abbrev pub sections_of : List Arrival → Counts
sections_of came = record {
  on_time = count_by (λ a. is_on_time a.kind) came;
  late = count_by (λ a. is_late a.kind) came;
  early = count_by (λ a. is_early a.kind) came;
}

-- the lesser of a number and one that may be there
abbrev pub lesser : Option ℤ → ℤ → Option ℤ
lesser None z = Some z
lesser (Some y) z = Some (int_min y z)

-- the least of the numbers of those that are on time, where one is
abbrev pub least_of : (Arrival → ℤ) → List Arrival → Option ℤ
least_of f came = fold (λ least a. if is_on_time a.kind then lesser least (f a) else least) None came

-- what is counted of the arrivals of a flow
pub record Tally : Type 0 where
  pub columns : List Counts
  pub sections : Counts
  pub since : Option ℤ
  pub until : Option ℤ

unfoldable pub tally_of : List Arrival → Tally
tally_of came = record {
  columns = columns_of COLUMNS (flat_map marks_of came);
  sections = sections_of came;
  since = least_of (λ a. a.margins.since) came;
  until = least_of (λ a. a.margins.until) came;
}

-- with one mark more
abbrev pub marked : Tally → ℕ → Kind → Tally
marked t c kind = record t { columns = slice_set t.columns c (counted kind (slice_index_or t.columns c no_counts)) }

abbrev pub marked_last : Tally → Kind → Option ℕ → Tally
marked_last t kind None = t
marked_last t kind (Some c) = marked t c kind

abbrev pub marked_both : Tally → Arrival → Tally
marked_both t a = marked_last (marked t a.first a.kind) a.kind a.last

-- with the margins of one arrival more
abbrev pub measured : Tally → Arrival → Tally
measured t a = if is_on_time a.kind then record t { since = lesser t.since a.margins.since; until = lesser t.until a.margins.until } else t
