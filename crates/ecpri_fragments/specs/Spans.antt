-- A table of the parts of a memory that hold pieces.
use Rattle.std.specs.Prelude.{◌≡◌, ℕ, zero, suc, ◌+◌, ◌<◌, ◌≤◌, ◌&&◌, ◌++◌, Bool, true, false, List, [], ◌∷◌, take, drop, Option, Some, None, is_some, slice_index_or}
use Rattle.ecpri_fragments.specs.declared.place.Span.{Span}

abbrev pub span_of : List (Option Span) → ℕ → Option Span
span_of spans k = slice_index_or spans k None

-- the part of the memory that a span names
abbrev pub slice_of : Span → List ℕ → List ℕ
slice_of p bytes = take p.len (drop p.from bytes)

abbrev pub shown : Option Span → List ℕ → Option (List ℕ)
shown None bytes = None
shown (Some p) bytes = Some (slice_of p bytes)

abbrev pub bytes_of : Option Span → List ℕ → List ℕ
bytes_of None bytes = []
bytes_of (Some p) bytes = slice_of p bytes

-- where a span ends
abbrev pub end_of_span : Option Span → ℕ
end_of_span None = 0
end_of_span (Some p) = p.from + p.len

-- each of the 128 spans lies in the first bytes of the memory
abbrev pub Inside : List (Option Span) → ℕ → Type 0
Inside spans used = (k : ℕ) → k < 128 → end_of_span (span_of spans k) ≤ used

abbrev pub EmptyFrom : List (Option Span) → ℕ → Type 0
EmptyFrom spans top = (k : ℕ) → top ≤ k → span_of spans k ≡ None

-- the first n spans are there
abbrev pub all_in : List (Option Span) → ℕ → Bool
all_in spans zero = true
all_in spans (suc n) = is_some (span_of spans n) && all_in spans n

-- the spans up to the one at the end are there
abbrev pub whole_in : List (Option Span) → Option ℕ → Bool
whole_in spans None = false
whole_in spans (Some e) = all_in spans (e + 1)

-- what the first n spans name
abbrev pub pieces_in : List (Option Span) → List ℕ → ℕ → List (List ℕ)
pieces_in spans bytes zero = []
pieces_in spans bytes (suc n) = pieces_in spans bytes n ++ bytes_of (span_of spans n) bytes ∷ []
