-- The endpoints of a text that `explain` wrote, or its first line that fails.
use Rattle.std.specs.Prelude.{◌≡◌, ℕ, ◌+◌, List, [], ◌∷◌, ◌++◌, length, Bool, true, false, ◌||◌, ◌==◌, nat_le, if◌then◌else◌, Result, Ok, Err, codes}
use Rattle.std.specs.List.{slice_split}
use Rattle.std.specs.Option.{is_some}
use Rattle.std.specs.Str.{bytes_eq}
use Rattle.fh_base.specs.Numbers.{word_at}
use Rattle.line_words.specs.Words.{words_of, is_text, without_last_feed}
use Rattle.pictures.specs.Refusals.{head_line, is_end, or_line, going_on}
use Rattle.pictures.specs.declared.faults.TextWhy.{TextWhy}
use Rattle.pictures.specs.declared.faults.TextWhy.TheVariants as why
use Rattle.pictures.specs.declared.endpoints.Endpoint.{Endpoint}
use Rattle.pictures.specs.declared.list.TheConstants.{MOST_ENDPOINTS}
use Rattle.pictures.specs.declared.reading.Reading.{Reading}
use Rattle.pictures.specs.declared.faults.TextRefusal.{TextRefusal}
use Rattle.pictures.specs.Cells.{is_cell_word, is_why_word, names_cells, cell_of}
use Rattle.pictures.specs.Endpoints.{endpoint_in, with_id}

-- before the first line
abbrev pub start : Reading
start = record { endpoints = []; begun = false; ended = false }

abbrev pub has_id : List Endpoint → List ℕ → Bool
has_id es id = is_some (with_id es id)

-- an endpoint line is before all lines of cells, and has an id of its own; there are at most sixteen
abbrev pub endpoint_line : Reading → List (List ℕ) → Result Reading TextWhy
endpoint_line r ws =
    if r.begun then Err why.Line
    else or_line (endpoint_in ws) (λ e. if nat_le MOST_ENDPOINTS (length r.endpoints) || has_id r.endpoints (word_at ws 1) then Err why.Line
    else Ok (record r { endpoints = r.endpoints ++ e ∷ [] }))

-- a line of cells is about one of the endpoints
abbrev pub cell_line : Reading → List (List ℕ) → Result Reading TextWhy
cell_line r ws = or_line (cell_of r.endpoints ws) (λ c. Ok (record r { begun = true }))

-- all other lines are passed over
abbrev pub used_line : Reading → List (List ℕ) → Result Reading TextWhy
used_line r ws =
    if bytes_eq (word_at ws 0) (codes "endpoint") then endpoint_line r ws
    else (if is_cell_word ws || is_why_word ws then cell_line r ws
    else Ok r)

-- no line is after the end
abbrev pub later_line : Reading → List (List ℕ) → Result Reading TextWhy
later_line r ws =
    if r.ended then Err why.End
    else (if is_end ws then Ok (record r { ended = true }) else used_line r ws)

abbrev pub same_after : Reading → Result (Unit {0}) TextWhy → Result Reading TextWhy
same_after r (Ok u) = Ok r
same_after r (Err w) = Err w

abbrev pub words_line : Reading → ℕ → List (List ℕ) → Result Reading TextWhy
words_line r n ws = if n == 1 then same_after r (head_line ws) else later_line r ws

-- the words that a line begins with which is not passed over
abbrev pub is_used : List ℕ → Bool
is_used w = names_cells w || bytes_eq w (codes "endpoint") || bytes_eq w (codes "end")

-- the line with the number n, where the lines before it say r
unfoldable pub line_of : Reading → ℕ → List ℕ → Result Reading TextWhy
line_of r n line = if is_text line then words_line r n (words_of line) else Err why.NotText

-- at the end; n is the number of the line after the last
abbrev pub at_end : ℕ → Reading → Result (List Endpoint) (ℕ × TextWhy)
at_end n r = if r.ended then Ok r.endpoints else Err (n, why.End)

-- the lines from the number n on
abbrev pub read_from : ℕ → Reading → List (List ℕ) → Result (List Endpoint) (ℕ × TextWhy)
read_from n r [] = at_end n r
read_from n r (line ∷ lines) = going_on (line_of r n line) (λ next. read_from (n + 1) next lines) (λ w. Err (n, w))

-- the endpoints of a text, or its first line that fails and why; where there is no line, the first is missing
abbrev pub grid_of : List ℕ → Result (List Endpoint) (ℕ × TextWhy)
grid_of text = if length text == 0 then Err (1, why.Head) else read_from 1 start (slice_split (λ b. b == 10) (without_last_feed text))

-- what was read became the wanted one, or the wanted reason was given
abbrev pub Refuses : Result Reading TextWhy → Result (Unit {0}) TextWhy → Reading → Type 0
Refuses wanted (Ok u) new = wanted ≡ Ok new
Refuses wanted (Err w) new = wanted ≡ Err w

-- the result is the wanted answer
abbrev pub Answers : Result (List Endpoint) (ℕ × TextWhy) → Result (List Endpoint) TextRefusal → Type 0
Answers wanted (Ok es) = wanted ≡ Ok es
Answers wanted (Err refusal) = wanted ≡ Err (refusal.line, refusal.why)
