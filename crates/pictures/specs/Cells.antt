-- Lines of cells, `(dl|ul) T ID F S L Y prb=P num=M section=X mask=MMM (shown from=N|missing)`, and lines that say why cells have no
-- samples, `why` and the same words, with `missing REASON` or `line=J silent REASON` at the end
use Rattle.std.specs.Prelude.{◌≡◌, ℕ, ℤ, ◌+◌, ◌-◌, ◌≤◌, ◌<◌, List, length, Bool, true, false, ◌&&◌, ◌||◌, ◌==◌, nat_le, if◌then◌else◌, Option, Some, None, codes, slice_get}
use Rattle.std.specs.Option.{is_some}
use Rattle.std.specs.Str.{bytes_eq}
use Rattle.fh_base.specs.Numbering.{slots_of, symbols_of}
use Rattle.fh_base.specs.Numbers.{word_at}
use Rattle.pictures.specs.Numbers.{taking, numeral, keyed, integer, digit, is_mask, is_free, most}
use Rattle.pictures.specs.declared.cells.Cell.{Cell}
use Rattle.pictures.specs.declared.cells.Look.{Look}
use Rattle.pictures.specs.declared.cells.Look.TheVariants.{Shown, Missing, Why}
use Rattle.pictures.specs.declared.endpoints.Endpoint.{Endpoint}
use Rattle.pictures.specs.Classes.{missing_class, silent_class}
use Rattle.pictures.specs.Endpoints.{with_id}

-- in what follows `at` is the index of the word `dl` or `ul`

abbrev pub is_up_in : List (List ℕ) → ℕ → Option Bool
is_up_in ws at = if bytes_eq (word_at ws at) (codes "dl") then Some false else (if bytes_eq (word_at ws at) (codes "ul") then Some true else None)

-- slot and symbol, under those of the endpoint
abbrev pub symbol_in : Endpoint → List (List ℕ) → ℕ → Option (ℕ × ℕ)
symbol_in e ws at =
    taking (numeral 0 (slots_of e.numerology - 1) (word_at ws (at + 5))) (λ slot.
    taking (numeral 0 (symbols_of e.numerology - 1) (word_at ws (at + 6))) (λ symbol. Some (slot, symbol)))

-- one PRB or more, none of them beyond the carrier: the first and their number
abbrev pub prbs_in : Endpoint → List (List ℕ) → ℕ → Option (ℕ × ℕ)
prbs_in e ws at =
    taking (keyed (codes "num=") 1 e.prbs (word_at ws (at + 8))) (λ num.
    taking (keyed (codes "prb=") 0 (e.prbs - num) (word_at ws (at + 7))) (λ prb. Some (prb, num)))

-- frame, subframe, section and mask have their forms
abbrev pub has_names : List (List ℕ) → ℕ → Bool
has_names ws at =
    is_some (integer (word_at ws (at + 3))) && is_some (digit (word_at ws (at + 4)))
    && is_some (keyed (codes "section=") 0 most (word_at ws (at + 9))) && is_mask (word_at ws (at + 10))

-- `missing`, a reason, and none to three words more
abbrev pub why_missing : List (List ℕ) → Option Look
why_missing ws =
    if bytes_eq (word_at ws 12) (codes "missing") && nat_le (length ws) 17
    then taking (missing_class (word_at ws 13)) (λ class. if is_free ws 14 && is_free ws 15 && is_free ws 16 then Some (Why class false) else None)
    else None

-- the line of the plan, `silent`, a reason, and none to three words more
abbrev pub why_silent : List (List ℕ) → Option Look
why_silent ws =
    if bytes_eq (word_at ws 13) (codes "silent") && nat_le (length ws) 18
    then taking (keyed (codes "line=") 0 most (word_at ws 12)) (λ line. taking (silent_class (word_at ws 14)) (λ class.
    if is_free ws 15 && is_free ws 16 && is_free ws 17 then Some (Why class true) else None))
    else None

-- the first that is there
abbrev pub first_look : Option Look → Option Look → Option Look
first_look (Some look) other = Some look
first_look None other = other

abbrev pub look_of_why : List (List ℕ) → Option Look
look_of_why ws = first_look (why_missing ws) (why_silent ws)

abbrev pub look_of_cell : List (List ℕ) → Option Look
look_of_cell ws =
    if (length ws == 12) && bytes_eq (word_at ws 11) (codes "missing") then Some Missing
    else (if (length ws == 13) && bytes_eq (word_at ws 11) (codes "shown") then taking (keyed (codes "from=") 0 most (word_at ws 12)) (λ arrival. Some Shown)
    else None)

-- the endpoint with the id of the words, and its index
abbrev pub endpoint_at : List Endpoint → List (List ℕ) → ℕ → Option (ℕ × Endpoint)
endpoint_at es ws at = taking (with_id es (word_at ws (at + 2))) (λ ep. taking (slice_get es ep) (λ e. Some (ep, e)))

-- the cells of an endpoint that the words name
abbrev pub cell_in : List (List ℕ) → ℕ → Bool → ℤ → ℕ → Endpoint → Look → Option Cell
cell_in ws at up start ep e look =
    taking (symbol_in e ws at) (λ s. taking (prbs_in e ws at) (λ p.
    Some (record { up = up; at = start; ep = ep; endpoint = e; slot = s.0; symbol = s.1; prb = p.0; num = p.1; look = look })))

-- the way and the start of the symbol, where the words after them have their forms
abbrev pub start_at : List (List ℕ) → ℕ → Option (Bool × ℤ)
start_at ws at = if has_names ws at then taking (is_up_in ws at) (λ up. taking (integer (word_at ws (at + 1))) (λ start. Some (up, start))) else None

-- the cells of one of the endpoints that the words name
abbrev pub cell_at : List Endpoint → List (List ℕ) → ℕ → Look → Option Cell
cell_at es ws at look = taking (start_at ws at) (λ t. taking (endpoint_at es ws at) (λ p. cell_in ws at t.0 t.1 p.0 p.1 look))

abbrev pub is_cell_word : List (List ℕ) → Bool
is_cell_word ws = bytes_eq (word_at ws 0) (codes "dl") || bytes_eq (word_at ws 0) (codes "ul")

abbrev pub is_why_word : List (List ℕ) → Bool
is_why_word ws = bytes_eq (word_at ws 0) (codes "why")

-- the words that a line about cells begins with
abbrev pub names_cells : List ℕ → Bool
names_cells w = bytes_eq w (codes "dl") || bytes_eq w (codes "ul") || bytes_eq w (codes "why")

-- the cells that a line is about, and how they look
unfoldable pub cell_of : List Endpoint → List (List ℕ) → Option Cell
cell_of es ws =
    if is_cell_word ws then taking (look_of_cell ws) (cell_at es ws 0)
    else (if is_why_word ws then taking (look_of_why ws) (cell_at es ws 1)
    else None)

-- they lie in the slots and the carrier of their endpoint
pub record IsWithin (es : List Endpoint) (c : Cell) : Type 0 where
  pub ep : c.ep < length es
  pub is : slice_get es c.ep ≡ Some c.endpoint
  pub slot : c.slot < slots_of c.endpoint.numerology
  pub symbol : c.symbol < symbols_of c.endpoint.numerology
  pub some : 1 ≤ c.num
  pub prbs : c.prb + c.num ≤ c.endpoint.prbs
