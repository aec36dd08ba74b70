-- What is before the cells and after them.
use Rattle.std.specs.Prelude.{ℕ, ◌+◌, ◌*◌, ◌/◌, ◌%◌, List, [], ◌∷◌, ◌++◌, Bool, true, false, ◌==◌, if◌then◌else◌, codes, decimal}
use Rattle.fh_base.specs.Numbering.{code_of, slots_of}
use Rattle.fh_base.specs.declared.nanoseconds.TheConstants.{NANOSECOND}
use Rattle.fh_base.specs.declared.symbols.TheConstants.{SUBFRAME}
use Rattle.line_words.specs.Each.{each}
use Rattle.pictures.specs.declared.endpoints.Endpoint.{Endpoint}
use Rattle.pictures.specs.Elements.{rect_text, down_text, text_text}
use Rattle.pictures.specs.Opening.{opening_text, closing_text}
use Rattle.pictures.specs.declared.texts.Anchor.TheVariants.{Start, End}
use Rattle.pictures.specs.Frames.{slot_begin}
use Rattle.pictures.specs.Sizes.{height_of, step_of, block_of, legend_of}
use Rattle.pictures.specs.Spans.{begin_of, x_after}
use Rattle.pictures.specs.declared.spans.Span.{Span}

-- the spacing of the subcarriers in kHz, by its code
abbrev pub scs_name : Endpoint → List ℕ
scs_name e =
    if code_of e.numerology == 0 then codes "15"
    else (if code_of e.numerology == 1 then codes "30"
    else (if code_of e.numerology == 2 then codes "60"
    else (if code_of e.numerology == 3 then codes "120"
    else (if code_of e.numerology == 4 then codes "240"
    else (if code_of e.numerology == 12 then codes "1.25"
    else codes "5")))))

-- the first slot of a subframe is marked more strongly
abbrev pub slot_name : ℕ → List ℕ
slot_name slot = if slot == 0 then codes "frame" else codes "slot"

abbrev pub way_name : Bool → List ℕ
way_name up = if up then codes " ul" else codes " dl"

-- the line at which a slot begins, over the height of a band that begins at y
unfoldable pub slot_text : Span → Endpoint → ℕ → ℕ → ℕ → List ℕ
slot_text s e y subframe slot = down_text (slot_name slot) (x_after s (subframe * SUBFRAME + slot_begin e.numerology slot)) y (height_of e)

unfoldable pub slots_text : Span → Endpoint → ℕ → ℕ → List ℕ
slots_text s e y subframe = each (slot_text s e y subframe) (slots_of e.numerology)

unfoldable pub lines_text : Span → Endpoint → ℕ → List ℕ
lines_text s e y = each (slots_text s e y) s.count

-- id and way
unfoldable pub label_text : Endpoint → ℕ → Bool → List ℕ
label_text e y up = text_text 110 (y + 12) false End (e.id ++ way_name up)

unfoldable pub note_text : Endpoint → ℕ → List ℕ
note_text e y = text_text 110 (y + 25) true End (decimal e.prbs ++ codes " PRB, " ++ scs_name e ++ codes " kHz")

-- the band of one way of an endpoint, which begins at y
unfoldable pub band_text : Span → Endpoint → ℕ → Bool → List ℕ
band_text s e y up = rect_text (codes "panel") (record { x = 118; y = y; width = 1120; height = height_of e }) ++ lines_text s e y ++ label_text e y up ++ note_text e y

-- the band of the downlink and that of the uplink
unfoldable pub block_text : Span → Endpoint → ℕ → List ℕ
block_text s e y = band_text s e y false ++ band_text s e (y + step_of e) true

-- the bands of all endpoints, of which the first begins at y
unfoldable pub bands_text : Span → ℕ → List Endpoint → List ℕ
bands_text s y [] = []
bands_text s y (e ∷ es) = block_text s e y ++ bands_text s (y + block_of e) es

abbrev pub count_name : ℕ → List ℕ
count_name count = if count == 1 then codes " subframe" else codes " subframes"

unfoldable pub span_title : Span → List ℕ
span_title s = codes "Resource grid: frame " ++ decimal s.frame ++ codes ", subframe " ++ decimal s.subframe ++ codes ", " ++ decimal s.count ++ count_name s.count

-- size, style and title
unfoldable pub title_text : Span → ℕ → List ℕ
title_text s legend = opening_text 1260 (legend + 54) (span_title s)

-- from when on, in nanoseconds
unfoldable pub from_text : Span → List ℕ
from_text s =
    text_text 118 40 true Start
    (codes "from " ++ decimal (begin_of s / NANOSECOND)
    ++ codes " ns on, a column for each subframe (FRAME.SUBFRAME); PRB 0 at the bottom of each band; hatched: no command was accepted, so nothing was to radiate")

-- frame and subframe above a column
unfoldable pub column_text : Span → ℕ → List ℕ
column_text s k =
    text_text (x_after s (k * SUBFRAME)) 56 true Start (decimal (s.frame + (s.subframe + k) / 10) ++ codes "." ++ decimal ((s.subframe + k) % 10))

unfoldable pub columns_text : Span → List ℕ
columns_text s = each (column_text s) s.count

-- what is before the cells
unfoldable pub head_text : Span → List Endpoint → List ℕ
head_text s es = title_text s (legend_of es) ++ from_text s ++ columns_text s ++ bands_text s 62 es

-- a class and its name
unfoldable pub entry_text : ℕ → ℕ → List ℕ → List ℕ → List ℕ
entry_text x y class name = rect_text class (record { x = x; y = y; width = 12; height = 12 }) ++ text_text (x + 17) (y + 10) false Start name

-- each entry is 32 pixels, and 7 for each character of the name, after the one before it
unfoldable pub first_text : ℕ → List ℕ
first_text y =
    entry_text 10 y (codes "shown-dl") (codes "radiates")
    ++ entry_text 98 y (codes "shown-ul") (codes "taken in")
    ++ entry_text 186 y (codes "late") (codes "late")
    ++ entry_text 246 y (codes "early") (codes "early")
    ++ entry_text 313 y (codes "unfinished") (codes "fragment missing")

unfoldable pub second_text : ℕ → List ℕ
second_text y =
    entry_text 457 y (codes "other") (codes "another section id")
    ++ entry_text 615 y (codes "refused") (codes "refused or wrong way")
    ++ entry_text 787 y (codes "repeated") (codes "sequence id repeated")

unfoldable pub third_text : ℕ → List ℕ
third_text y = entry_text 959 y (codes "command") (codes "command not accepted") ++ entry_text 1131 y (codes "nodata") (codes "nothing came")

unfoldable pub legend_text : ℕ → List ℕ
legend_text y = first_text y ++ second_text y ++ third_text y

-- what may be done with the picture, below the legend
unfoldable pub hint_text : ℕ → List ℕ
hint_text y =
    text_text 118 (y + 34) true Start
    (codes "Point at a coloured cell for its line of explain. Blue radiates, green was taken in; every other colour is a cell that is missing or silent.")

-- what is after the cells
unfoldable pub foot_text : List Endpoint → List ℕ
foot_text es = legend_text (legend_of es) ++ hint_text (legend_of es) ++ closing_text
