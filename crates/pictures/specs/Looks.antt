-- What the lines of a text draw.
use Rattle.std.specs.Prelude.{ℕ, List, [], ◌∷◌, ◌++◌, drop, Bool, Option, Some, None, if◌then◌else◌, codes}
use Rattle.std.specs.List.{flat_map}
use Rattle.fh_base.specs.Numbers.{word_at}
use Rattle.line_words.specs.Words.{words_of}
use Rattle.pictures.specs.Cells.{cell_of}
use Rattle.pictures.specs.Classes.{class_name}
use Rattle.pictures.specs.declared.cells.Cell.{Cell}
use Rattle.pictures.specs.declared.cells.Look.{Look}
use Rattle.pictures.specs.declared.cells.Look.TheVariants.{Shown, Missing, Why}
use Rattle.pictures.specs.declared.classes.Class.{Class}
use Rattle.pictures.specs.declared.endpoints.Endpoint.{Endpoint}
use Rattle.pictures.specs.Elements.{rect_text, titled_text, hatched_text}
use Rattle.pictures.specs.declared.rects.Area.{Area}
use Rattle.pictures.specs.Areas.{area_of}
use Rattle.pictures.specs.Spans.{is_in}
use Rattle.pictures.specs.declared.spans.Span.{Span}

-- the class of cells with samples: they radiate, or were taken in
abbrev pub shown_name : Bool → List ℕ
shown_name up = if up then codes "shown-ul" else codes "shown-dl"

-- the words after the first, with one space between them
unfoldable pub title_of : List (List ℕ) → List ℕ
title_of ws = word_at ws 1 ++ flat_map (λ w. 32 ∷ w) (drop 2 ws)

-- a rectangle with its reason, and hatched where nothing was to radiate
abbrev pub why_text : Class → Bool → Area → List (List ℕ) → List ℕ
why_text class silent area ws = titled_text (class_name class) area (title_of ws) ++ (if silent then hatched_text area else [])

-- cells without samples are drawn by the line that says why
abbrev pub looks_text : Look → Bool → Area → List (List ℕ) → List ℕ
looks_text Shown up area ws = rect_text (shown_name up) area
looks_text Missing up area ws = []
looks_text (Why class silent) up area ws = why_text class silent area ws

abbrev pub look_text : Cell → Area → List (List ℕ) → List ℕ
look_text c area ws = looks_text c.look c.up area ws

-- cells that begin in the subframes
abbrev pub cell_text : Span → List Endpoint → Cell → List (List ℕ) → List ℕ
cell_text s es c ws = if is_in s c.at then look_text c (area_of s es c) ws else []

abbrev pub cells_text : Span → List Endpoint → Option Cell → List (List ℕ) → List ℕ
cells_text s es None ws = []
cells_text s es (Some c) ws = cell_text s es c ws

abbrev pub words_text : Span → List Endpoint → List (List ℕ) → List ℕ
words_text s es ws = cells_text s es (cell_of es ws) ws

-- what a line draws
unfoldable pub line_text : Span → List Endpoint → List ℕ → List ℕ
line_text s es line = words_text s es (words_of line)
