-- What a line of the text draws.
use Rattle.std.specs.Prelude.{◌≡◌, ℕ, List, [], ◌++◌, Bool, true, false, Some, None}
use Rattle.line_words.specs.Words.{words_of}
use Rattle.pictures.specs.Cells.{cell_of}
use Rattle.pictures.specs.Classes.{class_name}
use Rattle.pictures.specs.declared.cells.Cell.{Cell}
use Rattle.pictures.specs.declared.cells.Look.{Look}
use Rattle.pictures.specs.declared.cells.Look.TheVariants.{Shown, Missing, Why}
use Rattle.pictures.specs.declared.endpoints.Endpoint.{Endpoint}
use Rattle.pictures.specs.Elements.{rect_text, titled_text, hatched_text}
use Rattle.pictures.specs.declared.rects.Area.{Area}
use Rattle.pictures.specs.Areas.{area_of}
use Rattle.pictures.specs.Looks.{shown_name, title_of}
use Rattle.pictures.specs.Spans.{is_in}
use Rattle.pictures.specs.declared.spans.Span.{Span}
use Rattle.picture_laws.specs.Inside.{IsInside}

-- One rectangle of the class: with the words of the line as its title where these say why, and then hatched where no command was accepted.
-- Cells without samples have none, as the line that says why has one.
abbrev pub IsOf : Look → Bool → Area → List (List ℕ) → List ℕ → Type 0
IsOf Shown up a ws text = text ≡ rect_text (shown_name up) a
IsOf Missing up a ws text = text ≡ []
IsOf (Why class false) up a ws text = text ≡ titled_text (class_name class) a (title_of ws)
IsOf (Why class true) up a ws text = text ≡ titled_text (class_name class) a (title_of ws) ++ hatched_text a

-- what cells draw whose symbol begins in the subframes
pub record IsCell (s : Span) (es : List Endpoint) (ws : List (List ℕ)) (c : Cell) (text : List ℕ) : Type 0 where
  pub is : IsOf c.look c.up (area_of s es c) ws text
  pub inside : IsInside es c (area_of s es c)

-- what a line draws: nothing where it names no cells, or these begin before the subframes or after them
pub record IsDrawn (s : Span) (es : List Endpoint) (line text : List ℕ) : Type 0 where
  pub others : cell_of es (words_of line) ≡ None → text ≡ []
  pub outside : (c : Cell) → cell_of es (words_of line) ≡ Some c → is_in s c.at ≡ false → text ≡ []
  pub cells : (c : Cell) → cell_of es (words_of line) ≡ Some c → is_in s c.at ≡ true → IsCell s es (words_of line) c text
