-- The laws of pictures.
use Rattle.std.specs.Prelude.{◌≡◌, ℕ, List, ◌∷◌, ◌++◌, ◌==◌, Ok}
use Rattle.std.specs.List.{flat_map, slice_split}
use Rattle.line_words.specs.Words.{without_last_feed}
use Rattle.pictures.specs.declared.endpoints.Endpoint.{Endpoint}
use Rattle.pictures.specs.Bands.{head_text, foot_text}
use Rattle.pictures.specs.Looks.{line_text}
use Rattle.pictures.specs.Picture.{grid_picture, drawn as grid_drawn}
use Rattle.pictures.specs.Spans.{IsSpan}
use Rattle.pictures.specs.declared.spans.Span.{Span}
use Rattle.pictures.specs.WindowPicture.{drawn as windows_drawn}
use Rattle.picture_laws.specs.Drawn.{IsDrawn}
use Rattle.picture_laws.specs.Parts.{HasPanels}
use Rattle.picture_laws.specs.Plain.{IsPlain}

-- the lines of a text
abbrev pub parts_of : List ℕ → List (List ℕ)
parts_of text = slice_split (λ b. b == 10) (without_last_feed text)

-- what a line draws is in the picture once, at its place
abbrev pub PicturesAreLines : Type 0
PicturesAreLines =
    (s : Span) (es : List Endpoint) (text : List ℕ) (before after : List (List ℕ)) (line : List ℕ) → parts_of text ≡ before ++ line ∷ after
    → grid_picture s es text ≡ (head_text s es ++ flat_map (line_text s es) before) ++ (line_text s es line ++ (flat_map (line_text s es) after ++ foot_text es))

abbrev pub LinesAreDrawn : Type 0
LinesAreDrawn = (s : Span) (es : List Endpoint) (line : List ℕ) → IsSpan s → IsDrawn s es line (line_text s es line)

-- the pictures of texts that are not refused
abbrev pub GridsArePlain : Type 0
GridsArePlain = (s : Span) (text picture : List ℕ) → grid_drawn s text ≡ Ok picture → IsPlain picture

abbrev pub WindowsArePlain : Type 0
WindowsArePlain = (text picture : List ℕ) → windows_drawn text ≡ Ok picture → IsPlain picture

-- the picture of the windows of a text that is not refused is made of parts, each in its panel
abbrev pub WindowsHavePanels : Type 0
WindowsHavePanels = (text picture : List ℕ) → windows_drawn text ≡ Ok picture → HasPanels picture
