-- What a line draws, and where it is in the picture.
use Rattle.std.proofs.Common.{◌≡◌, ℕ, List, [], ◌∷◌, ◌++◌, Bool, true, false, refl, sym, ap, ◌∙◌, append_assoc, append-nil, subst}
use Rattle.std.specs.Prelude.{Option, Some, None, if◌then◌else◌}
use Rattle.std.specs.List.{flat_map}
use Rattle.std.proofs.lemmas.Grind.{flat_map-append}
use Rattle.line_words.specs.Words.{words_of}
use Rattle.pictures.specs.Cells.{cell_of}
use Rattle.pictures.specs.declared.cells.Cell.{Cell}
use Rattle.pictures.specs.declared.cells.Look.{Look}
use Rattle.pictures.specs.declared.cells.Look.TheVariants.{Shown, Missing, Why}
use Rattle.pictures.specs.declared.endpoints.Endpoint.{Endpoint}
use Rattle.pictures.specs.declared.rects.Area.{Area}
use Rattle.pictures.specs.Areas.{area_of}
use Rattle.pictures.specs.Bands.{head_text, foot_text}
use Rattle.pictures.specs.Looks.{cell_text, line_text, looks_text, cells_text as drawn_of}
use Rattle.pictures.specs.Picture.{cells_text, grid_picture}
use Rattle.pictures.specs.Spans.{is_in}
use Rattle.pictures.specs.declared.spans.Span.{Span}
use Rattle.picture_laws.specs.Drawn.{IsOf}
use Rattle.picture_laws.specs.Laws.{LinesAreDrawn, PicturesAreLines, parts_of}
use Rattle.picture_laws.proofs.Areas.{inside}
use Rattle.picture_laws.proofs.Cells.{there}

-- ---- a line

looks_of : (look : Look) (up : Bool) (a : Area) (ws : List (List ℕ)) → IsOf look up a ws (looks_text look up a ws)
looks_of Shown up a ws = refl
looks_of Missing up a ws = refl
looks_of (Why class false) up a ws = append-nil _
looks_of (Why class true) up a ws = refl

-- cells that are there, in the subframes and outside
in_span : (s : Span) (es : List Endpoint) (c : Cell) (ws : List (List ℕ)) → is_in s c.at ≡ true → cell_text s es c ws ≡ looks_text c.look c.up (area_of s es c) ws
in_span s es c ws e = ap (λ (t : Bool). if t then looks_text c.look c.up (area_of s es c) ws else []) e

out_of_span : (s : Span) (es : List Endpoint) (c : Cell) (ws : List (List ℕ)) → is_in s c.at ≡ false → cell_text s es c ws ≡ []
out_of_span s es c ws e = ap (λ (t : Bool). if t then looks_text c.look c.up (area_of s es c) ws else []) e

line_is : (s : Span) (es : List Endpoint) (line : List ℕ) (o : Option Cell) → cell_of es (words_of line) ≡ o → line_text s es line ≡ drawn_of s es o (words_of line)
unfolding line_text
line_is s es line o e = ap (λ (x : Option Cell). drawn_of s es x (words_of line)) e

pub lines_are_drawn : LinesAreDrawn
lines_are_drawn s es line span = record {
  others = λ none. line_is s es line None none;
  outside = λ c some out. line_is s es line (Some c) some ∙ out_of_span s es c (words_of line) out;
  cells = λ c some seen. record {
    is = subst (IsOf c.look c.up (area_of s es c) (words_of line)) (sym (line_is s es line (Some c) some ∙ in_span s es c (words_of line) seen)) (looks_of c.look c.up (area_of s es c) (words_of line));
    inside = inside s es c span (there es (words_of line) c some) seen;
  };
}

-- ---- a picture

split : (f : List ℕ → List ℕ) (head foot line : List ℕ) (before after parts : List (List ℕ)) → parts ≡ before ++ line ∷ after
    → head ++ flat_map f parts ++ foot ≡ (head ++ flat_map f before) ++ (f line ++ (flat_map f after ++ foot))
split f head foot line before after parts is =
    ap (λ (ps : List (List ℕ)). head ++ flat_map f ps ++ foot) is
    ∙ ap (λ (t : List ℕ). head ++ t ++ foot) (flat_map-append f before (line ∷ after))
    ∙ ap (λ (t : List ℕ). t ++ foot) (sym (append_assoc head (flat_map f before) (f line ++ flat_map f after)))
    ∙ append_assoc (head ++ flat_map f before) (f line ++ flat_map f after) foot
    ∙ ap (λ (t : List ℕ). (head ++ flat_map f before) ++ t) (append_assoc (f line) (flat_map f after) foot)

pub pictures_are_lines : PicturesAreLines
unfolding grid_picture cells_text
pictures_are_lines s es text before after line is = split (line_text s es) (head_text s es) (foot_text es) line before after (parts_of text) is
