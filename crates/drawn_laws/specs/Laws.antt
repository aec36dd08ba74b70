-- The laws of pictures of explanations.
use Rattle.std.specs.Prelude.{◌≡◌, ℕ, List, Ok}
use Rattle.explain_model.specs.Lines.{lines_text}
use Rattle.explain_model.specs.declared.values.ExplainLine.{ExplainLine}
use Rattle.pictures.specs.Picture.{drawn as grid_drawn}
use Rattle.pictures.specs.declared.spans.Span.{Span}
use Rattle.pictures.specs.WindowPicture.{drawn as windows_drawn}
use Rattle.drawn_laws.specs.Drawable.{IsDrawable}

-- no picture refuses the text
pub record HasPictures (text : List ℕ) : Type 0 where
  pub grid : (s : Span) → (picture : List ℕ) × (grid_drawn s text ≡ Ok picture)
  pub windows : (picture : List ℕ) × (windows_drawn text ≡ Ok picture)

abbrev pub DrawableAreDrawn : Type 0
DrawableAreDrawn = (lines : List ExplainLine) → IsDrawable lines → HasPictures (lines_text lines)
