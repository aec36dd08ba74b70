-- The picture of a resource grid, of a text that `explain` wrote.
use Rattle.std.specs.Prelude.{ℕ, List, ◌++◌, Result, Ok, Err, ◌==◌}
use Rattle.std.specs.List.{flat_map, slice_split}
use Rattle.line_words.specs.Words.{without_last_feed}
use Rattle.pictures.specs.declared.faults.TextWhy.{TextWhy}
use Rattle.pictures.specs.Text.{grid_of}
use Rattle.pictures.specs.declared.endpoints.Endpoint.{Endpoint}
use Rattle.pictures.specs.Bands.{head_text, foot_text}
use Rattle.pictures.specs.Looks.{line_text}
use Rattle.pictures.specs.declared.spans.Span.{Span}

abbrev pub span_of : ℕ → ℕ → ℕ → Span
span_of frame subframe count = record { frame = frame; subframe = subframe; count = count }

-- what the lines draw, in their order
unfoldable pub cells_text : Span → List Endpoint → List ℕ → List ℕ
cells_text s es text = flat_map (line_text s es) (slice_split (λ b. b == 10) (without_last_feed text))

-- the picture of a text with these endpoints
unfoldable pub grid_picture : Span → List Endpoint → List ℕ → List ℕ
grid_picture s es text = head_text s es ++ cells_text s es text ++ foot_text es

abbrev pub picture_for : Span → List ℕ → Result (List Endpoint) (ℕ × TextWhy) → Result (List ℕ) (ℕ × TextWhy)
picture_for s text (Ok es) = Ok (grid_picture s es text)
picture_for s text (Err refusal) = Err refusal

-- the picture of a text, or its first line that fails and why
abbrev pub drawn : Span → List ℕ → Result (List ℕ) (ℕ × TextWhy)
drawn s text = picture_for s text (grid_of text)
