-- The rectangle of cells is inside their band.
use Rattle.std.proofs.Common.{◌≡◌, ℕ, ◌+◌, ◌-◌, ◌*◌, ◌/◌, ◌<◌, ◌≤◌, List, true, max, min, ℤ, arith}
use Rattle.pictures.specs.Scales.{scaled}
use Rattle.pictures.specs.declared.cells.Cell.{Cell}
use Rattle.pictures.specs.declared.endpoints.Endpoint.{Endpoint}
use Rattle.pictures.specs.Areas.{area_of, band_of}
use Rattle.pictures.specs.Frames.{duration_of}
use Rattle.pictures.specs.Sizes.{height_of, pixels_of}
use Rattle.pictures.specs.Spans.{IsSpan, begin_of, is_in, length_of, past, x_after}
use Rattle.pictures.specs.declared.spans.Span.{Span}
use Rattle.picture_laws.specs.Inside.{IsInside}
use Rattle.picture_laws.proofs.Bands.{band_first, band_last}
use Rattle.picture_laws.proofs.Cells.{IsThere}
use Rattle.picture_laws.proofs.Scales.{at_most, before_end, past_in, rows_in, some_rows, width_in, width_some}

some_length : (s : Span) → IsSpan s → 0 < length_of s
some_length s span = let some : 1 ≤ s.count = span.some in omega arith

start_before : (s : Span) (at : ℤ) → is_in s at ≡ true → x_after s (past s at) < 1238
unfolding x_after
start_before s at seen =
    let less : scaled (past s at) (length_of s) 1120 < 1120 = before_end (past s at) (length_of s) 1120 (past_in at (begin_of s) (length_of s) seen) (omega arith) in
    omega (arith, less)

low : (s : Span) (ticks : ℕ) → 118 ≤ x_after s ticks
unfolding x_after
low s ticks = omega arith

high : (s : Span) (ticks : ℕ) → IsSpan s → x_after s ticks ≤ 1238
unfolding x_after
high s ticks span =
    let most : scaled ticks (length_of s) 1120 ≤ 1120 = at_most ticks (length_of s) 1120 (some_length s span) in
    omega (arith, most)

some_pixels : (e : Endpoint) → 1 ≤ pixels_of e
some_pixels e = go (min (96 / max e.prbs 1) 8)
  where
    go : (n : ℕ) → 1 ≤ max n 1
    go n = omega arith

-- above the rectangle is what is left of the band
rows : (band above height whole : ℕ) → above + height ≤ whole → (band + above) + height ≤ band + whole
rows band above height whole fits = omega arith

pub inside : (s : Span) (es : List Endpoint) (c : Cell) → IsSpan s → IsThere es c → is_in s c.at ≡ true → IsInside es c (area_of s es c)
unfolding area_of
inside s es c span is seen =
    let p = pixels_of c.endpoint in
    let from = x_after s (past s c.at) in
    let to = x_after s (past s c.at + duration_of c.endpoint.numerology c.slot c.symbol) in
    record {
      wide = width_some from to;
      high = some_rows p c.num (some_pixels c.endpoint) is.some;
      left = low s (past s c.at);
      right = width_in from to 1238 (start_before s c.at seen) (high s (past s c.at + duration_of c.endpoint.numerology c.slot c.symbol) span);
      top = omega arith;
      bottom = rows (band_of es c) (p * (c.endpoint.prbs - (c.prb + c.num))) (p * c.num) (height_of c.endpoint) (rows_in p c.prb c.num c.endpoint.prbs is.prbs);
      first = band_first es c;
      last = band_last es c is.is;
    }
