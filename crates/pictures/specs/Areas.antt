-- Where cells are.
use Rattle.std.specs.Prelude.{ℕ, ◌+◌, ◌-◌, ◌*◌, List, max, nat_lt, if◌then◌else◌}
use Rattle.pictures.specs.declared.cells.Cell.{Cell}
use Rattle.pictures.specs.declared.endpoints.Endpoint.{Endpoint}
use Rattle.pictures.specs.declared.rects.Area.{Area}
use Rattle.pictures.specs.Frames.{duration_of}
use Rattle.pictures.specs.Sizes.{pixels_of, step_of, top_of}
use Rattle.pictures.specs.Spans.{past, x_after}
use Rattle.pictures.specs.declared.spans.Span.{Span}

-- one pixel less than from one place to the other where that is over three, and at least one
abbrev pub width_of : ℕ → ℕ → ℕ
width_of from to = if nat_lt 3 (to - from) then to - from - 1 else max (to - from) 1

-- the band of the downlink is above that of the uplink
abbrev pub band_of : List Endpoint → Cell → ℕ
band_of es c = if c.up then top_of es c.ep + step_of c.endpoint else top_of es c.ep

-- from the start of the symbol to its end; PRB 0 is at the bottom of the band
unfoldable pub area_of : Span → List Endpoint → Cell → Area
area_of s es c = record {
  x = x_after s (past s c.at);
  y = band_of es c + pixels_of c.endpoint * (c.endpoint.prbs - (c.prb + c.num));
  width = width_of (x_after s (past s c.at)) (x_after s (past s c.at + duration_of c.endpoint.numerology c.slot c.symbol));
  height = pixels_of c.endpoint * c.num;
}
