-- Where the rectangle of cells is.
use Rattle.std.specs.Prelude.{◌+◌, ◌≤◌, ◌<◌, List}
use Rattle.pictures.specs.declared.cells.Cell.{Cell}
use Rattle.pictures.specs.declared.endpoints.Endpoint.{Endpoint}
use Rattle.pictures.specs.declared.rects.Area.{Area}
use Rattle.pictures.specs.Areas.{band_of}
use Rattle.pictures.specs.Sizes.{height_of, legend_of}

-- it has at least one pixel, and lies in the columns of the subframes and in its band, which is above the legend
pub record IsInside (es : List Endpoint) (c : Cell) (a : Area) : Type 0 where
  pub wide : 1 ≤ a.width
  pub high : 1 ≤ a.height
  pub left : 118 ≤ a.x
  pub right : a.x + a.width ≤ 1238
  pub top : band_of es c ≤ a.y
  pub bottom : a.y + a.height ≤ band_of es c + height_of c.endpoint
  pub first : 62 ≤ band_of es c
  pub last : band_of es c + height_of c.endpoint < legend_of es
