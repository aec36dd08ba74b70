-- How high the bands of endpoints are, and where they are, in pixels.
use Rattle.std.specs.Prelude.{ℕ, ◌+◌, ◌*◌, ◌/◌, List, length, take, min, max, sum_by}
use Rattle.pictures.specs.declared.endpoints.Endpoint.{Endpoint}

-- how high a PRB is; a carrier has at least one
abbrev pub pixels_of : Endpoint → ℕ
pixels_of e = max (min (96 / max e.prbs 1) 8) 1

abbrev pub height_of : Endpoint → ℕ
height_of e = pixels_of e * e.prbs

-- from the beginning of a band to that of the next
abbrev pub step_of : Endpoint → ℕ
step_of e = max (height_of e) 30 + 6

-- from the beginning of an endpoint's bands, of which it has two, to that of the next one's
abbrev pub block_of : Endpoint → ℕ
block_of e = 2 * step_of e + 12

-- where the bands of the endpoint with an index begin
unfoldable pub top_of : List Endpoint → ℕ → ℕ
top_of es ep = 62 + sum_by block_of (take ep es)

-- the legend is 6 pixels below the place of the band after the last
abbrev pub legend_of : List Endpoint → ℕ
legend_of es = top_of es (length es) + 6
