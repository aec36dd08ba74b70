-- The frames that the radio unit hands over, in the order in which they are sent: by time, at one time by endpoint, and in an endpoint
-- as they were handed over, so by number and subsequence (this project's profile). Nothing is sorted.
use Rattle.std.specs.Prelude.{ℕ, ℤ, pos, ◌+ℤ◌, ◌&&◌, ◌==◌, Bool, List, filter}
use Rattle.std.specs.Int.{int_gap}
use Rattle.std.specs.Ordering.{int_eq}
use Rattle.air_source.specs.declared.links.LinkFrame.{LinkFrame}
use Rattle.fh_base.specs.Lists.{each, each_tick}
use Rattle.unit_model.specs.Radiated.{first_clock}
use Rattle.unit_model.specs.Times.{end_of_time}

-- a frame leaves at this tick
abbrev pub leaves_at : ℤ → LinkFrame → Bool
leaves_at t f = int_eq f.at.0 t

-- those of these that leave at a tick and are of one endpoint, as they were handed over
abbrev pub frames_leaving : List LinkFrame → ℤ → ℕ → List LinkFrame
frames_leaving frames t ep = filter (λ f. leaves_at t f && (f.ep == ep)) frames

-- those that leave at a tick, of so many endpoints, endpoint by endpoint
unfoldable pub leaving_at : ℕ → List LinkFrame → ℤ → List LinkFrame
leaving_at endpoints frames t = each 0 endpoints (frames_leaving frames t)

-- all of them, tick by tick
unfoldable pub in_sent_order : ℕ → List LinkFrame → List LinkFrame
in_sent_order endpoints frames = each_tick first_clock (int_gap first_clock (end_of_time +ℤ pos 1)) (leaving_at endpoints frames)
