-- What the times of a configuration may be, in nanoseconds (this project's profile).
use Rattle.std.specs.Prelude.{ℕ, ℤ, pos, ◌≤ℤ◌}
use Rattle.window_config.specs.declared.delays.Range.{Range}
use Rattle.window_config.specs.declared.delays.Delays.{Delays}
use Rattle.window_config.specs.declared.rings.Reach.{Reach}
use Rattle.window_config.specs.declared.delays.TheConstants.{MOST_DELAY}

-- one configured time: 0 to 2 ms
pub record IsTime (ns : ℤ) : Type 0 where
  pub low : pos 0 ≤ℤ ns
  pub high : ns ≤ℤ pos MOST_DELAY

-- a configured range, whose minimum has a least value
pub record IsRange (least : ℕ) (r : Range) : Type 0 where
  pub low : pos least ≤ℤ r.min
  pub order : r.min ≤ℤ r.max
  pub high : r.max ≤ℤ pos MOST_DELAY

-- a delay profile within the limits
pub record IsWithinLimits (d : Delays) : Type 0 where
  pub t1a_up : IsRange 0 d.t1a_up
  pub t1a_cp_ul : IsRange 0 d.t1a_cp_ul
  pub t2a_up : IsRange 1 d.t2a_up
  pub t2a_cp_ul : IsRange 1 d.t2a_cp_ul
  pub ta3 : IsRange 0 d.ta3
  pub ta4 : IsRange 0 d.ta4
  pub t12 : IsRange 0 d.t12
  pub t34 : IsRange 0 d.t34
  pub advance : IsTime d.advance
  pub hold_dl : IsTime d.hold_dl
  pub hold_ul : IsTime d.hold_ul

-- one end of a window or of a reach, which may be the sum of two configured times
pub record IsBound (ns : ℤ) : Type 0 where
  pub low : pos 0 ≤ℤ ns
  pub high : ns ≤ℤ pos 4000000

-- a window by which arrivals are tested
pub record IsWindow (r : Range) : Type 0 where
  pub min : IsBound r.min
  pub max : IsBound r.max

pub record IsReach (r : Reach) : Type 0 where
  pub before : IsBound r.before
  pub after : IsBound r.after
