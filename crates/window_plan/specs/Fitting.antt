-- The greatest windows that fit the network and the radio unit, in nanoseconds (this project's profile; the windows are those of
-- O-RAN.WG4.CUS, delay management).
use Rattle.std.specs.Prelude.{ℤ, pos, ◌+ℤ◌, ◌-ℤ◌, int_lt, Result, Ok, Err, if◌then◌else◌}
use Rattle.std.specs.Int.{int_min}
use Rattle.window_config.specs.declared.delays.Range.{Range}
use Rattle.window_config.specs.declared.delays.Delays.{Delays}
use Rattle.window_plan.specs.declared.refusals.NoFit.{NoFit}
use Rattle.window_plan.specs.declared.refusals.Window.{Window}
use Rattle.window_plan.specs.declared.refusals.Window.TheVariants.{Up, CpUl, Ta4, HoldDl, HoldUl}
use Rattle.window_config.specs.declared.delays.TheConstants.{MOST_DELAY}

-- the greatest configured time
abbrev pub longest : ℤ
longest = pos MOST_DELAY

-- T1a for T2a and T12: what is sent last is in time at the greatest delay, and what is sent first is not early at the least
abbrev pub t1a_for : Range → Range → Range
t1a_for t2a t12 = record { min = t2a.min +ℤ t12.max; max = int_min (t2a.max +ℤ t12.min) longest }

-- Ta4 for Ta3 and T34: from the first that is sent at the least delay to the last at the greatest
abbrev pub ta4_for : Range → Range → Range
ta4_for ta3 t34 = record { min = ta3.min +ℤ t34.min; max = ta3.max +ℤ t34.max }

-- the hold for frames that are sent in one range and delayed within another: from the first arrival to the last
abbrev pub hold_for : Range → Range → ℤ
hold_for sent delay = (sent.max -ℤ sent.min) +ℤ (delay.max -ℤ delay.min)

-- the profile with these in place of its own
abbrev pub planned : Delays → Delays
planned d = record d {
  t1a_up = t1a_for d.t2a_up d.t12;
  t1a_cp_ul = t1a_for d.t2a_cp_ul d.t12;
  ta4 = ta4_for d.ta3 d.t34;
  hold_dl = hold_for (t1a_for d.t2a_up d.t12) d.t12;
  hold_ul = hold_for d.ta3 d.t34;
}

-- why a window does not fit
abbrev pub no_fit : Window → ℤ → ℤ → NoFit
no_fit window left right = record { window = window; left = left; right = right }

-- T1a does not fit where its minimum exceeds its maximum
abbrev pub sent_within : Window → Range → Range → Result Range NoFit
sent_within window t2a t12 =
    if int_lt (t1a_for t2a t12).max (t1a_for t2a t12).min
    then Err (no_fit window (t1a_for t2a t12).min (t1a_for t2a t12).max)
    else Ok (t1a_for t2a t12)

-- Ta4 does not fit where its maximum exceeds the limit
abbrev pub heard_within : Range → Range → Result Range NoFit
heard_within ta3 t34 =
    if int_lt longest (ta4_for ta3 t34).max
    then Err (no_fit Ta4 (ta4_for ta3 t34).max longest)
    else Ok (ta4_for ta3 t34)

-- the fitted profile, or the first of the windows, in their order, that does not fit
abbrev pub fitted_or : Delays → Result Delays NoFit
fitted_or f =
    if int_lt f.t1a_up.max f.t1a_up.min then Err (no_fit Up f.t1a_up.min f.t1a_up.max)
    else if int_lt f.t1a_cp_ul.max f.t1a_cp_ul.min then Err (no_fit CpUl f.t1a_cp_ul.min f.t1a_cp_ul.max)
    else if int_lt longest f.ta4.max then Err (no_fit Ta4 f.ta4.max longest)
    else if int_lt longest f.hold_dl then Err (no_fit HoldDl f.hold_dl longest)
    else if int_lt longest f.hold_ul then Err (no_fit HoldUl f.hold_ul longest)
    else Ok f

abbrev pub fitted : Delays → Result Delays NoFit
fitted d = fitted_or (planned d)
