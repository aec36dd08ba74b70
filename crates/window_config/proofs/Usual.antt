-- The usual delay profile is within the limits.
use Rattle.std.proofs.Common.{ℕ, pos, ◌≤◌, arith}
use Rattle.std.proofs.lemmas.Int.{ints}
use Rattle.window_config.specs.Limits.{IsTime, IsRange, IsWithinLimits}
use Rattle.window_config.specs.Usual.{span, usual_delays}
use Rattle.window_config.specs.declared.delays.TheConstants.{MOST_DELAY}

span_in : (low least most : ℕ) → low ≤ least → least ≤ most → most ≤ MOST_DELAY → IsRange low (span least most)
span_in low least most a b c = record { low = omega (arith, ints); order = omega (arith, ints); high = omega (arith, ints) }

time_in : (n : ℕ) → n ≤ MOST_DELAY → IsTime (pos n)
time_in n a = record { low = omega (arith, ints); high = omega (arith, ints) }

pub usual_within : IsWithinLimits usual_delays
usual_within = record {
  t1a_up = span_in 0 234000 345000 (omega arith) (omega arith) (omega arith);
  t1a_cp_ul = span_in 0 225000 470000 (omega arith) (omega arith) (omega arith);
  t2a_up = span_in 1 134000 345000 (omega arith) (omega arith) (omega arith);
  t2a_cp_ul = span_in 1 125000 470000 (omega arith) (omega arith) (omega arith);
  ta3 = span_in 0 50000 171000 (omega arith) (omega arith) (omega arith);
  ta4 = span_in 0 50000 271000 (omega arith) (omega arith) (omega arith);
  t12 = span_in 0 0 100000 (omega arith) (omega arith) (omega arith);
  t34 = span_in 0 0 100000 (omega arith) (omega arith) (omega arith);
  advance = time_in 125000 (omega arith);
  hold_dl = time_in 211000 (omega arith);
  hold_ul = time_in 221000 (omega arith);
}
