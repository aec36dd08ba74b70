-- The planned profile is within the limits where its windows fit, and passes the check.
use Rattle.std.proofs.Common.{◌≢◌, ℤ, ◌+ℤ◌, ◌≤ℤ◌, IfOk, IfErr, refl, arith}
use Rattle.std.specs.Int.{int_min}
use Rattle.std.proofs.lemmas.Int.{ints, clamps}
use Rattle.window_config.specs.declared.delays.Range.{Range}
use Rattle.window_config.specs.declared.delays.Delays.{Delays}
use Rattle.window_config.specs.Limits.{IsTime, IsRange, IsWithinLimits}
use Rattle.window_config.specs.Relations.{PassesCheck}
use Rattle.window_plan.specs.declared.refusals.Window.TheVariants.{HoldDl, HoldUl}
use Rattle.window_plan.specs.Fitting.{longest, t1a_for, ta4_for, hold_for, planned, fitted}
use Rattle.window_plan.specs.Ranges.{KeepsRest}
use Rattle.window_plan.proofs.Cases.{fitted_cases}
use Rattle.std.specs.Int.Signed.{≤ℤ_refl}

pub t1a_range : (t2a t12 : Range) → IsRange 1 t2a → IsRange 0 t12 → (t1a_for t2a t12).min ≤ℤ (t1a_for t2a t12).max → IsRange 0 (t1a_for t2a t12)
t1a_range t2a t12 a b fits = record {
  low = omega (arith, ints, a.low, b.low, b.order);
  order = fits;
  high = omega (arith, ints, clamps);
}

ta4_range : (ta3 t34 : Range) → IsRange 0 ta3 → IsRange 0 t34 → (ta4_for ta3 t34).max ≤ℤ longest → IsRange 0 (ta4_for ta3 t34)
ta4_range ta3 t34 a b fits = record {
  low = omega (arith, ints, a.low, b.low);
  order = omega (arith, ints, a.order, b.order);
  high = fits;
}

hold_dl_time : (t2a t12 : Range) → IsRange 1 t2a → IsRange 0 t12 → (t1a_for t2a t12).min ≤ℤ (t1a_for t2a t12).max → IsTime (hold_for (t1a_for t2a t12) t12)
hold_dl_time t2a t12 a b fits = record {
  low = omega (arith, ints, b.order, fits);
  high = omega (arith, ints, clamps, a.low, a.high, b.low, b.order);
}

hold_ul_time : (ta3 t34 : Range) → IsRange 0 ta3 → IsRange 0 t34 → (ta4_for ta3 t34).max ≤ℤ longest → IsTime (hold_for ta3 t34)
hold_ul_time ta3 t34 a b fits = record {
  low = omega (arith, ints, a.order, b.order);
  high = omega (arith, ints, a.low, b.low, fits);
}

planned_limits : (d : Delays) → IsWithinLimits d → (planned d).t1a_up.min ≤ℤ (planned d).t1a_up.max → (planned d).t1a_cp_ul.min ≤ℤ (planned d).t1a_cp_ul.max
    → (planned d).ta4.max ≤ℤ longest → IsWithinLimits (planned d)
planned_limits d is up cp_ul ta4 = record {
  t1a_up = t1a_range d.t2a_up d.t12 is.t2a_up is.t12 up;
  t1a_cp_ul = t1a_range d.t2a_cp_ul d.t12 is.t2a_cp_ul is.t12 cp_ul;
  t2a_up = is.t2a_up;
  t2a_cp_ul = is.t2a_cp_ul;
  ta3 = is.ta3;
  ta4 = ta4_range d.ta3 d.t34 is.ta3 is.t34 ta4;
  t12 = is.t12;
  t34 = is.t34;
  advance = is.advance;
  hold_dl = hold_dl_time d.t2a_up d.t12 is.t2a_up is.t12 up;
  hold_ul = hold_ul_time d.ta3 d.t34 is.ta3 is.t34 ta4;
}

cut : (a b : ℤ) → int_min a b ≤ℤ a
cut a b = omega (arith, ints, clamps)

planned_passes : (d : Delays) → PassesCheck (planned d)
planned_passes d = record {
  up_max = cut (d.t2a_up.max +ℤ d.t12.min) longest;
  up_min = ≤ℤ_refl (d.t2a_up.min +ℤ d.t12.max);
  cp_ul_max = cut (d.t2a_cp_ul.max +ℤ d.t12.min) longest;
  cp_ul_min = ≤ℤ_refl (d.t2a_cp_ul.min +ℤ d.t12.max);
  ta4_min = ≤ℤ_refl (d.ta3.min +ℤ d.t34.min);
  ta4_max = ≤ℤ_refl (d.ta3.max +ℤ d.t34.max);
  hold_dl = ≤ℤ_refl (hold_for (t1a_for d.t2a_up d.t12) d.t12);
  hold_ul = ≤ℤ_refl (hold_for d.ta3 d.t34);
}

pub fit_keeps : (d : Delays) → IsWithinLimits d → IfOk (fitted d) (KeepsRest d)
fit_keeps d is =
    fitted_cases (λ r. IfOk r (KeepsRest d)) d is (λ _. tt) (λ _. tt) (λ _. tt)
    (λ _ _ _. record { t2a_up = refl; t2a_cp_ul = refl; ta3 = refl; t12 = refl; t34 = refl; advance = refl })

pub fit_within : (d : Delays) → IsWithinLimits d → IfOk (fitted d) IsWithinLimits
fit_within d is = fitted_cases (λ r. IfOk r IsWithinLimits) d is (λ _. tt) (λ _. tt) (λ _. tt) (planned_limits d is)

pub fit_passes : (d : Delays) → IsWithinLimits d → IfOk (fitted d) PassesCheck
fit_passes d is = fitted_cases (λ r. IfOk r PassesCheck) d is (λ _. tt) (λ _. tt) (λ _. tt) (λ _ _ _. planned_passes d)

pub fit_holds : (d : Delays) → IsWithinLimits d → IfErr (fitted d) (λ e. (e.window ≢ HoldDl) × (e.window ≢ HoldUl))
fit_holds d is =
    fitted_cases (λ r. IfErr r (λ e. (e.window ≢ HoldDl) × (e.window ≢ HoldUl))) d is (λ _. (λ e. cc, λ e. cc)) (λ _. (λ e. cc, λ e. cc))
    (λ _. (λ e. cc, λ e. cc)) (λ _ _ _. tt)
