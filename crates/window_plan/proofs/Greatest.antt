-- No other range within the limits does better than the fitted one.
use Rattle.std.proofs.Common.{◌<ℤ◌, IfOk, IfErr, arith}
use Rattle.std.proofs.lemmas.Int.{ints}
use Rattle.window_config.specs.declared.delays.Range.{Range}
use Rattle.window_config.specs.declared.delays.Delays.{Delays}
use Rattle.window_config.specs.Limits.{IsRange, IsWithinLimits}
use Rattle.window_plan.specs.declared.refusals.Window.TheVariants.{Up, CpUl, Ta4}
use Rattle.window_plan.specs.Fitting.{longest, planned, fitted}
use Rattle.window_plan.specs.Ranges.{IsInside, Meets}
use Rattle.window_plan.proofs.Cases.{fitted_cases}
use Rattle.fh_base.proofs.Orders.{le_true as at_most}
use Rattle.fh_base.proofs.CommonLemmas.{least_of}

up_inside : (d : Delays) (r : Range) → IsRange 0 r → Meets Up d r → IsInside r (planned d).t1a_up
up_inside d r is meets = record { low = at_most _ _ meets.1.0; high = least_of _ _ _ (at_most _ _ meets.0) is.high }

cp_ul_inside : (d : Delays) (r : Range) → IsRange 0 r → Meets CpUl d r → IsInside r (planned d).t1a_cp_ul
cp_ul_inside d r is meets = record { low = at_most _ _ meets.1.0; high = least_of _ _ _ (at_most _ _ meets.0) is.high }

ta4_inside : (d : Delays) (r : Range) → Meets Ta4 d r → IsInside (planned d).ta4 r
ta4_inside d r meets = record { low = at_most _ _ meets.0; high = at_most _ _ meets.1.0 }

-- a range lies in none whose minimum exceeds its maximum
none_inside : (r outer : Range) → IsRange 0 r → IsInside r outer → outer.max <ℤ outer.min → ⊥
none_inside r outer is inside empty = omega (arith, ints, is.order, inside.low, inside.high)

-- nor does one within the limits contain one that exceeds them
none_outside : (r inner : Range) → IsRange 0 r → IsInside inner r → longest <ℤ inner.max → ⊥
none_outside r inner is inside long = omega (arith, ints, is.high, inside.high)

pub fit_up : (d : Delays) → IsWithinLimits d → (r : Range) → IsRange 0 r → Meets Up d r → IfOk (fitted d) (λ f. IsInside r f.t1a_up)
fit_up d is r range meets =
    fitted_cases (λ x. IfOk x (λ f. IsInside r f.t1a_up)) d is (λ _. tt) (λ _. tt) (λ _. tt) (λ _ _ _. up_inside d r range meets)

pub fit_cp_ul : (d : Delays) → IsWithinLimits d → (r : Range) → IsRange 0 r → Meets CpUl d r → IfOk (fitted d) (λ f. IsInside r f.t1a_cp_ul)
fit_cp_ul d is r range meets =
    fitted_cases (λ x. IfOk x (λ f. IsInside r f.t1a_cp_ul)) d is (λ _. tt) (λ _. tt) (λ _. tt) (λ _ _ _. cp_ul_inside d r range meets)

pub fit_ta4 : (d : Delays) → IsWithinLimits d → (r : Range) → IsRange 0 r → Meets Ta4 d r → IfOk (fitted d) (λ f. IsInside f.ta4 r)
fit_ta4 d is r range meets =
    fitted_cases (λ x. IfOk x (λ f. IsInside f.ta4 r)) d is (λ _. tt) (λ _. tt) (λ _. tt) (λ _ _ _. ta4_inside d r meets)

pub fit_refused : (d : Delays) → IsWithinLimits d → IfErr (fitted d) (λ e. (r : Range) → IsRange 0 r → Meets e.window d r → ⊥)
fit_refused d is =
    fitted_cases (λ x. IfErr x (λ e. (r : Range) → IsRange 0 r → Meets e.window d r → ⊥)) d is
    (λ empty r range meets. none_inside r (planned d).t1a_up range (up_inside d r range meets) empty)
    (λ empty r range meets. none_inside r (planned d).t1a_cp_ul range (cp_ul_inside d r range meets) empty)
    (λ long r range meets. none_outside r (planned d).ta4 range (ta4_inside d r meets) long)
    (λ _ _ _. tt)
