-- Tests on signed numbers, and the cases of a fit.
use Rattle.std.proofs.Common.{◌≡◌, ℤ, ◌≤ℤ◌, ◌<ℤ◌, Bool, true, false, Result, Ok, Err, refl, sym, ap, ◌∙◌, arith}
use Rattle.std.specs.Prelude.{int_lt, if◌then◌else◌}
use Rattle.std.proofs.lemmas.Int.{ints, clamps}
use Rattle.window_config.specs.declared.delays.Range.{Range}
use Rattle.window_config.specs.declared.delays.Delays.{Delays}
use Rattle.window_config.specs.Limits.{IsWithinLimits}
use Rattle.window_plan.specs.declared.refusals.NoFit.{NoFit}
use Rattle.window_plan.specs.declared.refusals.Window.TheVariants.{Up, CpUl, Ta4}
use Rattle.window_plan.specs.Fitting.{longest, planned, no_fit, hold_for, sent_within, heard_within, fitted}
use Rattle.fh_base.proofs.Orders.{under, not_under, not_under_is, if_not}

-- what holds of both is what holds of the choice
by_test : {R : Type 0} (P : R → Type 0) (b : Bool) (x y : R) → (b ≡ true → P x) → (b ≡ false → P y) → P (if b then x else y)
by_test P true x y f g = f refl
by_test P false x y f g = g refl

-- where T1a and Ta4 fit, the holds do
hold_dl_fits : (d : Delays) → IsWithinLimits d → (planned d).hold_dl ≤ℤ longest
hold_dl_fits d is = omega (arith, ints, clamps, is.t2a_up.low, is.t2a_up.high, is.t12.low, is.t12.order)

hold_ul_fits : (d : Delays) → IsWithinLimits d → (planned d).ta4.max ≤ℤ longest → (planned d).hold_ul ≤ℤ longest
hold_ul_fits d is h = omega (arith, ints, is.ta3.low, is.t34.low)

-- a fit is refused at T1a or at Ta4, or is the planned profile
pub fitted_cases : (P : Result Delays NoFit → Type 0) (d : Delays) → IsWithinLimits d
    → ((planned d).t1a_up.max <ℤ (planned d).t1a_up.min → P (Err (no_fit Up (planned d).t1a_up.min (planned d).t1a_up.max)))
    → ((planned d).t1a_cp_ul.max <ℤ (planned d).t1a_cp_ul.min → P (Err (no_fit CpUl (planned d).t1a_cp_ul.min (planned d).t1a_cp_ul.max)))
    → (longest <ℤ (planned d).ta4.max → P (Err (no_fit Ta4 (planned d).ta4.max longest)))
    → ((planned d).t1a_up.min ≤ℤ (planned d).t1a_up.max → (planned d).t1a_cp_ul.min ≤ℤ (planned d).t1a_cp_ul.max → (planned d).ta4.max ≤ℤ longest → P (Ok (planned d)))
    → P (fitted d)
fitted_cases P d is at_up at_cp_ul at_ta4 fits =
    by_test P _ _ _ (λ e. at_up (under _ _ e)) (λ up.
    by_test P _ _ _ (λ e. at_cp_ul (under _ _ e)) (λ cp_ul.
    by_test P _ _ _ (λ e. at_ta4 (under _ _ e)) (λ ta4.
    by_test P _ _ _ (λ e. let h = under longest (planned d).hold_dl e in let k = hold_dl_fits d is in absurd (omega (arith, ints, h, k))) (λ dl.
    by_test P _ _ _ (λ e. let h = under longest (planned d).hold_ul e in let k = hold_ul_fits d is (not_under _ _ ta4) in absurd (omega (arith, ints, h, k))) (λ ul.
    fits (not_under _ _ up) (not_under _ _ cp_ul) (not_under _ _ ta4))))))

-- what resulted from a test that may refuse
pub chosen_ok : {R E : Type 0} (b : Bool) (e : E) (x y : R) → (if b then Err e else Ok x) ≡ Ok y → (y ≡ x) × (b ≡ false)
chosen_ok true e x y h = cc
chosen_ok false e x y h = (cc, refl)

-- where nothing is refused the fit is the planned profile
pub fitted_is : (d : Delays) → IsWithinLimits d → int_lt (planned d).t1a_up.max (planned d).t1a_up.min ≡ false → int_lt (planned d).t1a_cp_ul.max (planned d).t1a_cp_ul.min ≡ false
    → int_lt longest (planned d).ta4.max ≡ false → fitted d ≡ Ok (planned d)
fitted_is d is up cp_ul ta4 =
    if_not _ _ _ up
    ∙ if_not _ _ _ cp_ul
    ∙ if_not _ _ _ ta4
    ∙ if_not _ _ _ (not_under_is longest (planned d).hold_dl (hold_dl_fits d is))
    ∙ if_not _ _ _ (not_under_is longest (planned d).hold_ul (hold_ul_fits d is (not_under _ _ ta4)))

-- a profile made of the parts that resulted
same_parts : (d : Delays) (up up' cp cp' ta4 ta4' : Range) (advance dl dl' ul ul' : ℤ) → up ≡ up' → cp ≡ cp' → ta4 ≡ ta4' → advance ≡ d.advance → dl ≡ dl' → ul ≡ ul'
    → record d { t1a_up = up; t1a_cp_ul = cp; ta4 = ta4; advance = advance; hold_dl = dl; hold_ul = ul }
    ≡ record d { t1a_up = up'; t1a_cp_ul = cp'; ta4 = ta4'; hold_dl = dl'; hold_ul = ul' }
same_parts d up up' cp cp' ta4 ta4' advance dl dl' ul ul' a b c e f g = cc

pub made_of : (d : Delays) (up cp ta4 : Range) (advance dl ul : ℤ) → IsWithinLimits d → Ok up ≡ sent_within Up d.t2a_up d.t12 → Ok cp ≡ sent_within CpUl d.t2a_cp_ul d.t12
    → Ok ta4 ≡ heard_within d.ta3 d.t34 → advance ≡ d.advance → dl ≡ hold_for up d.t12 → ul ≡ hold_for d.ta3 d.t34
    → Ok (record d { t1a_up = up; t1a_cp_ul = cp; ta4 = ta4; advance = advance; hold_dl = dl; hold_ul = ul }) ≡ fitted d
made_of d up cp ta4 advance dl ul is of_up of_cp of_ta4 same of_dl of_ul =
    let u = chosen_ok _ _ _ _ (sym of_up) in
    let p = chosen_ok _ _ _ _ (sym of_cp) in
    let t = chosen_ok _ _ _ _ (sym of_ta4) in
    ap Ok (same_parts d up _ cp _ ta4 _ advance dl _ ul _ u.0 p.0 t.0 same (of_dl ∙ ap (λ r. hold_for r d.t12) u.0) of_ul)
    ∙ sym (fitted_is d is u.1 p.1 t.1)
