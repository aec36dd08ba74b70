use Rattle.window_plan.proofs.Fits.{fit_keeps, fit_within, fit_passes, fit_holds}
use Rattle.window_plan.proofs.Greatest.{fit_up, fit_cp_ul, fit_ta4, fit_refused}
use Rattle.window_plan.proofs.fitting.fit.Goals as goal

pub returns-clause-kept : goal.returns-clause-kept
returns-clause-kept c = rw c.fitted_in_order.ensures (fit_keeps c.args.d.now c.requires)

pub returns-clause-limits : goal.returns-clause-limits
returns-clause-limits c = rw c.fitted_in_order.ensures (fit_within c.args.d.now c.requires)

pub returns-clause-passes : goal.returns-clause-passes
returns-clause-passes c = rw c.fitted_in_order.ensures (fit_passes c.args.d.now c.requires)

pub returns-clause-greatest_up : goal.returns-clause-greatest_up
returns-clause-greatest_up c = rw c.fitted_in_order.ensures (fit_up c.args.d.now c.requires)

pub returns-clause-greatest_cp_ul : goal.returns-clause-greatest_cp_ul
returns-clause-greatest_cp_ul c = rw c.fitted_in_order.ensures (fit_cp_ul c.args.d.now c.requires)

pub returns-clause-least_ta4 : goal.returns-clause-least_ta4
returns-clause-least_ta4 c = rw c.fitted_in_order.ensures (fit_ta4 c.args.d.now c.requires)

pub returns-clause-refused : goal.returns-clause-refused
returns-clause-refused c = rw c.fitted_in_order.ensures (fit_refused c.args.d.now c.requires)

pub returns-clause-holds_fit : goal.returns-clause-holds_fit
returns-clause-holds_fit c = rw c.fitted_in_order.ensures (fit_holds c.args.d.now c.requires)
