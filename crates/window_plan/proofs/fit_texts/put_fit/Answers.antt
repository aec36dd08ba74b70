use Rattle.std.proofs.lemmas.Result.{on_ok_weaker, on_err_weaker}
use Rattle.std.specs.List.{flat_map}
use Rattle.fh_base.specs.CarriedLaws.{carried_more}
use Rattle.window_config.specs.Relations.{relations}
use Rattle.window_plan.specs.Fitting.{fitted}
use Rattle.window_plan.specs.Fit.{breach_text, fitted_or_none, fit_text}
use Rattle.window_plan.proofs.Telling.{first_part, next_part}
use Rattle.window_plan.proofs.fit_texts.put_fit.Goals as goal
use Rattle.fh_base.proofs.OwedTelling.{last_front, all_written, anyhow}
use Rattle.fh_base.proofs.Parts.{part_front, last_part}

pub returns-in_err-tell_breaches-clause-front : goal.returns-in_err-tell_breaches-clause-front
unfolding fit_text
returns-in_err-tell_breaches-clause-front g c =
    let d = c.args.delays.now in
    part_front _ _ _
    (first_part _ _ c.new-owed.result (flat_map (breach_text d) relations) (fitted_or_none (fitted d)) c.new-owed.ensures c.in_err-tell_breaches.ensures.part)

pub returns-in_err-tell_breaches-clause-part : goal.returns-in_err-tell_breaches-clause-part
unfolding fit_text
returns-in_err-tell_breaches-clause-part g c =
    let d = c.args.delays.now in
    anyhow c.from_residual.result
    (first_part _ _ c.new-owed.result (flat_map (breach_text d) relations) (fitted_or_none (fitted d)) c.new-owed.ensures c.in_err-tell_breaches.ensures.part)

pub returns-in_err-tell_fit-clause-front : goal.returns-in_err-tell_fit-clause-front
unfolding fit_text
returns-in_err-tell_fit-clause-front g c =
    let d = c.args.delays.now in
    part_front _ _ _
    (next_part _ _ _ c.new-owed.result (flat_map (breach_text d) relations) _ (fitted_or_none (fitted d)) c.new-owed.ensures c.in_ok-tell_breaches.ensures.carried c.in_err-tell_fit.ensures.part)

pub returns-in_err-tell_fit-clause-part : goal.returns-in_err-tell_fit-clause-part
unfolding fit_text
returns-in_err-tell_fit-clause-part g c =
    let d = c.args.delays.now in
    anyhow c.from_residual-in_err-tell_fit.result
    (next_part _ _ _ c.new-owed.result (flat_map (breach_text d) relations) _ (fitted_or_none (fitted d)) c.new-owed.ensures c.in_ok-tell_breaches.ensures.carried c.in_err-tell_fit.ensures.part)

pub returns-clause-ok : goal.returns-clause-ok
unfolding fit_text
returns-clause-ok g c =
    let d = c.args.delays.now in
    let all = carried_more _ _ _ _ _ _ (flat_map (breach_text d) relations) (fitted_or_none (fitted d)) c.in_ok-tell_breaches.ensures.carried c.in_ok-tell_fit.ensures.carried in
    on_ok_weaker c.push_out.result (λ is. all_written _ _ _ c.new-owed.result _ _ c.new-owed.ensures all is) c.push_out.ensures.all

pub returns-clause-front : goal.returns-clause-front
unfolding fit_text
returns-clause-front g c =
    let d = c.args.delays.now in
    let all = carried_more _ _ _ _ _ _ (flat_map (breach_text d) relations) (fitted_or_none (fitted d)) c.in_ok-tell_breaches.ensures.carried c.in_ok-tell_fit.ensures.carried in
    last_front _ _ _ c.new-owed.result _ _ c.new-owed.ensures all c.push_out.ensures.front

pub returns-clause-part : goal.returns-clause-part
unfolding fit_text
returns-clause-part g c =
    let d = c.args.delays.now in
    let all = carried_more _ _ _ _ _ _ (flat_map (breach_text d) relations) (fitted_or_none (fitted d)) c.in_ok-tell_breaches.ensures.carried c.in_ok-tell_fit.ensures.carried in
    on_err_weaker c.push_out.result (λ h.
    last_part _ _ _ c.new-owed.result _ _ c.new-owed.ensures all h) c.push_out.ensures.part
