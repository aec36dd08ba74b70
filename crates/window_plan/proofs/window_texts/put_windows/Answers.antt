use Rattle.std.proofs.Common.{◌++◌}
use Rattle.std.proofs.lemmas.Result.{on_ok_weaker, on_err_weaker}
use Rattle.fh_base.specs.CarriedLaws.{carried_more}
use Rattle.window_config.specs.Relations.{checked}
use Rattle.window_plan.specs.Windows.{profile_text, rings_text, check_text, windows_text}
use Rattle.window_plan.proofs.Telling.{first_part, next_part}
use Rattle.window_plan.proofs.window_texts.put_windows.Goals as goal
use Rattle.fh_base.proofs.OwedTelling.{last_front, all_written, anyhow}
use Rattle.fh_base.proofs.Parts.{part_front, part_first, last_part}

pub returns-in_err-tell_profile-clause-front : goal.returns-in_err-tell_profile-clause-front
unfolding windows_text
returns-in_err-tell_profile-clause-front g c =
    let d = c.args.config.now.delays in
    part_front _ _ _
    (part_first _ _ (profile_text d ++ rings_text d c.args.config.now.endpoints) (check_text (checked d))
    (first_part _ _ c.new-owed.result (profile_text d) (rings_text d c.args.config.now.endpoints) c.new-owed.ensures c.in_err-tell_profile.ensures.part))

pub returns-in_err-tell_profile-clause-part : goal.returns-in_err-tell_profile-clause-part
unfolding windows_text
returns-in_err-tell_profile-clause-part g c =
    let d = c.args.config.now.delays in
    anyhow c.from_residual.result
    (part_first _ _ (profile_text d ++ rings_text d c.args.config.now.endpoints) (check_text (checked d))
    (first_part _ _ c.new-owed.result (profile_text d) (rings_text d c.args.config.now.endpoints) c.new-owed.ensures c.in_err-tell_profile.ensures.part))

pub returns-in_err-tell_rings-clause-front : goal.returns-in_err-tell_rings-clause-front
unfolding windows_text
returns-in_err-tell_rings-clause-front g c =
    let d = c.args.config.now.delays in
    let at_rings = rw c.as_slice.ensures.items at c.in_err-tell_rings.ensures.part in
    part_front _ _ _
    (part_first _ _ (profile_text d ++ rings_text d c.args.config.now.endpoints) (check_text (checked d))
    (next_part _ _ _ c.new-owed.result (profile_text d) _ (rings_text d c.args.config.now.endpoints) c.new-owed.ensures c.in_ok-tell_profile.ensures.carried at_rings))

pub returns-in_err-tell_rings-clause-part : goal.returns-in_err-tell_rings-clause-part
unfolding windows_text
returns-in_err-tell_rings-clause-part g c =
    let d = c.args.config.now.delays in
    let at_rings = rw c.as_slice.ensures.items at c.in_err-tell_rings.ensures.part in
    anyhow c.from_residual-in_err-tell_rings.result
    (part_first _ _ (profile_text d ++ rings_text d c.args.config.now.endpoints) (check_text (checked d))
    (next_part _ _ _ c.new-owed.result (profile_text d) _ (rings_text d c.args.config.now.endpoints) c.new-owed.ensures c.in_ok-tell_profile.ensures.carried at_rings))

pub returns-in_err-tell_check-clause-front : goal.returns-in_err-tell_check-clause-front
unfolding windows_text
returns-in_err-tell_check-clause-front g c =
    let d = c.args.config.now.delays in
    let rings = rw c.as_slice.ensures.items at c.in_ok-tell_rings.ensures.carried in
    let told = carried_more _ _ _ _ _ _ (profile_text d) (rings_text d c.args.config.now.endpoints) c.in_ok-tell_profile.ensures.carried rings in
    part_front _ _ _
    (next_part _ _ _ c.new-owed.result (profile_text d ++ rings_text d c.args.config.now.endpoints) _ (check_text (checked d)) c.new-owed.ensures told c.in_err-tell_check.ensures.part)

pub returns-in_err-tell_check-clause-part : goal.returns-in_err-tell_check-clause-part
unfolding windows_text
returns-in_err-tell_check-clause-part g c =
    let d = c.args.config.now.delays in
    let rings = rw c.as_slice.ensures.items at c.in_ok-tell_rings.ensures.carried in
    let told = carried_more _ _ _ _ _ _ (profile_text d) (rings_text d c.args.config.now.endpoints) c.in_ok-tell_profile.ensures.carried rings in
    anyhow c.from_residual-in_err-tell_check.result
    (next_part _ _ _ c.new-owed.result (profile_text d ++ rings_text d c.args.config.now.endpoints) _ (check_text (checked d)) c.new-owed.ensures told c.in_err-tell_check.ensures.part)

pub returns-clause-ok : goal.returns-clause-ok
unfolding windows_text
returns-clause-ok g c =
    let d = c.args.config.now.delays in
    let rings = rw c.as_slice.ensures.items at c.in_ok-tell_rings.ensures.carried in
    let told = carried_more _ _ _ _ _ _ (profile_text d) (rings_text d c.args.config.now.endpoints) c.in_ok-tell_profile.ensures.carried rings in
    let all = carried_more _ _ _ _ _ _ (profile_text d ++ rings_text d c.args.config.now.endpoints) (check_text (checked d)) told c.in_ok-tell_check.ensures.carried in
    on_ok_weaker c.push_out.result (λ is. all_written _ _ _ c.new-owed.result _ _ c.new-owed.ensures all is) c.push_out.ensures.all

pub returns-clause-front : goal.returns-clause-front
unfolding windows_text
returns-clause-front g c =
    let d = c.args.config.now.delays in
    let rings = rw c.as_slice.ensures.items at c.in_ok-tell_rings.ensures.carried in
    let told = carried_more _ _ _ _ _ _ (profile_text d) (rings_text d c.args.config.now.endpoints) c.in_ok-tell_profile.ensures.carried rings in
    let all = carried_more _ _ _ _ _ _ (profile_text d ++ rings_text d c.args.config.now.endpoints) (check_text (checked d)) told c.in_ok-tell_check.ensures.carried in
    last_front _ _ _ c.new-owed.result _ _ c.new-owed.ensures all c.push_out.ensures.front

pub returns-clause-part : goal.returns-clause-part
unfolding windows_text
returns-clause-part g c =
    let d = c.args.config.now.delays in
    let rings = rw c.as_slice.ensures.items at c.in_ok-tell_rings.ensures.carried in
    let told = carried_more _ _ _ _ _ _ (profile_text d) (rings_text d c.args.config.now.endpoints) c.in_ok-tell_profile.ensures.carried rings in
    let all = carried_more _ _ _ _ _ _ (profile_text d ++ rings_text d c.args.config.now.endpoints) (check_text (checked d)) told c.in_ok-tell_check.ensures.carried in
    on_err_weaker c.push_out.result (λ h.
    last_part _ _ _ c.new-owed.result _ _ c.new-owed.ensures all h) c.push_out.ensures.part
