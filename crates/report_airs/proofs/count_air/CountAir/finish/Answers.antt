use Rattle.std.proofs.Common.{◌++◌, ap, ◌∙◌}
use Rattle.std.proofs.lemmas.Result.{on_ok_weaker, on_err_weaker}
use Rattle.fh_base.proofs.Carrying.{carried_known, front_pushed}
use Rattle.fh_base.proofs.Parts.{part_pushed}
use Rattle.report_airs.specs.Text.{end_text}
use Rattle.report_airs.proofs.Texts.{carried_as}
use Rattle.report_airs.proofs.count_air.CountAir.finish.Goals as goal

pub returns-clause-all : goal.returns-clause-all
returns-clause-all g c =
    let line = c.text.ensures ∙ ap (λ x. x ++ end_text) c.clear.ensures in
    let carried = carried_as _ _ _ end_text _ _ line c.in_ok-tell.ensures.carried in
    on_ok_weaker c.push_out.result (λ all. all ∙ carried_known _ _ end_text _ _ carried) c.push_out.ensures.all

pub returns-clause-front : goal.returns-clause-front
returns-clause-front g c =
    let line = c.text.ensures ∙ ap (λ x. x ++ end_text) c.clear.ensures in
    let carried = carried_as _ _ _ end_text _ _ line c.in_ok-tell.ensures.carried in
    front_pushed _ _ end_text _ _ _ carried c.push_out.ensures.front

pub returns-clause-part : goal.returns-clause-part
returns-clause-part g c =
    let line = c.text.ensures ∙ ap (λ x. x ++ end_text) c.clear.ensures in
    let carried = carried_as _ _ _ end_text _ _ line c.in_ok-tell.ensures.carried in
    on_err_weaker c.push_out.result (λ h. part_pushed _ _ end_text _ _ _ carried h) c.push_out.ensures.part
