use Rattle.std.proofs.lemmas.Result.{on_err_weaker, on_ok_weaker}
use Rattle.fh_base.proofs.Parts.{last_part, part_front}
use Rattle.fh_base.proofs.OwedTelling.{all_written, anyhow, last_front}
use Rattle.document_texts.proofs.RowLemmas.{is_listed}
use Rattle.document_texts.proofs.SentTellLemmas.{end_cut, lines_cut, whole_told}
use Rattle.document_texts.proofs.listing.list_sent.Goals as goal

pub returns-in_err-tell_plan-clause-front : goal.returns-in_err-tell_plan-clause-front
returns-in_err-tell_plan-clause-front g c =
    part_front _ _ _ (lines_cut c.args.document.now _ _ c.new-owed.result c.new-owed.ensures c.in_err-tell_plan.ensures.front)

pub returns-in_err-tell_plan-clause-part : goal.returns-in_err-tell_plan-clause-part
returns-in_err-tell_plan-clause-part g c =
    anyhow c.from_residual.result (lines_cut c.args.document.now _ _ c.new-owed.result c.new-owed.ensures c.in_err-tell_plan.ensures.front)

pub returns-in_err-tell_plan-clause-laws : goal.returns-in_err-tell_plan-clause-laws
returns-in_err-tell_plan-clause-laws g c = is_listed c.args.document.now

pub returns-in_err-tell-clause-front : goal.returns-in_err-tell-clause-front
returns-in_err-tell-clause-front g c =
    part_front _ _ _ (end_cut c.args.document.now _ _ _ c.new-owed.result _ c.new-owed.ensures c.in_ok-tell_plan.ensures.carried c.in_err-tell.ensures.part)

pub returns-in_err-tell-clause-part : goal.returns-in_err-tell-clause-part
returns-in_err-tell-clause-part g c =
    anyhow c.from_residual-in_err-tell.result
    (end_cut c.args.document.now _ _ _ c.new-owed.result _ c.new-owed.ensures c.in_ok-tell_plan.ensures.carried c.in_err-tell.ensures.part)

pub returns-in_err-tell-clause-laws : goal.returns-in_err-tell-clause-laws
returns-in_err-tell-clause-laws g c = is_listed c.args.document.now

pub returns-clause-laws : goal.returns-clause-laws
returns-clause-laws g c = is_listed c.args.document.now

pub returns-clause-done : goal.returns-clause-done
returns-clause-done g c =
    let d = c.args.document.now in
    let all = whole_told d _ _ _ _ _ _ c.in_ok-tell_plan.ensures.carried c.in_ok-tell.ensures.carried in
    on_ok_weaker c.push_out.result (λ is. all_written _ _ _ c.new-owed.result _ _ c.new-owed.ensures all is) c.push_out.ensures.all

pub returns-clause-front : goal.returns-clause-front
returns-clause-front g c =
    let d = c.args.document.now in
    let all = whole_told d _ _ _ _ _ _ c.in_ok-tell_plan.ensures.carried c.in_ok-tell.ensures.carried in
    last_front _ _ _ c.new-owed.result _ _ c.new-owed.ensures all c.push_out.ensures.front

pub returns-clause-part : goal.returns-clause-part
returns-clause-part g c =
    let d = c.args.document.now in
    let all = whole_told d _ _ _ _ _ _ c.in_ok-tell_plan.ensures.carried c.in_ok-tell.ensures.carried in
    on_err_weaker c.push_out.result (λ part. last_part _ _ _ c.new-owed.result _ _ c.new-owed.ensures all part) c.push_out.ensures.part
