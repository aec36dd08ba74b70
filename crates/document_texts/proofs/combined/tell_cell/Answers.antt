-- The line is its two halves, told one after the other.
use Rattle.std.proofs.Common.{◌∙◌}
use Rattle.std.proofs.lemmas.Result.{on_ok_weaker, on_err_weaker}
use Rattle.fh_base.proofs.OwedTelling.{anyhow}
use Rattle.document_texts.proofs.Told.{part_half, part_both, carried_both}
use Rattle.document_texts.proofs.combined.tell_cell.Goals as goal

pub returns-in_err-tell-clause-part : goal.returns-in_err-tell-clause-part
returns-in_err-tell-clause-part g c =
    anyhow c.from_residual.result (part_half c.args.m.now _ _ _ _ (c.as_slice.ensures.bytes ∙ c.put_mix_front.ensures) c.in_err-tell.ensures.part)

pub returns-clause-part : goal.returns-clause-part
returns-clause-part g c =
    on_err_weaker c.tell-2.result
    (λ h. part_both c.args.m.now _ _ _ _ _ _ _ (c.as_slice.ensures.bytes ∙ c.put_mix_front.ensures) (c.as_slice-2.ensures.bytes ∙ c.put_mix_back.ensures) c.in_ok-tell.ensures.carried h)
    c.tell-2.ensures.part

pub returns-clause-carried : goal.returns-clause-carried
returns-clause-carried g c =
    on_ok_weaker c.tell-2.result
    (λ h. carried_both c.args.m.now _ _ _ _ _ _ _ _ (c.as_slice.ensures.bytes ∙ c.put_mix_front.ensures) (c.as_slice-2.ensures.bytes ∙ c.put_mix_back.ensures) c.in_ok-tell.ensures.carried h)
    c.tell-2.ensures.carried
