use Rattle.std.proofs.Common.{◌∙◌}
use Rattle.std.proofs.lemmas.Result.{on_ok_weaker, on_err_weaker}
use Rattle.capture_show.proofs.Members.{carried_pair, part_pair}
use Rattle.serde_json.specs.Written.{comma_if}
use Rattle.capture_show.proofs.Pieces.{object_left}
use Rattle.capture_show.proofs.printing.tell_object.Goals as goal

pub returns-clause-carried : goal.returns-clause-carried
returns-clause-carried g c =
    on_ok_weaker c.tell-2.result
    (λ h. carried_pair _ _ _ _ _ _ _ _ _ _ c.comma.ensures (c.as_slice.ensures.value ∙ c.in-Ok.ensures) c.in_ok-tell.ensures.carried h) c.tell-2.ensures.carried

pub returns-clause-part : goal.returns-clause-part
returns-clause-part g c =
    on_err_weaker c.tell-2.result
    (λ h. part_pair _ _ _ _ _ _ _ _ _ c.comma.ensures (c.as_slice.ensures.value ∙ c.in-Ok.ensures) c.in_ok-tell.ensures.carried h) c.tell-2.ensures.part

pub returns-in_default-clause-part : goal.returns-in_default-clause-part
returns-in_default-clause-part g c = object_left _ c.args.owed.now (comma_if c.args.later) c.args.shown.now
