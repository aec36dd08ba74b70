use Rattle.std.proofs.Common.{ap, ◌∙◌}
use Rattle.std.proofs.lemmas.Result.{IfOk-weaker}
use Rattle.serde_json.specs.Written.{compact_text, has_float}
use Rattle.capture_show.proofs.ObjectLemmas.{object_is_plain}
use Rattle.capture_show.proofs.objects.object_text.Goals as goal

pub returns : goal.returns
returns c =
    IfOk-weaker c.to_vec.result _ _
    (λ b h. h (ap has_float c.in_ok-object.ensures ∙ object_is_plain c.args.shown.now) ∙ ap compact_text c.in_ok-object.ensures) c.to_vec.ensures.text
