use Rattle.std.proofs.Common.{◌∷◌, [], ap, ◌∙◌, arith}
use Rattle.ecpri_frames.specs.Phases.{Start, Telling, after}
use Rattle.ecpri_frames.proofs.Bytes.{opened, opened_empty}
use Rattle.ecpri_frames.proofs.phases.behind_head.Goals as goal

pub returns-then-head-eq0-clause-leads : goal.returns-then-head-eq0-clause-leads
returns-then-head-eq0-clause-leads c place at rest =
    opened_empty place at c.args.head rest c.if-head-eq0.true
    ∙ ap (λ (t : Telling). after (Start place c.args.head ∷ []) t) (c.behind_payload.ensures.leads at rest)

pub returns-else-head-eq0-clause-leads : goal.returns-else-head-eq0-clause-leads
returns-else-head-eq0-clause-leads c place at rest = opened place at c.args.head rest (omega arith)
