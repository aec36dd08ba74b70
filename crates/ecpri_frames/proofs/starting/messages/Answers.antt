use Rattle.std.proofs.Common.{◌*◌, ◌≤◌, length, ap, ◌∙◌, sym, subst, List}
use Rattle.ecpri_frames.specs.Messages.{Message}
use Rattle.ecpri_frames.specs.Phases.{Telling}
use Rattle.std.specs.Prelude.{None}
use Rattle.ecpri_frames.specs.Gathering.{gathered}
use Rattle.ecpri_frames.proofs.Gathered.{gathered_told}
use Rattle.ecpri_frames.proofs.Walking.{few_whole}
use Rattle.ecpri_frames.proofs.starting.messages.Goals as goal

pub returns-clause-messages : goal.returns-clause-messages
returns-clause-messages c =
    ap (λ (t : Telling). gathered None t.items) (c.new.ensures.start c.args.frame.now) ∙ gathered_told c.args.frame.now

pub returns-clause-few : goal.returns-clause-few
returns-clause-few c = subst (λ (ms : List Message). length ms * 4 ≤ length c.args.frame.now) (sym (returns-clause-messages c)) (few_whole c.args.frame.now)
