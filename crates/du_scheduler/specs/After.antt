-- What a plan is once the frame that it lent is gone.
use Rattle.std.specs.Prelude.{⊤, Option}
use Rattle.std.specs.Borrow.{follows_so, MutBor, Fml}
use mathlib.Core.Option.{none}
use Rattle.du_scheduler.specs.Plans.{LeavesPlan}
use Rattle.du_scheduler.specs.contracts.plans.Plan.{the_row}
use Rattle.du_scheduler.specs.declared.plans.Plan.{Plan}
use Rattle.du_scheduler.specs.declared.plans.Sent.{Sent}

-- it has one frame less to send, or none as before
abbrev pub LeavesAfter : MutBor Plan → Option Sent → Fml
LeavesAfter s r = follows_so the_row the_row s.ghost_name none (λ _ _. ⊤) (λ n. LeavesPlan s.now n r)
