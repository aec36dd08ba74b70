-- For callers: a plan stays one that was tested, what a call gave, and what is then still to follow.
use Rattle.std.proofs.Common.{◌≡◌, refl, subst, sym, ◌∙◌, [], ◌∷◌, List, map, Result, Ok, Err}
use Rattle.std.specs.Prelude.{Option, Some, None, IfOk}
use Rattle.air_source.specs.declared.places.RePlace.{RePlace}
use Rattle.bfp_codec.specs.declared.samples.Wide.{Wide}
use Rattle.fh_base.specs.declared.values.Ticks.{Ticks}
use Rattle.window_config.specs.declared.config.Config.{Config}
use Rattle.window_config.specs.declared.plan.PlanLine.{PlanLine}
use Rattle.plan_model.specs.Lines.{planned}
use Rattle.plan_model.specs.Sent.{SentFrame, sent}
use Rattle.du_scheduler.specs.declared.testing.PlanRefusal.{PlanRefusal}
use Rattle.du_scheduler.specs.Queues.{first_time}
use Rattle.du_scheduler.specs.Runs.{turn_of}
use Rattle.du_scheduler.specs.Plans.{Checks, GivesSent, HasToSend, IsPlan, IsSent, LeavesPlan}
use Rattle.du_scheduler.specs.declared.plans.Plan.{Plan}
use Rattle.du_scheduler.specs.declared.plans.Sent.{Sent}

-- what `check` makes is a plan
pub plan_checked : (c : Config) (lines : List PlanLine) (r : Result Plan PlanRefusal) → Checks c lines r → IfOk r IsPlan
plan_checked c lines (Ok p) is = record { config = c; lines = lines; left = sent c (planned c.endpoints lines); is = is }
plan_checked c lines (Err e) is = tt

-- after `next_frame` it is still one, whatever was given
pub still_plan : {X : Type 0} → (old new : Plan) (r : Option X) → LeavesPlan old new r → IsPlan old → IsPlan new
still_plan old new None leaves p =
    let left = leaves p.config p.lines p.left p.is in
    record { config = p.config; lines = p.lines; left = []; is = left.1 }
still_plan old new (Some x) leaves p =
    let left = leaves p.config p.lines p.left p.is in
    record { config = p.config; lines = p.lines; left = left.1; is = left.3 }

-- ---- of the same configuration and lines

-- the first frame was given and the others are to follow, or there was none
abbrev pub GoesOn : Config → List PlanLine → (RePlace → Wide) → List SentFrame → Option Sent → Plan → Type 0
GoesOn c lines answer left None new = (left ≡ []) × HasToSend c lines [] new
GoesOn c lines answer left (Some s) new = (f : SentFrame) × (rest : List SentFrame) × (left ≡ f ∷ rest) × IsSent c answer f s × HasToSend c lines rest new

pub same_rest : {X : Type 0} (x y : X) (xs ys : List X) → x ∷ xs ≡ y ∷ ys → xs ≡ ys
same_rest x y xs ys e = cc e

-- both clauses of `next_frame` in one
pub goes_on : (c : Config) (lines : List PlanLine) (answer : RePlace → Wide) (left : List SentFrame) (old new : Plan) (r : Option Sent) → HasToSend c lines left old
    → GivesSent c answer left r → LeavesPlan old new r → GoesOn c lines answer left r new
goes_on c lines answer left old new None h given leaves = (given, (leaves c lines left h).1)
goes_on c lines answer left old new (Some s) h given leaves =
    let l = leaves c lines left h in (
      given.0,
      given.1,
      given.2,
      given.3,
      subst (λ (rest : List SentFrame). HasToSend c lines rest new) (same_rest l.0 given.0 l.1 given.1 (sym l.2 ∙ given.2)) l.3,
    )

-- ---- what `next_time` tells

-- a time is that of the first frame to follow
pub time_told : (left : List SentFrame) (t : Ticks) → first_time (map turn_of left) ≡ Some t → (f : SentFrame) × (rest : List SentFrame) × (left ≡ f ∷ rest) × (f.at ≡ t.0)
time_told [] t told = absurd (cc)
time_told (f ∷ rest) t told = (f, rest, refl, cc)

-- no time, no frame
pub no_time_told : (left : List SentFrame) → first_time (map turn_of left) ≡ None → left ≡ []
no_time_told [] told = refl
no_time_told (f ∷ rest) told = absurd (cc)
