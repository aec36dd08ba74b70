use Rattle.std.specs.Prelude.{◌≡◌, ◌++◌, All, map}
use Rattle.std.specs.List.{AllByRecursion}
use Rattle.plan_model.specs.Dense.{IsSending}
use Rattle.du_scheduler.specs.Ranges.{IsOpenMessage}
use Rattle.du_scheduler.specs.Walks.{complete, left_of}
use Rattle.du_scheduler.specs.PlanWalks.{sending_from}
use Rattle.du_scheduler.proofs.walking.sendings.Given as goal

abbrev pub invariant-loop-message : goal.invariant-loop-message
invariant-loop-message l = record {
  walks : l.sent.items ++ map (sending_from l.limits) (left_of l.message-iterator) ≡ map (sending_from l.limits) (complete l.limits l.parts);
  are_open : AllByRecursion (IsOpenMessage l.limits) (left_of l.message-iterator);
  small : All IsSending l.sent.items;
}
