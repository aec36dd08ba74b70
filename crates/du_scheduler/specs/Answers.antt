-- What the tests answer.
use Rattle.std.specs.Prelude.{◌≡◌, ℕ, Option, Some, None, Result, Ok, Err}
use Rattle.plan_model.specs.declared.refusals.PlanWhy.{PlanWhy}
use Rattle.du_scheduler.specs.declared.testing.PlanRefusal.{PlanRefusal}
use Rattle.du_scheduler.specs.declared.testing.PlanRefusal.TheVariants.{At, NoMemory}

-- the wanted line and reason, or none, or memory ran out
abbrev pub Answers : Option (ℕ × PlanWhy) → Result (Unit {0}) PlanRefusal → Type 0
Answers wanted (Ok u) = wanted ≡ None
Answers wanted (Err (At index why)) = wanted ≡ Some (index, why)
Answers wanted (Err NoMemory) = Unit {0}
