-- What an intake's calls say of some history.
use Rattle.std.proofs.Common.{◌≡◌, ℤ, pos, ◌-ℤ◌, ◌≤ℤ◌, List, []}
use Rattle.std.specs.Prelude.{Some}
use Rattle.fh_base.specs.declared.values.Ticks.{Ticks}
use Rattle.window_config.specs.declared.config.Config.{Config}
use Rattle.unit_model.specs.Standing.{History}
use Rattle.unit_model.specs.declared.allocations.Allocation.{Allocation}
use Rattle.unit_laws.proofs.HistoryTicks.{one_before}
use Rattle.du_intake.specs.Calls.{IsIntakeDue}
use Rattle.du_intake.specs.Units.{intake_due_of}

pub all_before : (c : Config) (ps : List Allocation) (h : History) (at : ℤ) (t : Ticks) → IsIntakeDue c ps h (Some t) → at ≤ℤ t.0 → intake_due_of c ps h (at -ℤ pos 1) ≡ []
all_before c ps h at t due order = due.before (at -ℤ pos 1) (one_before at t.0 order)
