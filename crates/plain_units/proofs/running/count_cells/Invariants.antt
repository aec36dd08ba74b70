use Rattle.std.proofs.Common.{◌≡◌, ℕ, ◌+◌, take}
use Rattle.fault_counters.specs.declared.kinds.Counter.{Counter}
use Rattle.fault_counters.specs.Counts.{capped, count_of, times}
use Rattle.unit_model.specs.Counts.{cells_counted}
use Rattle.plain_units.proofs.running.count_cells.Given as goal

abbrev pub invariant-loop-k : goal.invariant-loop-k
invariant-loop-k l = (n : Counter → ℕ) → ((k : Counter) → count_of l.fn.counters k ≡ capped (n k))
    → (k : Counter) → count_of l.counters k ≡ capped (n k + times (cells_counted (take l.k l.cells)) k)
