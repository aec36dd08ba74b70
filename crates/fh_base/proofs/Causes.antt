-- Causes over several calls, for the crates above.
use Rattle.std.proofs.Common.{ℕ, ◌≤◌, ◌≡◌, Bool, true, false, Result, arith}
use Rattle.fh_base.specs.declared.fault.SinkFault.{SinkFault}
use Rattle.fh_base.specs.Causes.{Rose, Counts, HasSinkCause}

-- what rose since later rose since before
pub rose_since : (before middle now : ℕ) → before ≤ middle → Rose middle now → Rose before now
rose_since before middle now later rose = omega arith

-- what rose stays so
pub rose_until : (before middle now : ℕ) → Rose before middle → middle ≤ now → Rose before now
rose_until before middle now rose later = omega arith

-- a count does not fall
pub counts_later : (failed : Bool) (before now : ℕ) → Counts failed before now → before ≤ now
counts_later true before now counts = counts.0
counts_later false before now counts = omega (arith, counts)

-- a count that did not change until the middle is counted from before
pub counts_since : (failed : Bool) (before middle now : ℕ) → middle ≡ before → Counts failed middle now → Counts failed before now
counts_since true before middle now still counts = (omega (arith, still, counts.0), omega (arith, still, counts.1))
counts_since false before middle now still counts = omega (arith, still, counts)

-- where the counts did not change until the middle, a cause since the middle is one since before
pub sink_cause_since : {T : Type 0} (before middle now refused_before refused_middle refused_now : ℕ) (result : Result T SinkFault) → middle ≡ before → refused_middle ≡ refused_before
    → HasSinkCause middle now refused_middle refused_now result → HasSinkCause before now refused_before refused_now result
sink_cause_since before middle now refused_before refused_middle refused_now result still refused_still cause = record {
  faults = counts_since _ before middle now still cause.faults;
  refusals = counts_since _ refused_before refused_middle refused_now refused_still cause.refusals;
}
