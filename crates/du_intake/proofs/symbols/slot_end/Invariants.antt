use Rattle.std.proofs.Common.{◌≡◌, ℕ, ◌<◌, ◌≤◌, true, Some}
use Rattle.std.specs.List.{slice_get}
use Rattle.du_intake.specs.Lines.{same_home}
use Rattle.du_intake.specs.declared.lines.UplinkLine.{UplinkLine}
use Rattle.du_intake.proofs.symbols.slot_end.Given as goal

abbrev pub invariant-loop-k : goal.invariant-loop-k
invariant-loop-k l = (j : ℕ) (a x : UplinkLine) → l.first ≤ j → j < l.k → slice_get l.lines l.first ≡ Some a → slice_get l.lines j ≡ Some x → same_home x a ≡ true
