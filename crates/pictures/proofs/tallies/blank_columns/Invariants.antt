use Rattle.std.proofs.Common.{◌≡◌, []}
use Rattle.pictures.specs.Counts.{columns_of}
use Rattle.pictures.proofs.tallies.blank_columns.Given as goal

abbrev pub invariant-loop-c : goal.invariant-loop-c
invariant-loop-c l = l.columns.items ≡ columns_of l.c []
