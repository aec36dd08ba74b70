use Rattle.std.proofs.Common.{◌≡◌, length}
use Rattle.report_airs.specs.Totals.{samples_totals, IsWithin}
use Rattle.report_airs.proofs.totals.some_totals.Given as goal

abbrev pub invariant-loop-k : goal.invariant-loop-k
invariant-loop-k l = record { value : l.totals ≡ samples_totals l.mask l.block l.k; within : IsWithin l.k l.totals; size : length l.block ≡ 12 }
