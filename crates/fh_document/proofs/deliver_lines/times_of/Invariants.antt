use Rattle.std.proofs.Common.{◌≡◌, ◌+◌, ◌++◌, length, drop}
use Rattle.std.specs.Option.{option_map}
use Rattle.fh_document.specs.DeliverLines.{times_of}
use Rattle.fh_document.proofs.deliver_lines.times_of.Given as goal

abbrev pub invariant-loop-i : goal.invariant-loop-i
invariant-loop-i l = record {
  times : times_of l.low (drop 4 l.words) ≡ option_map (λ times. l.copies ++ times) (times_of l.low (drop l.i l.words));
  count : length l.copies + 4 ≡ l.i;
}
