use Rattle.std.proofs.Common.{◌≡◌, ℕ, ◌<◌, length, get_or}
use Rattle.bfp_codec.specs.Samples.{no_iq, no_wide}
use Rattle.air_source.specs.Answers.{widened}
use Rattle.text_tests.proofs.telling.wide_block.Given as goal

abbrev pub invariant-loop-re : goal.invariant-loop-re
invariant-loop-re l = record {
  source : length l.block ≡ 12;
  size : length l.wide ≡ 12;
  done : (k : ℕ) → k < l.re → get_or l.wide k no_wide ≡ widened (get_or l.block k no_iq);
}
