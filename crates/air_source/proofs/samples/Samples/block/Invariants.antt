use Rattle.std.proofs.Common.{◌≡◌, ℕ, ◌<◌, length, get_or}
use Rattle.bfp_codec.specs.Samples.{no_iq}
use Rattle.air_source.specs.Answers.{InRange, place_at, widened}
use Rattle.air_source.proofs.samples.Samples.block.Given as goal

abbrev pub invariant-loop-re : goal.invariant-loop-re
invariant-loop-re g l = record {
  size : length l.block ≡ 12;
  range : (k : ℕ) → k < 12 → InRange (place_at l.id l.slot l.symbol l.prb k);
  done : (k : ℕ) → k < l.re → goal.F-post g l.self.answer (place_at l.id l.slot l.symbol l.prb k) (widened (get_or l.block k no_iq));
}
