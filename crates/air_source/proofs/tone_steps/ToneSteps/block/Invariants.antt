use Rattle.std.proofs.Common.{◌≡◌, ℕ, ◌<◌, length, get_or}
use Rattle.bfp_codec.specs.Samples.{no_wide}
use Rattle.air_source.specs.Answers.{place_at}
use Rattle.air_source.specs.Tones.{tone_of}
use Rattle.air_source.proofs.tone_steps.ToneSteps.block.Given as goal

abbrev pub invariant-loop-re : goal.invariant-loop-re
invariant-loop-re l = record {
  size : length l.block ≡ 12;
  done : (k : ℕ) → k < l.re → get_or l.block k no_wide ≡ tone_of l.fn.self (place_at l.fn.id l.fn.slot l.fn.symbol l.fn.prb k);
}
