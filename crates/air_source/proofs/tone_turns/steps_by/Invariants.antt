use Rattle.std.proofs.Common.{◌≡◌, ℕ, ◌*◌, ◌%◌, ◌<◌, length, slice_index}
use Rattle.air_source.proofs.tone_turns.steps_by.Given as goal

abbrev pub invariant-loop-re : goal.invariant-loop-re
invariant-loop-re l = record {
  size : length l.steps ≡ 12;
  done : (k : ℕ) → k < l.re → slice_index l.steps k ≡ l.each * k % l.turn;
}
