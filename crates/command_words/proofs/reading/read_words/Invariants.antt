use Rattle.std.proofs.Common.{◌≡◌, map, take, length}
use Rattle.command_words.proofs.reading.read_words.Given as goal

abbrev pub invariant-loop-i : goal.invariant-loop-i
invariant-loop-i l = (length l.texts ≡ 5) × (map (λ w. w.now) (take l.i l.texts) ≡ take l.i l.words)
