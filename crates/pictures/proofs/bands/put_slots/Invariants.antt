use Rattle.std.proofs.Common.{◌≡◌, ◌++◌}
use Rattle.line_words.specs.Each.{each}
use Rattle.pictures.specs.Bands.{slot_text}
use Rattle.pictures.proofs.bands.put_slots.Given as goal

abbrev pub invariant-loop-slot : goal.invariant-loop-slot
invariant-loop-slot l = l.to ≡ l.initial.to ++ each (slot_text l.span l.e l.y l.subframe) l.slot
