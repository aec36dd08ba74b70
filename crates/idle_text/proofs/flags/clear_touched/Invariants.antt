use Rattle.std.proofs.Common.{◌≡◌, ℕ, ◌<◌, ◌&&◌, false, not, List, length, get_or, take}
use Rattle.air_source.specs.declared.events.AirCell.{AirCell}
use Rattle.idle_text.specs.Free.{is_touched, slot_at}
use Rattle.idle_text.specs.Tables.{IsTableOf}
use Rattle.idle_text.proofs.flags.clear_touched.Given as goal

abbrev pub invariant-loop-index : goal.invariant-loop-index
invariant-loop-index l = record {
  cleared : (first last : ℕ) (cells : List AirCell) → IsTableOf l.spans l.ep l.e first last cells → (k : ℕ) → k < length l.initial.flags
      → get_or l.flags k false ≡ (get_or l.initial.flags k false && not (is_touched l.e (take l.index l.lines) (slot_at l.e.numerology first k)));
}
