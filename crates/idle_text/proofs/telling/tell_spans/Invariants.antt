use Rattle.std.proofs.Common.{◌≡◌, ℕ, ◌-◌, ◌<◌, ◌≤◌, ◌||◌, false, List, length, get_or}
use Rattle.std.specs.List.{list_any}
use Rattle.fh_base.specs.Numbering.{symbols_of}
use Rattle.fh_base.specs.Owed.{Carried}
use Rattle.air_source.specs.declared.events.AirCell.{AirCell}
use Rattle.idle_spans.specs.Symbols.{symbol_count}
use Rattle.idle_spans.specs.Tables.{symbols_in}
use Rattle.idle_text.specs.Free.{has_slot}
use Rattle.idle_text.specs.Tables.{IsTableOf}
use Rattle.idle_text.proofs.NextLemmas.{IsAt}
use Rattle.idle_text.proofs.TellLemmas.{runs_text, runs_to}
use Rattle.idle_text.proofs.telling.tell_spans.Given as goal

abbrev pub invariant-loop-span : goal.invariant-loop-span
invariant-loop-span g l = record {
  at : (first last : ℕ) (cells : List AirCell) → IsTableOf l.spans l.ep l.e first last cells → IsAt l.e first (symbol_count l.e.numerology first last) l.after l.from;
  carried : (first last : ℕ) (cells : List AirCell) → IsTableOf l.spans l.ep l.e first last cells
      → Carried (g.K.Sink.written l.initial.out) l.initial.owed (runs_text l.e first cells (runs_to l.e first last cells l.min l.from)) (g.K.Sink.written l.out) l.owed;
  flags : (first last : ℕ) (cells : List AirCell) → IsTableOf l.spans l.ep l.e first last cells → (k : ℕ) → k < length l.initial.flags
      → get_or l.flags k false ≡ (get_or l.initial.flags k false || list_any (has_slot (symbols_of l.e.numerology) k) (runs_to l.e first last cells l.min l.from));
  still : g.K.Sink.faults l.out ≡ g.K.Sink.faults l.initial.out;
  refused_still : g.K.Sink.refusals l.out ≡ g.K.Sink.refusals l.initial.out;
}

abbrev pub decreases-loop-span : goal.decreases-loop-span
decreases-loop-span g l = symbols_in l.spans l.ep - l.from
