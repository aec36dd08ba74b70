use Rattle.std.proofs.Common.{◌≡◌, ℕ, List}
use Rattle.fh_base.specs.Owed.{Carried}
use Rattle.air_source.specs.declared.events.AirCell.{AirCell}
use Rattle.idle_text.specs.Tables.{IsTableOf}
use Rattle.idle_text.specs.Text.{flagged_text}
use Rattle.idle_text.proofs.telling.tell_free.Given as goal

abbrev pub invariant-loop-k : goal.invariant-loop-k
invariant-loop-k g l = record {
  carried : (first last : ℕ) (cells : List AirCell) → IsTableOf l.spans l.ep l.e first last cells
      → Carried (g.K.Sink.written l.initial.out) l.initial.owed (flagged_text first l.e l.flags l.k) (g.K.Sink.written l.out) l.owed;
  still : g.K.Sink.faults l.out ≡ g.K.Sink.faults l.initial.out;
  refused_still : g.K.Sink.refusals l.out ≡ g.K.Sink.refusals l.initial.out;
}
