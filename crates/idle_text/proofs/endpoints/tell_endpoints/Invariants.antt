use Rattle.std.proofs.Common.{◌≡◌, ℕ, List, take}
use Rattle.std.specs.List.{flat_map}
use Rattle.fh_base.specs.Owed.{Carried}
use Rattle.window_config.specs.declared.config.Config.{Config}
use Rattle.air_source.specs.declared.events.AirCell.{AirCell}
use Rattle.idle_spans.specs.Tables.{Stands}
use Rattle.idle_text.specs.Text.{endpoint_text}
use Rattle.idle_text.proofs.endpoints.tell_endpoints.Given as goal

abbrev pub invariant-loop-ep : goal.invariant-loop-ep
invariant-loop-ep g l = record {
  carried : (config : Config) (first last : ℕ) (cells : List AirCell) → config.endpoints ≡ l.endpoints → Stands l.listing.spans.now config first last cells
      → Carried (g.K.Sink.written l.initial.out) l.initial.owed (flat_map (endpoint_text first last cells l.listing.min l.listing.lines.now) (take l.ep l.endpoints)) (g.K.Sink.written l.out) l.owed;
  still : g.K.Sink.faults l.out ≡ g.K.Sink.faults l.initial.out;
}
