-- What the documents have in common: one endpoint and the usual times.
use Rattle.std.specs.Prelude.{ℕ, pos, List, [], Some}
use Rattle.delay_laws.specs.Examples.{ns}
use Rattle.fh_document.specs.declared.document.Document.{Document}
use Rattle.plan_model.specs.Examples.{config_with}
use Rattle.unit_model.specs.Meetings.{Arrival}

-- a document without a plan, whose frames are 50,000 ns on their way where it says nothing of them
abbrev pub usual_document : Document
usual_document = record {
  config = config_with 1;
  plan = [];
  plan_lines = [];
  source = record { seed = 1; amplitude = 1000 };
  antenna = record { seed = 2; amplitude = 1000 };
  comps = record { du_sending = pos 0; du_receiving = pos 0; ru_sending = pos 0; ru_receiving = pos 0 };
  transits = record { dl = Some (pos 50000); ul = Some (pos 50000); m = pos 50000 };
  deliveries = [];
  injections = [];
  measures = [];
}

-- a frame that is received at so many nanoseconds
abbrev pub received : ℕ → List ℕ → Arrival
received at frame = record { at = ns at; frame = frame }
