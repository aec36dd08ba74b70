-- The counter of measured delays is the number of their lines (this project's profile).
use Rattle.std.specs.Prelude.{◌≡◌}
use Rattle.document_traffic.specs.Laws.{IsReplayable}
use Rattle.fault_counters.specs.Counts.{capped}
use Rattle.fault_counters.specs.declared.kinds.Counter.TheVariants as counter
use Rattle.fh_document.specs.declared.document.Document.{Document}
use Rattle.air_source.specs.declared.events.Side.{Side}
use Rattle.document_traffic.specs.Replayed.{traffic_of}
use Rattle.replay_laws.specs.Events.{events, number_of}
use Rattle.explain_model.specs.Cells.{event_lines}
use Rattle.explain_laws.specs.Counted.{word_count}

-- at each unit
abbrev pub ResultsAreLines : Document → Type 0
ResultsAreLines d =
    (side : Side)
    → number_of side d.config (traffic_of d) counter.DelayResult
    ≡ capped (word_count side counter.DelayResult (event_lines d.config (events d.config (traffic_of d))))

-- in the replay of every document
abbrev pub DelaysAreLines : Type 0
DelaysAreLines = (d : Document) → IsReplayable d → ResultsAreLines d
