-- The radio unit before its next moment, and at it.
use Rattle.std.proofs.Common.{ℤ, pos, ◌-ℤ◌, ◌<ℤ◌}
use Rattle.air_source.specs.declared.events.Side.TheVariants.{Ru as AtRu}
use Rattle.document_traffic.specs.Laws.{IsReplayable}
use Rattle.fh_document.specs.declared.document.Document.{Document}
use Rattle.document_traffic.specs.Replayed.{landings_for, traffic_of}
use Rattle.replay_laws.specs.Passing.{IsCalm, IsNextMoment, IsUnitMoment}
use Rattle.ru_buffers.specs.Calls.{IsQuietTo}
use Rattle.ru_buffers.specs.declared.unit.Ru.{Ru}
use Rattle.unit_laws.proofs.HistoryTicks.{last_before}
use Rattle.fronthaul_replay.specs.BoxTurns.{AtRadioTurn}
use Rattle.fronthaul_replay.proofs.TurnLemmas.{quiet_less, skip, unit_moment}
use Rattle.fh_base.proofs.Orders.{at_most}

-- ---- before the next moment

-- before a tick nothing is due
pub quiet_before : (d : Document) (now to : ℤ) (u : Ru) → (a : AtRadioTurn d now u) → to <ℤ now → IsQuietTo d.config a.history to
quiet_before d now to u a early = quiet_less d.config u a.history to (now -ℤ pos 1) a.stands (last_before to now early) a.turn.quiet

-- where nothing is due and nothing lands before a tick, it is the radio unit's next moment
pub is_unit_moment : (d : Document) (now tick : ℤ) (u : Ru) → IsReplayable d → (a : AtRadioTurn d now u) → IsQuietTo d.config a.history (tick -ℤ pos 1)
    → IsCalm (landings_for AtRu d) now tick → IsUnitMoment AtRu d.config (traffic_of d) now tick
is_unit_moment d now tick u doc a quiet calm = unit_moment d now tick a.history doc a.turn calm quiet.cells

-- and where it is both units', it is at the start of the tick
pub turn_at : (d : Document) (now tick : ℤ) (u : Ru) → IsReplayable d → (a : AtRadioTurn d now u) → IsNextMoment d.config (traffic_of d) now tick
    → IsQuietTo d.config a.history (tick -ℤ pos 1) → AtRadioTurn d tick u
turn_at d now tick u doc a next quiet = record {
  history = a.history;
  stands = a.stands;
  turn = skip d now tick a.history doc a.turn next quiet;
  clock = at_most u.clock.0 now tick a.clock next.order;
}
