-- The radio unit at the start of its moment, and once its cells were reported.
use Rattle.std.proofs.Common.{◌≡◌, ℤ, pos, ◌-ℤ◌, ◌≤ℤ◌, ◌^◌, List, [], ap, ◌∙◌, arith}
use Rattle.std.proofs.lemmas.Int.{ints}
use Rattle.fh_base.specs.declared.values.Ticks.{Ticks}
use Rattle.fh_document.specs.declared.document.Document.{Document}
use Rattle.replay_laws.specs.Moments.{end_of_time}
use Rattle.unit_laws.proofs.HistoryTicks.{last_order}
use Rattle.unit_model.specs.Standing.{History, at_clock, heard}
use Rattle.du_intake.specs.Calls.{IntakeStandsFor, IntakeMayTake}
use Rattle.du_intake.specs.Closing.{IntakeStandsForSome}
use Rattle.du_intake.specs.declared.unit.Intake.{Intake}
use Rattle.unit_model.specs.Proper.{IsTime}
use Rattle.unit_model.specs.Radiated.{first_clock}
use Rattle.unit_model.specs.declared.allocations.Allocation.{Allocation}
use Rattle.window_config.specs.declared.config.Config.{Config}
use Rattle.ru_buffers.specs.Calls.{RadioMayTake, HasGivenPast, StandsFor, radio_clock}
use Rattle.fronthaul_replay.specs.IntakeTurns.{AtIntakeTurn, planned_for}
use Rattle.fronthaul_replay.specs.BoxTurns.{AtRadioTurn}
use Rattle.ru_buffers.specs.declared.unit.Ru.{Ru}
use Rattle.ru_buffers.proofs.QuietLemmas.{left_less}
use Rattle.ru_buffers.specs.Reporting.{due_of}

pub is_ready : (d : Document) (tick : ℤ) (u : Ru) → AtRadioTurn d tick u → HasGivenPast u
is_ready d tick u a =
    left_less u.memory.cells u.cursor (u.clock.0 -ℤ pos 1) (tick -ℤ pos 1) (last_order u.clock.0 tick a.clock)
    (a.stands.kept.left (tick -ℤ pos 1) ∙ a.turn.quiet.messages)

-- the history once the cells of the tick are reported
abbrev pub reported_then : Document → ℤ → History → History
reported_then d tick h = at_clock (heard h (due_of d.config h tick)) tick

pub may_take : (d : Document) (tick : Ticks) (h : History) (u : Ru) → StandsFor d.config u (reported_then d tick.0 h) → HasGivenPast u → radio_clock u ≡ tick
    → RadioMayTake u d.config [] tick.0 (reported_then d tick.0 h)
may_take d tick h u stands given clock = record { stands = stands; given = given; clock = ap (λ (t : Ticks). t.0) clock }

pub low_enough : (tick : ℤ) → tick ≤ℤ end_of_time → tick ≤ℤ pos (2 ^ 56)
low_enough tick h = omega (arith, ints, h)

-- the intake may take what lands at a tick
time_is : (tick : ℤ) → first_clock ≤ℤ tick → tick ≤ℤ end_of_time → IsTime tick
time_is tick low high = record { low = omega (arith, ints, low); high = omega (arith, ints, high) }

pub intake_may_take : (d : Document) (tick : ℤ) (u : Intake) → (a : AtIntakeTurn d tick u) → tick ≤ℤ end_of_time → IntakeMayTake u d.config (planned_for d) tick a.history
intake_may_take d tick u a ended = record { stands = a.stands; reported = a.turn.quiet; order = a.clock; time = time_is tick a.turn.begun ended }

pub stands_some : (u : Intake) (c : Config) (planned : List Allocation) (h : History) → IntakeStandsFor c planned u h → IntakeStandsForSome u
stands_some u c planned h stands = record { config = c; planned = planned; history = h; stands = stands }
