-- Both units' measurements from one tick to another.
use Rattle.std.proofs.Common.{◌≡◌, ℤ, pos, ◌+ℤ◌, ◌-ℤ◌, ◌≤ℤ◌, ◌<ℤ◌, [], sym, ap, subst}
use Rattle.std.specs.Prelude.{filter}
use Rattle.air_source.specs.Units.{same_side}
use Rattle.air_source.specs.declared.events.Side.{Side}
use Rattle.air_source.specs.declared.events.Side.TheVariants.{Ru, Du}
use Rattle.document_traffic.proofs.TurnLemmas.{doings_begin, doings_go_on, doings_wait}
use Rattle.document_traffic.specs.Doings.{Doings, nothing, taken}
use Rattle.document_traffic.specs.Replayed.{begins_at, doings_at, made_at}
use Rattle.document_traffic.specs.Turns.{IsQuietBetween}
use Rattle.delay_laws.specs.Ticks.{Begin}
use Rattle.document_traffic.specs.Settings.{compensation_of}
use Rattle.fh_document.specs.declared.document.Document.{Document}
use Rattle.unit_laws.proofs.HistoryTicks.{last_before, next_of_last}
use Rattle.unit_model.specs.Radiated.{first_clock}
use Rattle.unit_meters.proofs.WaitLemmas.{awaits_until}
use Rattle.unit_meters.specs.Begins.{Awaits, MetersStand, NoneBeginsTo}
use Rattle.delay_measure.specs.declared.edge.Compensation.{Compensation}
use Rattle.unit_meters.specs.declared.meters.Meters.{Meters}
use Rattle.delay_exchange.specs.Units.{HasDoings}
use Rattle.delay_exchange.specs.declared.unit.UnitMeter.{UnitMeter}
use Rattle.fronthaul_replay.specs.Measuring.{MeasuresWait, begins_for}

-- where none begins before a tick, none of either unit does
pub none_begins : (d : Document) (now tick : ℤ) → NoneBeginsTo (begins_for d) now (tick -ℤ pos 1) → (side : Side) (t : ℤ) → now ≤ℤ t → t <ℤ tick → begins_at d side t ≡ []
none_begins d now tick none side t low high = ap (filter (λ (b : Begin). same_side side b.side)) (none t low (last_before t tick high))

module _ (d : Document) (m : Meters) where
  -- at the start a unit has nothing
  pub measures_begin : (cr cd : Compensation) → cr ≡ compensation_of d Ru → cd ≡ compensation_of d Du → MetersStand (begins_for d) first_clock cr cd nothing nothing m
      → MeasuresWait d first_clock m
  measures_begin cr cd ru du h = record {
    waits = h.waits;
    ru = subst (λ (c : Compensation). HasDoings c (doings_at d Ru first_clock) m.ru) ru (subst (λ (x : Doings). HasDoings cr x m.ru) (sym (doings_begin d Ru)) h.ru);
    du = subst (λ (c : Compensation). HasDoings c (doings_at d Du first_clock) m.du) du (subst (λ (x : Doings). HasDoings cd x m.du) (sym (doings_begin d Du)) h.du);
  }

  -- where nothing lands before a tick either, both units have the same then
  pub measures_wait : (now tick : ℤ) → MeasuresWait d now m → first_clock ≤ℤ now → now ≤ℤ tick → NoneBeginsTo (begins_for d) now (tick -ℤ pos 1)
      → IsQuietBetween d now tick → MeasuresWait d tick m
  measures_wait now tick h begun order none quiet = record {
    waits = subst (λ (t : ℤ). Awaits (begins_for d) t m) (next_of_last tick)
        (awaits_until (begins_for d) now (tick -ℤ pos 1) m h.waits (subst (λ (t : ℤ). now ≤ℤ t) (sym (next_of_last tick)) order) none);
    ru = subst (λ (x : Doings). HasDoings (compensation_of d Ru) x m.ru) (sym (doings_wait d Ru now tick begun order quiet)) h.ru;
    du = subst (λ (x : Doings). HasDoings (compensation_of d Du) x m.du) (sym (doings_wait d Du now tick begun order quiet)) h.du;
  }

-- once what a unit made at a tick was sent, it has what it has at the next one
pub made_is_sent : (d : Document) (side : Side) (tick : ℤ) (m : UnitMeter) → first_clock ≤ℤ tick
    → HasDoings (compensation_of d side) (taken [] (made_at d side tick)) m → HasDoings (compensation_of d side) (doings_at d side (tick +ℤ pos 1)) m
made_is_sent d side tick m begun has =
    subst (λ (x : Doings). HasDoings (compensation_of d side) x m) (sym (doings_go_on d side tick begun)) has
