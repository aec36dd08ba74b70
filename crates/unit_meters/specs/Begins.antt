-- The measurements that have still to begin, and the state of both units' meters at a tick (this project's profile).
use Rattle.std.specs.Prelude.{◌≡◌, ℕ, ℤ, ◌<◌, ◌≤ℤ◌, List, [], ◌∷◌, All, filter, length, map, slice_get}
use Rattle.std.specs.List.{flat_map}
use Rattle.std.specs.Option.{option_to_list}
use Rattle.air_source.specs.Units.{same_side}
use Rattle.air_source.specs.declared.events.Side.{Side}
use Rattle.air_source.specs.declared.events.Side.TheVariants.{Ru, Du}
use Rattle.delay_exchange.specs.Units.{HasDoings}
use Rattle.delay_measure.specs.declared.edge.Compensation.{Compensation}
use Rattle.delay_laws.specs.Ticks.{Begin, due}
use Rattle.delay_model.specs.Doings.{Doings, with_begins}
use Rattle.fh_document.specs.Proper.{IsMeasure}
use Rattle.fh_document.specs.declared.document.Measure.{Measure}
use Rattle.fh_base.specs.declared.values.Ticks.{Ticks}
use Rattle.frame_ways.specs.Queues.{at_time}
use Rattle.frame_ways.specs.declared.landings.Landing.{Landing}
use Rattle.frame_ways.specs.Listed.{AreFrom}
use Rattle.window_config.specs.Windows.{ticks_of_ns}
use Rattle.unit_meters.specs.declared.meters.Meters.{Meters}

-- ---- measurements

-- when one begins, in ticks
abbrev pub begin_time : Measure → Ticks
begin_time m = record { 0 = ticks_of_ns m.at }

-- one that begins at a tick
abbrev pub begin_then : ℤ → Measure → Begin
begin_then tick m = record { side = m.side; id = m.id; kind = m.kind; at = tick }

-- one that begins at its time
abbrev pub begin_of : Measure → Begin
begin_of m = begin_then (ticks_of_ns m.at) m

-- of these, those of a unit
abbrev pub begins_of : Side → List Begin → List Begin
begins_of side bs = filter (λ b. same_side side b.side) bs

-- none of these begins from one tick on and up to another
abbrev pub NoneBeginsTo : List Begin → ℤ → ℤ → Type 0
NoneBeginsTo bs now to = (t : ℤ) → now ≤ℤ t → t ≤ℤ to → due t bs ≡ []

-- ---- those that wait

-- the one at a place of the list
abbrev pub measure_at : List Measure → Landing → List Begin
measure_at measures l = map begin_of (option_to_list (slice_get measures l.index))

-- those that wait for a tick, in the order of the list
abbrev pub begins_among : List Measure → List Landing → ℤ → List Begin
begins_among measures waiting tick = flat_map (measure_at measures) (at_time tick waiting)

abbrev pub begins_waiting : Meters → ℤ → List Begin
begins_waiting m tick = begins_among m.measures.now m.waiting tick

-- each that waits has its place in a list of so many
abbrev pub AreWithin : ℕ → List Landing → Type 0
AreWithin count q = All (λ l. l.index < count) q

-- those that wait are those of a list of measurements from a tick on
pub record Awaits (bs : List Begin) (now : ℤ) (m : Meters) : Type 0 where
  pub proper : All IsMeasure m.measures.now
  pub begins : (t : ℤ) → now ≤ℤ t → begins_waiting m t ≡ due t bs
  pub list : AreFrom now m.waiting
  pub within : AreWithin (length m.measures.now) m.waiting

-- ---- with what the units have

-- at the start of a tick: of these measurements those from then on wait, and the units, with these compensations, have this
pub record MetersStand (bs : List Begin) (now : ℤ) (cr cd : Compensation) (x y : Doings) (m : Meters) : Type 0 where
  pub waits : Awaits bs now m
  pub ru : HasDoings cr x m.ru
  pub du : HasDoings cd y m.du

-- one measurement has begun at a tick, where the units had this, and all others wait as before
pub record HasBegun (tick : ℤ) (one : Measure) (cr cd : Compensation) (x y : Doings) (old new : Meters) : Type 0 where
  pub ru : HasDoings cr (with_begins cr x (begins_of Ru (begin_then tick one ∷ []))) new.ru
  pub du : HasDoings cd (with_begins cd y (begins_of Du (begin_then tick one ∷ []))) new.du
  pub measures : new.measures.now ≡ old.measures.now
  pub waiting : new.waiting ≡ old.waiting
