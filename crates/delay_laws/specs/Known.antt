-- The delays that become known, as the events of a replay.
use Rattle.std.specs.Prelude.{ℕ, ℤ, List, [], ◌∷◌, ◌++◌, map}
use Rattle.std.specs.Option.{option_to_list}
use Rattle.air_source.specs.declared.events.Event.{Event}
use Rattle.air_source.specs.declared.events.Event.TheVariants.{Cell, Delay, Arrival, Count}
use Rattle.air_source.specs.declared.events.Side.{Side}
use Rattle.delay_measure.specs.After.{id_of}
use Rattle.delay_laws.specs.Nodes.{Heard, delay_then, time_of}
use Rattle.delay_laws.specs.Ticks.{Hearing, Setting, State, exchange_of, told_one}
use Rattle.delay_laws.specs.Measured.{IsMeasured}

-- a delay of an id that a unit knows from a time on, in ticks
abbrev pub delay_event : Side → ℕ → ℤ → ℤ → Event
delay_event side id at delay = Delay (record { 0 = at }) side id delay

-- what becomes known when one thing more is told: one delay or none
abbrev pub known_then : Setting → List Heard → Heard → List Event
known_then w earlier one = map (delay_event one.side (id_of one.told) (time_of one.told)) (option_to_list (delay_then (w.comps one.side) (exchange_of w earlier one.side (id_of one.told)) one.told))

-- all that became known, in the order in which both units were told
abbrev pub known : Setting → List Heard → List Event
known w [] = []
known w (one ∷ earlier) = known w earlier ++ known_then w earlier one

-- what becomes known while this is told
abbrev pub known_while : Setting → Hearing → List Heard → List Event
known_while w h [] = []
known_while w h (one ∷ more) = known_then w h.heard one ++ known_while w (told_one w h one) more

-- the delay of an event is measured as it should be; other events say nothing of that
abbrev pub IsMeasuredEvent : Setting → State → Event → Type 0
IsMeasuredEvent w s (Cell cell) = Unit {0}
IsMeasuredEvent w s (Delay at side id delay) = IsMeasured w s id delay
IsMeasuredEvent w s (Arrival side at frame) = Unit {0}
IsMeasuredEvent w s (Count side counter value) = Unit {0}
