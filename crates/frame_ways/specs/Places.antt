-- The keys by which a network holds its arrivals: this project's profile.
use Rattle.std.specs.Ordering.{nat_cmp, int_cmp, bool_cmp, on, then_cmp}
use Rattle.std.specs.declared.cmp.Ordering.{Ordering}
use Rattle.frame_ways.specs.declared.arrivals.Arrival.{Arrival}
use Rattle.frame_ways.specs.declared.places.Place.{Place}
use Rattle.frame_ways.specs.declared.places.Turn.{Turn}
use Rattle.frame_ways.specs.Network.{is_to_du, key_cmp}

abbrev pub place_of : Arrival → Place
place_of a = record { at = a.at; to_du = is_to_du a.side; key = a.key }

-- the order of arrivals, by their places
abbrev pub place_cmp : Place → Place → Ordering
place_cmp = then_cmp (on (λ p. p.at.0) int_cmp)
    (then_cmp (on (λ p. p.to_du) bool_cmp)
    (on (λ p. p.key) key_cmp))

-- the same, and then by the call that put it
abbrev pub turn_cmp : Turn → Turn → Ordering
turn_cmp = then_cmp (on (λ t. t.place) place_cmp) (on (λ t. t.serial) nat_cmp)
