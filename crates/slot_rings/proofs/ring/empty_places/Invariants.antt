use Rattle.std.proofs.Common.{◌≡◌, replicate, None}
use Rattle.slot_rings.specs.Places.{empty_place}
use Rattle.slot_rings.proofs.ring.empty_places.Given as goal

abbrev pub invariant-loop-k : goal.invariant-loop-k
invariant-loop-k l = l.places.items ≡ replicate l._k (empty_place None l.prbs)
