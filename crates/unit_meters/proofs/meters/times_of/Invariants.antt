use Rattle.std.proofs.Common.{◌≡◌, take}
use Rattle.std.specs.Prelude.{map}
use Rattle.unit_meters.specs.Begins.{begin_time}
use Rattle.unit_meters.proofs.meters.times_of.Given as goal

abbrev pub invariant-loop-k : goal.invariant-loop-k
invariant-loop-k l = l.times.items ≡ map begin_time (take l.k l.measures)
