use Rattle.std.proofs.Common.{◌≡◌, take}
use Rattle.std.specs.List.{flat_map}
use Rattle.unit_model.specs.Radiated.{known_of}
use Rattle.unit_model.specs.Starts.{cells_at}
use Rattle.plain_units.proofs.radiating.cells_of.Given as goal

abbrev pub invariant-loop-m : goal.invariant-loop-m
invariant-loop-m l = l.cells ≡ flat_map (cells_at l.side (known_of l.accepted l.timely)) (take l.m-index l.starts)
