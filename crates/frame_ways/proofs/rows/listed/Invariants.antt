use Rattle.std.proofs.Common.{◌≡◌, take}
use Rattle.frame_ways.specs.Rows.{numbered}
use Rattle.frame_ways.proofs.rows.listed.Given as goal

abbrev pub invariant-loop-place : goal.invariant-loop-place
invariant-loop-place l = record {
  items : l.rows.items ≡ numbered l.side (take l.place l.deliveries);
}
