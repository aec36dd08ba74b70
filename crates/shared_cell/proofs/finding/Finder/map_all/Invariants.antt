-- The map has the first k combined cells.
use Rattle.std.proofs.Common.{◌≡◌}
use Rattle.shared_cell.specs.Finding.{Finds}
use Rattle.shared_cell.proofs.finding.Finder.map_all.Given as goal

abbrev pub invariant-loop-k : goal.invariant-loop-k
invariant-loop-k l = record {
  finds : Finds l.self l.mixed;
  mapped : l.self.mapped ≡ l.k;
}
