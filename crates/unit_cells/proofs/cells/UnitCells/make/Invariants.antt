use Rattle.std.proofs.Common.{◌≡◌, map, take}
use Rattle.std.specs.Prelude.{All}
use Rattle.unit_cells.specs.Cells.{endpoint_in}
use Rattle.unit_cells.proofs.RingsLemmas.{IsFresh}
use Rattle.unit_cells.proofs.cells.UnitCells.make.Given as goal

abbrev pub invariant-loop-endpoint : goal.invariant-loop-endpoint
invariant-loop-endpoint l = record {
  endpoints : map endpoint_in l.rings.items ≡ take l.endpoint-index l.endpoints;
  fresh : All (IsFresh l.side l.config.delays) l.rings.items;
}
