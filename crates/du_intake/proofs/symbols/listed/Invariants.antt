use Rattle.std.proofs.Common.{◌-◌, ◌≤◌, length}
use Rattle.du_intake.specs.Listing.{AreSymbols}
use Rattle.du_intake.proofs.ListingLemmas.{IsBoundary}
use Rattle.du_intake.proofs.symbols.listed.Given as goal

abbrev pub invariant-loop-first : goal.invariant-loop-first
invariant-loop-first l = record {
  within : l.first ≤ length l.lines;
  symbols : AreSymbols l.endpoints l.lines l.first l.symbols.items;
  boundary : IsBoundary l.lines l.first;
}

abbrev pub decreases-loop-first : goal.decreases-loop-first
decreases-loop-first l = length l.lines - l.first
