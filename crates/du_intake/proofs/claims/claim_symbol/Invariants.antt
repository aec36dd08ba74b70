use Rattle.std.proofs.Common.{◌≡◌, length, take}
use Rattle.du_intake.specs.Rows.{IsRowOf}
use Rattle.du_intake.proofs.claims.claim_symbol.Given as goal

abbrev pub invariant-loop-line : goal.invariant-loop-line
invariant-loop-line l = record {
  len : length l.row ≡ length l.fn.row;
  claims : IsRowOf (take l.line-index l.lines) l.symbol l.row;
}
