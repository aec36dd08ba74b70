use Rattle.std.proofs.Common.{◌≡◌, ◌+◌, ◌-◌}
use Rattle.unit_model.specs.Claims.{overlaps}
use Rattle.fh_base.specs.Lists.{some}
use Rattle.plain_units.proofs.ClaimLemmas.{symbol_overlapped}
use Rattle.plain_units.proofs.claims.overlaps.Given as goal

abbrev pub invariant-loop-symbol : goal.invariant-loop-symbol
invariant-loop-symbol l =
    overlaps l.accepted l.a ≡ some l.symbol (l.a.symbol + l.a.num_symbol - l.symbol) (symbol_overlapped l.accepted l.a)
