use Rattle.std.proofs.Common.{◌≡◌, ◌+◌, ◌-◌}
use Rattle.unit_model.specs.Claims.{repeats}
use Rattle.fh_base.specs.Lists.{every}
use Rattle.plain_units.proofs.ClaimLemmas.{symbol_claimed}
use Rattle.plain_units.proofs.claims.repeats.Given as goal

abbrev pub invariant-loop-symbol : goal.invariant-loop-symbol
invariant-loop-symbol l =
    repeats l.accepted l.a ≡ every l.symbol (l.a.symbol + l.a.num_symbol - l.symbol) (symbol_claimed l.accepted l.a)
