use Rattle.std.proofs.Common.{◌+◌, arith}
use Rattle.std.proofs.lemmas.Nat.{mul-le}
use Rattle.slot_rings.proofs.JudgeLemmas.{inside}
use Rattle.slot_rings.proofs.judging.first_cell.Goals as goal
use Rattle.fh_base.specs.declared.symbols.TheConstants.{SLOT_SYMBOLS}

pub returns-clause-within : goal.returns-clause-within
returns-clause-within c =
    let prbs = c.args.a.now.endpoint.prbs in
    omega (arith, inside c.args.a.now c.requires.inside, mul-le (c.args.symbol + 1) prbs SLOT_SYMBOLS prbs (omega (arith, c.requires.symbol)) (omega arith), c.first_prb.ensures)

pub returns-clause-fits : goal.returns-clause-fits
returns-clause-fits c = omega (arith, inside c.args.a.now c.requires.inside)
