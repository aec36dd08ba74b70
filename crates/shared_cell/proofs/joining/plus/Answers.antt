use Rattle.std.proofs.Common.{arith}
use Rattle.std.proofs.lemmas.Int.{ints, to_z-of_z}
use Rattle.shared_cell.proofs.joining.plus.Goals as goal

pub returns-clause-value : goal.returns-clause-value
returns-clause-value c = grind (arith, ints, to_z-of_z)

pub returns-clause-within : goal.returns-clause-within
returns-clause-within c = λ n w. record {
  i_low = omega (arith, ints, w.i_low, c.requires.i_low, c.requires.i_high);
  i_high = omega (arith, ints, w.i_high, c.requires.i_low, c.requires.i_high);
  q_low = omega (arith, ints, w.q_low, c.requires.q_low, c.requires.q_high);
  q_high = omega (arith, ints, w.q_high, c.requires.q_low, c.requires.q_high);
}
