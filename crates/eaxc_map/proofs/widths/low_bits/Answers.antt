use Rattle.std.proofs.Common.{◌-◌, bit_and, ap, ◌∙◌, arith}
use Rattle.std.proofs.lemmas.Nat.{one_shl, and_mask}
use Rattle.eaxc_map.proofs.widths.low_bits.Goals as goal

pub returns : goal.returns
returns c = ap (λ x. bit_and c.args.number (x - 1)) (one_shl c.args.width 32 (omega arith)) ∙ and_mask c.args.number c.args.width
