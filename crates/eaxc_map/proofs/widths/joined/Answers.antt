use Rattle.std.proofs.Common.{bit_or, ap, ◌∙◌, arith}
use Rattle.std.proofs.lemmas.Nat.{shl_whole, or_shifted}
use Rattle.eaxc_map.proofs.widths.joined.Goals as goal

pub returns : goal.returns
returns c =
    ap (λ x. bit_or x c.args.part) (shl_whole c.args.number 16 c.args.width 32 c.requires.small (omega arith)) ∙ or_shifted c.args.number c.args.width c.args.part c.requires.fits
