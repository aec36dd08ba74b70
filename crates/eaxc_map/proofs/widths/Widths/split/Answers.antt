use Rattle.std.proofs.Common.{arith}
use Rattle.eaxc_map.specs.Ids.{parts_of}
use Rattle.eaxc_map.proofs.Spelling.{parts_spell, parts_only}
use Rattle.eaxc_map.proofs.widths.Widths.split.Goals as goal

pub returns-clause-spelled : goal.returns-clause-spelled
returns-clause-spelled c =
    rw (c.low_bits.ensures, c.low_bits-2.ensures, c.low_bits-3.ensures) (parts_spell c.args.self.now c.args.id c.args.self.now.whole (omega arith))

pub returns-clause-only : goal.returns-clause-only
returns-clause-only c p are =
    rw (c.low_bits.ensures, c.low_bits-2.ensures, c.low_bits-3.ensures) (parts_only c.args.self.now c.args.id p (parts_of c.args.self.now c.args.id) are (parts_spell c.args.self.now c.args.id c.args.self.now.whole (omega arith)))
