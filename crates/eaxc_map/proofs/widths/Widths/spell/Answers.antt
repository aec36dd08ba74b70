use Rattle.std.proofs.Common.{◌+◌, ◌<◌, arith}
use Rattle.eaxc_map.proofs.Spelling.{two_fit, three_fit, number_fits, within_16}
use Rattle.eaxc_map.proofs.widths.Widths.spell.Goals as goal

pub joined-carriers-requires-clause-small : goal.joined-carriers-requires-clause-small
joined-carriers-requires-clause-small c =
    let w = c.args.self.now in
    rw c.joined-bands.ensures (within_16 _ (w.du + w.band) (omega (arith, w.whole)) (two_fit w c.args.p c.requires))

pub joined-requires-clause-small : goal.joined-requires-clause-small
joined-requires-clause-small c =
    let w = c.args.self.now in
    rw (c.joined-carriers.ensures, c.joined-bands.ensures) (within_16 _ (w.du + w.band + w.carrier) (omega (arith, w.whole)) (three_fit w c.args.p c.requires))

pub overflow_cast-result : goal.overflow_cast-result
overflow_cast-result c =
    let w = c.args.self.now in
    let small : c.joined.result < 65536 =
    rw (c.joined.ensures, c.joined-carriers.ensures, c.joined-bands.ensures) (within_16 _ (w.du + w.band + w.carrier + w.port) (omega (arith, w.whole)) (number_fits w c.args.p c.requires)) in
    omega (arith, small)
