use Rattle.std.proofs.Common.{◌+◌, ◌-◌, ◌*◌, arith}
use Rattle.std.proofs.Math.Facts.{Fits-of_lt}
use Rattle.bfp_codec.proofs.Field.{field_kept}
use Rattle.bfp_codec.proofs.Groups.{front_fits, words_written}
use Rattle.bfp_codec.proofs.packing.put_words.Goals as goal

pub returns-clause-number : goal.returns-clause-number
returns-clause-number c =
    let first = c.put_word.new.into in
    let all = c.put_word-2.new.into in
    let kept = field_kept all first (c.args.at + c.args.width - 8) 8 (8 * c.args.at) (8 * (c.args.width - 8)) c.put_word-2.ensures.others (omega arith) in
    words_written first all c.args.at c.args.width c.args.number c.requires.low c.requires.high c.requires.fits c.put_word.ensures.number kept c.put_word-2.ensures.number

pub overflow_cast-number : goal.overflow_cast-number
overflow_cast-number c = Fits-of_lt (front_fits c.args.width c.args.number c.requires.low c.requires.fits)
