use Rattle.std.proofs.Common.{sym, arith}
use Rattle.fh_document.proofs.HexSteps.{four_digits}
use Rattle.fh_document.proofs.hex.hex4.Goals as goal

pub returns : goal.returns
returns c =
    let word = c.args.word.now in
    four_digits word c.from_be_bytes.result c.value_of.result c.value_of-2.result c.value_of-3.result c.value_of-4.result (omega arith) (sym c.if-not-is_hex.ensures)
    c.value_of.ensures c.value_of-2.ensures c.value_of-3.ensures c.value_of-4.ensures c.from_be_bytes.ensures
