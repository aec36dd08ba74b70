use Rattle.std.proofs.Common.{ap, arith, cond, sym}
use Rattle.std.specs.Prelude.{◌==◌}
use Rattle.std.proofs.lemmas.Bool.{ne_eqb}
use lib.Count.{count_trailing_zeros}
use Rattle.line_words.proofs.Marks.{found_in_16}
use Rattle.line_words.proofs.parts.end_in_16.Goals as goal

pub returns : goal.returns
returns c low =
    let marks = c.marks_of_16-marks.result in
    let end = count_trailing_zeros 64 marks in
    found_in_16 (λ b. b == c.args.separator) c.args.bytes.now end marks c.requires c.marks_of_16-marks.ensures
    (ap (λ none. cond none 16 end) (sym (ne_eqb marks 0 (λ none. absurd (omega (arith, none, c.if-marks-eq0.false)))))) low
