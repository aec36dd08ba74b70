use Rattle.std.proofs.Common.{arith}
use Rattle.fh_document.specs.FrameNumbers.{is_marked}
use Rattle.fh_document.proofs.Marks.{marks_past}
use Rattle.fh_document.proofs.frame_numbers.is_marked.Goals as goal

pub returns-then-at-words : goal.returns-then-at-words
unfolding is_marked
returns-then-at-words c = c.has_bit.ensures

pub returns-else-at-words : goal.returns-else-at-words
returns-else-at-words c = marks_past c.args.words.now c.args.number (omega (arith, c.if-at-words.false))
