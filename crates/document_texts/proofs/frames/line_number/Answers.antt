use Rattle.std.proofs.Common.{sym}
use Rattle.document_texts.proofs.FrameLemmas.{none_there}
use Rattle.document_texts.proofs.frames.line_number.Goals as goal

pub returns-in-None : goal.returns-in-None
returns-in-None c = none_there c.args.numbers.now c.args.place (sym c.in-None.ensures)
