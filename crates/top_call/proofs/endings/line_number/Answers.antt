use Rattle.std.proofs.Common.{sym}
use Rattle.top_call.proofs.endings.line_number.Goals as goal
use Rattle.document_texts.proofs.FrameLemmas.{none_there}

pub returns-in-None : goal.returns-in-None
returns-in-None c = none_there c.args.numbers.now c.args.index (sym c.in-None.ensures)
