use Rattle.drawn_laws.proofs.Documents.{written_are_drawn}
use Rattle.drawn_laws.proofs.drawn_documents.written_are_drawn.Goals as goal

pub returns : goal.returns
returns c = written_are_drawn
