use Rattle.document_texts.proofs.IdleLemmas.{heard_stands}
use Rattle.document_texts.proofs.writing.marked.Goals as goal

pub returns-in-Ok : goal.returns-in-Ok
returns-in-Ok c = heard_stands _ _ c.args.document.now c.args.first c.args.last c.in_ok-spans.ensures.stands c.in-Ok.ensures.heard
