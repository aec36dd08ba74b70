-- Of each plain document.
use Rattle.document_traffic.proofs.Carried.{are_undisturbed}
use Rattle.document_traffic.proofs.plain_documents.plain_are_undisturbed.Goals as goal

pub returns : goal.returns
returns c = are_undisturbed
