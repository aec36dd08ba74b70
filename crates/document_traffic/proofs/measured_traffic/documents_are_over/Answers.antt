use Rattle.document_traffic.proofs.OverLemmas.{documents_are_over}
use Rattle.document_traffic.proofs.measured_traffic.documents_are_over.Goals as goal

pub returns : goal.returns
returns c = documents_are_over
