-- Of each seed and number of slots.
use Rattle.document_traffic.proofs.Generated.{generated_are_undisturbed}
use Rattle.document_traffic.proofs.plain_documents.generated_are_undisturbed.Goals as goal

pub returns : goal.returns
returns c = generated_are_undisturbed
