-- Of each seed and number of slots.
use Rattle.generated_laws.proofs.Read.{are_read}
use Rattle.generated_laws.proofs.documents.generated_are_read.Goals as goal

pub returns : goal.returns
returns c = are_read
