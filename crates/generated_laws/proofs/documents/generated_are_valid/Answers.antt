-- Of each seed and number of slots.
use Rattle.generated_laws.specs.Documents.{document}
use Rattle.generated_laws.proofs.Read.{are_read}
use Rattle.generated_laws.proofs.documents.generated_are_valid.Goals as goal
use Rattle.generated_laws.proofs.Valid.{are_valid}

pub returns : goal.returns
returns c = λ seed slots small some most. (document seed slots, record { read = are_read seed slots small some most; valid = are_valid slots })
