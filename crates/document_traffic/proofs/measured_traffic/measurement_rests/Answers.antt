use Rattle.document_traffic.proofs.SentLemmas.{measurement_rests, messages_are_owed}
use Rattle.document_traffic.proofs.measured_traffic.measurement_rests.Goals as goal

pub returns-clause-units : goal.returns-clause-units
returns-clause-units c = measurement_rests

pub returns-clause-messages : goal.returns-clause-messages
returns-clause-messages c = messages_are_owed
