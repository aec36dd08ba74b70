use Rattle.document_traffic.proofs.ReplayedLemmas.{landings_are_replayed}
use Rattle.document_traffic.proofs.measured_traffic.landings_are_replayed.Goals as goal

pub returns : goal.returns
returns c = landings_are_replayed
