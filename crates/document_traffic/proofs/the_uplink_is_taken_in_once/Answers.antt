use Rattle.document_traffic.proofs.TakenLemmas.{is_taken_in_once}
use Rattle.document_traffic.proofs.the_uplink_is_taken_in_once.Goals as goal

pub returns : goal.returns
returns c = is_taken_in_once
