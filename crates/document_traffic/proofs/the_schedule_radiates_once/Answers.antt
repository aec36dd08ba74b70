use Rattle.document_traffic.proofs.RadiatedLemmas.{radiates_once}
use Rattle.document_traffic.proofs.the_schedule_radiates_once.Goals as goal

pub returns : goal.returns
returns c = radiates_once
