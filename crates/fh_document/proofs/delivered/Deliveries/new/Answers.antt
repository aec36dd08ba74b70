use Rattle.fh_document.proofs.Marks.{none_marked}
use Rattle.fh_document.proofs.delivered.Deliveries.new.Goals as goal

pub invariant_of-result : goal.invariant_of-result
invariant_of-result c = none_marked c.new-2.result.items c.new.result c.new-2.ensures.items c.new.ensures
