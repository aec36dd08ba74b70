use Rattle.slot_rings.proofs.ReportedLemmas.{items_behind}
use Rattle.slot_rings.proofs.lists.items_from.Goals as goal

pub returns : goal.returns
returns g c k blank = items_behind c.args.list.now c.args.from c.min.result k blank c.min.ensures
