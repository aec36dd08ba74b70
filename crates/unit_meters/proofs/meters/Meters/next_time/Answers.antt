use Rattle.std.proofs.Common.{sym, subst}
use Rattle.fh_base.specs.Least.{IsLeastOf}
use Rattle.unit_meters.specs.Begins.{NoneBeginsTo}
use Rattle.unit_meters.proofs.WaitLemmas.{first_begins}
use Rattle.unit_meters.proofs.meters.Meters.next_time.Goals as goal

pub returns : goal.returns
returns c bs now waits =
    let m = c.args.self.now in
    subst (IsLeastOf (NoneBeginsTo bs now)) (sym c.next_time.ensures.time) (first_begins m.measures.now bs m.waiting now c.next_time.ensures.rising waits.list waits.within waits.begins)
