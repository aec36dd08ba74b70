use Rattle.std.proofs.Common.{◌∙◌, sym, ap₂, subst}
use Rattle.std.specs.Prelude.{IfSome}
use Rattle.frame_ways.specs.Flying.{AreFlyingFrom}
use Rattle.fh_base.specs.Least.{IsLeastOf, earlier_time}
use Rattle.frame_ways.specs.Ways.{IsCalmTo, landings_on}
use Rattle.frame_ways.proofs.TimeLemmas.{next_lands}
use Rattle.frame_ways.proofs.way.Way.next_time.Goals as goal

pub returns : goal.returns
returns c v now stands =
    let w = c.args.self.now in
    let flies = c.next_time-2.ensures in
    subst (IsLeastOf (IsCalmTo (landings_on v) now)) (sym (c.earlier_of.ensures ∙ ap₂ earlier_time c.next_time.ensures.time flies.time))
    (next_lands v now w stands c.next_time.ensures.rising (subst (λ o. IfSome o (λ t. AreFlyingFrom t.0 w.in_flight)) flies.time flies.least))
