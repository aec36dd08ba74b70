use Rattle.std.proofs.Common.{ℤ, pos, ◌+ℤ◌, sym, subst}
use Rattle.air_source.specs.declared.events.Side.TheVariants.{Ru}
use Rattle.fh_base.specs.Least.{IsLeastOf}
use Rattle.frame_sending.specs.Due.{AreSentFrom}
use Rattle.frame_ways.proofs.TimeLemmas.{earlier_of_both}
use Rattle.frame_ways.specs.Ways.{IsCalmTo, landings_on}
use Rattle.fronthaul_replay.proofs.OrderLemmas.{first_sends}
use Rattle.fronthaul_replay.specs.Down.{NoneComesDown}
use Rattle.fronthaul_replay.specs.Waiting.{on_way}
use Rattle.fronthaul_replay.proofs.downlink.Downlink.next_time.Goals as goal

pub returns : goal.returns
returns c d now waits =
    let v = on_way d Ru waits.way.sent in
    subst (IsLeastOf (NoneComesDown d now waits.left waits.way.sent)) (sym c.earlier_of.ensures)
    (earlier_of_both (λ (to : ℤ). AreSentFrom (to +ℤ pos 1) waits.left) (IsCalmTo (landings_on v) now) c.next_time.result c.next_time-2.result
    (first_sends d.config d.plan waits.left c.args.self.now.plan c.next_time.result waits.plan (c.next_time.ensures d.config d.plan waits.left waits.plan))
    (c.next_time-2.ensures v now waits.way.stands))
