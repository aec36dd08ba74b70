use Rattle.std.proofs.Common.{List, Option, Some, None, sym, subst}
use Rattle.air_source.specs.declared.events.Side.TheVariants.{Du}
use Rattle.air_source.specs.declared.links.LinkFrame.{LinkFrame}
use Rattle.fh_base.specs.Least.{IsLeastOf}
use Rattle.fh_base.specs.declared.values.Ticks.{Ticks}
use Rattle.frame_ways.proofs.TimeLemmas.{earlier_of_both}
use Rattle.frame_ways.specs.Ways.{IsCalmTo, landings_on}
use Rattle.fronthaul_replay.specs.Up.{NoneComesUp}
use Rattle.fronthaul_replay.specs.Waiting.{on_way}
use Rattle.frame_ways.specs.SendQueues.{IsNextTime, IsSilentTo}
use Rattle.fronthaul_replay.proofs.answers.Answers.next_time.Goals as goal

least_silent : (q : List LinkFrame) (o : Option Ticks) → IsNextTime q o → IsLeastOf (IsSilentTo q) o
least_silent q None next = next
least_silent q (Some t) next = record { before = next.before; at = next.at }

pub returns : goal.returns
returns g c d now waits =
    let q = c.args.self.now.queue in
    let sent = waits.frames.on_way.sent in
    let v = on_way d Du sent in
    subst (IsLeastOf (NoneComesUp d now q sent)) (sym c.earlier_of.ensures)
    (earlier_of_both (IsSilentTo q) (IsCalmTo (landings_on v) now) c.next_time.result c.next_time-2.result (least_silent q c.next_time.result c.next_time.ensures.next)
    (c.next_time-2.ensures v now waits.frames.on_way.stands))
