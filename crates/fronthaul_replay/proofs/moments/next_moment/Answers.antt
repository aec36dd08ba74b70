use Rattle.std.proofs.Common.{sym, ap, ap₂, subst, ◌∙◌}
use Rattle.fh_base.specs.Least.{earlier_time}
use Rattle.fronthaul_replay.specs.IntakeTurns.{planned_for}
use Rattle.fronthaul_replay.specs.Measuring.{begins_for}
use Rattle.fronthaul_replay.specs.Turns.{IsNextTick, within_end}
use Rattle.fronthaul_replay.proofs.NextLemmas.{is_next}
use Rattle.fronthaul_replay.proofs.moments.next_moment.Goals as goal

pub returns : goal.returns
returns g c d now at =
    let h = at.turn.radio.history in
    let k = at.turn.intake.history in
    let left = at.waits.down.left in
    let down = at.waits.down.way.sent in
    let q = c.args.coming.now.answers.queue in
    let up = at.waits.up.frames.on_way.sent in
    let moves = c.earlier_of.ensures ∙ ap₂ earlier_time c.earlier_of-units.ensures c.earlier_of-frames.ensures in
    subst (IsNextTick d now h k left down q up) (sym (c.up_to_end.ensures ∙ ap within_end (c.earlier_of-2.ensures ∙ ap (λ o. earlier_time o c.next_time-3.result) moves)))
    (is_next d now h k left down q up c.due.result c.due-2.result c.next_time.result c.next_time-2.result c.next_time-3.result (c.due.ensures d.config h at.turn.radio.stands)
    (c.due-2.ensures d.config (planned_for d) k at.turn.intake.stands) (c.next_time.ensures d now at.waits.down) (c.next_time-2.ensures d now at.waits.up)
    (c.next_time-3.ensures (begins_for d) now at.measures.waits))
