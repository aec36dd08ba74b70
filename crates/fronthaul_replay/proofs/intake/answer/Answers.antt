use Rattle.fronthaul_replay.proofs.AnswerLemmas.{are_later, are_of, frames_then, handed_now, handed_then, may_send, numbered_before, radio_stays, radio_then}
use Rattle.fronthaul_replay.proofs.intake.answer.Goals as goal
use Rattle.unit_model.specs.Standing.{owed_until}
use Rattle.report_airs.proofs.Recording.{ok_both}

pub emit-requires : goal.emit-requires
emit-requires g c ready = let a = c.args.answers.now in may_send _ _ c.args.ru.now a.uplink a.outbox.frames a.queue a.way c.requires

pub returns-clause-done : goal.returns-clause-done
returns-clause-done g c d tick due landed waits =
    let old = c.args.answers.now in
    let h = landed.history in
    let sent = c.in_ok-emit.ensures.sent d.config h (numbered_before d tick) waits.handed.numbered landed.stands in
    let link = c.emit.new.link.frames in
    let is = handed_now _ d tick h c.emit.new.self c.emit.new.ru old.outbox.frames link due landed.landed sent waits.handed.tone waits.handed.none_handed in
    ok_both c.fill.result
    (λ emptied filled. record {
      radio = radio_then d tick h c.emit.new.ru due landed.landed sent.stands;
      answered = record {
        handed = handed_then _ _ d tick h old.uplink c.emit.new.self old.outbox.frames c.fill.new.outbox.frames due landed.landed waits.handed c.emit.ensures.antenna sent.numbered emptied;
        frames = frames_then d tick link old.queue c.fill.new.self old.way due is waits.frames filled;
      };
    })
    c.fill.ensures.emptied
    (c.fill.ensures.waits _ tick _ waits.frames.waiting (are_of d tick link is) (are_later d tick link due is))

pub returns-clause-stays : goal.returns-clause-stays
returns-clause-stays g c d tick due landed waits =
    let h = landed.history in
    let sent = c.in_ok-emit.ensures.sent d.config h (numbered_before d tick) waits.handed.numbered landed.stands in
    radio_stays d tick h c.emit.new.ru (owed_until d.config h h.clock) landed.landed sent.stands

pub returns-in_err-emit-clause-stays : goal.returns-in_err-emit-clause-stays
returns-in_err-emit-clause-stays g c d tick due landed waits =
    let h = landed.history in
    let first = c.in_err-emit.ensures.err d.config h (numbered_before d tick) waits.handed.numbered landed.stands in
    radio_stays d tick h c.emit.new.ru first.given landed.landed first.stands
