use Rattle.std.proofs.Common.{map, refl, ◌∙◌, arith}
use Rattle.fh_base.proofs.OwedTelling.{anyhow}
use Rattle.du_scheduler.specs.Runs.{turn_of}
use Rattle.document_texts.proofs.SentTellLemmas.{all_told, is_tabled, none_told, room, text_told, told_cut, told_next}
use Rattle.document_texts.proofs.listing.tell_frames.Goals as goal

pub loop-turn-init : goal.loop-turn-init
loop-turn-init g c = record {
  queue = c.requires.queue;
  told = none_told c.args.document.now _ c.args.queue.now _ _ refl refl c.requires.stands;
  still = refl;
  refused_still = refl;
}

pub count-number-requires-clause-room : goal.count-number-requires-clause-room
count-number-requires-clause-room g c =
    let s = c.loop-turn.invariant.told in
    room c.args.document.now c.requires.document c.requires.valid _ _ _ _ _ _ s c.in-Some.turn _ (c.in-Some.ensures.gives (map turn_of s.left) s.stands)

pub told-frame-requires : goal.told-frame-requires
told-frame-requires g c =
    let s = c.loop-turn.invariant.told in
    is_tabled c.args.document.now c.requires.document c.requires.valid _ _ _ _ _ _ s c.in-Some.turn _ (c.in-Some.ensures.gives (map turn_of s.left) s.stands) c.args.table.now c.requires.table

pub loop-turn-smaller : goal.loop-turn-smaller
loop-turn-smaller g c =
    let s = c.loop-turn.invariant.told in
    let low = room c.args.document.now c.requires.document c.requires.valid _ _ _ _ _ _ s c.in-Some.turn _ (c.in-Some.ensures.gives (map turn_of s.left) s.stands) in
    let more = c.count-number.ensures.more in
    omega (arith, low, more)

pub loop-turn-preserved : goal.loop-turn-preserved
loop-turn-preserved g c =
    let s = c.loop-turn.invariant.told in
    let gives = c.in-Some.ensures.gives (map turn_of s.left) s.stands in
    let text = text_told c.args.document.now c.requires.document c.requires.valid _ _ _ _ _ _ s c.in-Some.turn _ gives c.class_of-class.result c.count-number.new.self c.count-number.result c.told-frame.result
    c.args.deliveries.now c.copies_of.result.items c.class_of-class.ensures.value c.count-number.ensures.number c.told-frame.ensures c.requires.deliveries c.copies_of.ensures in
    record {
      queue = c.in-Some.ensures.queue;
      told = told_next c.args.document.now c.requires.document c.requires.valid _ _ _ _ _ _ s c.in-Some.turn _ gives c.class_of-class.result c.count-number.new.self c.count-number.result _ _ _
          c.class_of-class.ensures.value c.count-number.ensures.number c.count-number.ensures.more text c.in_ok-tell_line.ensures.carried;
      still = c.in_ok-tell_line.ensures.cause.faults ∙ c.loop-turn.invariant.still;
      refused_still = c.in_ok-tell_line.ensures.cause.refusals ∙ c.loop-turn.invariant.refused_still;
    }

pub returns-in_err-tell_line-clause-front : goal.returns-in_err-tell_line-clause-front
returns-in_err-tell_line-clause-front g c =
    let s = c.loop-turn.invariant.told in
    let gives = c.in-Some.ensures.gives (map turn_of s.left) s.stands in
    let text = text_told c.args.document.now c.requires.document c.requires.valid _ _ _ _ _ _ s c.in-Some.turn _ gives c.class_of-class.result c.count-number.new.self c.count-number.result c.told-frame.result
    c.args.deliveries.now c.copies_of.result.items c.class_of-class.ensures.value c.count-number.ensures.number c.told-frame.ensures c.requires.deliveries c.copies_of.ensures in
    anyhow c.from_residual.result
    (told_cut c.args.document.now c.requires.document c.requires.valid _ _ _ _ _ _ s c.in-Some.turn _ gives _ _ text c.in_err-tell_line.ensures.front)

pub returns-clause-carried : goal.returns-clause-carried
returns-clause-carried g c =
    let s = c.loop-turn.invariant.told in
    all_told c.args.document.now _ _ _ _ _ _ _ s (c.in_default.ensures.gives (map turn_of s.left) s.stands)
