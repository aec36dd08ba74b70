-- Slot after slot.
use Rattle.std.proofs.Common.{refl, sym, ◌∙◌, arith}
use Rattle.std.proofs.lemmas.Bool.{eqb-true}
use Rattle.schedule_laws.proofs.SlotRunLemmas.{cut_of}
use Rattle.du_scheduler.proofs.WalkLemmas.{left_start, left_more, run_free, first_judged, run_judged}
use Rattle.schedule_laws.proofs.SlotWalkLemmas.{lines_end}
use Rattle.du_scheduler.proofs.judging.judge_slots.Goals as goal

pub loop-rest-init : goal.loop-rest-init
loop-rest-init c = left_start _ _ c.args.lines.now c.args.ring.now refl c.requires.one c.requires.free c.requires.order c.requires.lines

pub loop-rest-preserved : goal.loop-rest-preserved
loop-rest-preserved c =
    left_more _ _ c.args.lines.now c.loop-rest.rest.now c.loop-rest.ring c.loop-rest.least c.loop-rest.invariant
    c.split_at.result.0.now c.split_at.result.1.now c.index-rest-0.result
    (cut_of c.loop-rest.rest.now c.split_at.result.0.now c.split_at.result.1.now c.slot_len.result c.index-rest-0.result c.slot_len.ensures c.index-rest-0.is c.loop-rest.invariant.left.order
    c.split_at.ensures.front c.split_at.ensures.back)
    c.judge_slot.new.ring c.judge_slot.result c.lesser-least.result c.judge_slot.ensures.endpoint c.judge_slot.ensures.one c.judge_slot.ensures.others c.judge_slot.ensures.value c.lesser-least.ensures

pub loop-rest-smaller : goal.loop-rest-smaller
loop-rest-smaller c = omega (arith, c.split_at.ensures.back_len, c.slot_len.ensures.some)

pub judge_slot-requires : goal.judge_slot-requires
judge_slot-requires c =
    let cut = cut_of c.loop-rest.rest.now c.split_at.result.0.now c.split_at.result.1.now c.slot_len.result c.index-rest-0.result c.slot_len.ensures c.index-rest-0.is c.loop-rest.invariant.left.order
    c.split_at.ensures.front c.split_at.ensures.back in
    record {
      one = c.loop-rest.invariant.one;
      free = run_free _ _ c.args.lines.now c.loop-rest.rest.now c.loop-rest.ring c.loop-rest.least c.loop-rest.invariant _ _ c.index-rest-0.result cut;
      slot = first_judged _ _ c.args.lines.now c.loop-rest.rest.now c.loop-rest.ring c.loop-rest.least c.loop-rest.invariant _ _ c.index-rest-0.result cut;
      lines = run_judged _ _ c.args.lines.now c.loop-rest.rest.now c.loop-rest.ring c.loop-rest.least c.loop-rest.invariant _ _ c.index-rest-0.result cut;
    }

pub returns : goal.returns
returns c = lines_end _ _ c.args.lines.now c.loop-rest.rest.now c.loop-rest.least c.loop-rest.invariant.left (eqb-true _ 0 (sym c.is_empty.ensures ∙ c.loop-rest-test.false))
