use Rattle.pictures.specs.Bands.{slot_text}
use Rattle.line_words.proofs.EachTexts.{each_none, each_more}
use Rattle.pictures.proofs.bands.put_slots.Goals as goal

pub loop-slot-init : goal.loop-slot-init
loop-slot-init c = each_none (slot_text c.args.span c.args.e.now c.args.y c.args.subframe) c.args.to.now

pub loop-slot-preserved : goal.loop-slot-preserved
loop-slot-preserved c =
    each_more (slot_text c.args.span c.args.e.now c.args.y c.args.subframe) c.args.to.now c.loop-slot.to c.put_slot.new.to c.loop-slot.slot c.loop-slot.invariant c.in_ok-put_slot.ensures
