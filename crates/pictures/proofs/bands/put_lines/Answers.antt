use Rattle.pictures.specs.Bands.{slots_text}
use Rattle.line_words.proofs.EachTexts.{each_none, each_more}
use Rattle.pictures.proofs.bands.put_lines.Goals as goal

pub loop-subframe-init : goal.loop-subframe-init
loop-subframe-init c = each_none (slots_text c.args.span c.args.e.now c.args.y) c.args.to.now

pub loop-subframe-preserved : goal.loop-subframe-preserved
loop-subframe-preserved c =
    each_more (slots_text c.args.span c.args.e.now c.args.y) c.args.to.now c.loop-subframe.to c.put_slots.new.to c.loop-subframe.subframe c.loop-subframe.invariant c.in_ok-put_slots.ensures
