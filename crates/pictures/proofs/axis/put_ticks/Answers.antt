use Rattle.std.proofs.Common.{rules, ◌++◌, ap, ◌∙◌, w64}
use Rattle.std.proofs.lemmas.Int.{to_z-of_z}
use mir.Val.{SFits}
use Rattle.line_words.proofs.EachTexts.{each_none, each_more}
use Rattle.pictures.specs.Axis.{nth_tick, tick_text}
use Rattle.pictures.proofs.axis.put_ticks.Goals as goal

pub loop-k-init : goal.loop-k-init
loop-k-init c = each_none (nth_tick c.args.windows.now) c.args.to.now

pub loop-k-preserved : goal.loop-k-preserved
loop-k-preserved c =
    let fits : SFits w64 c.time_of.result = search rules in
    each_more (nth_tick c.args.windows.now) c.args.to.now c.loop-k.to c.put_tick.new.to c.loop-k.k c.loop-k.invariant
    (simp to_z-of_z at c.in_ok-put_tick.ensures ∙ ap (λ z. c.loop-k.to ++ tick_text c.args.windows.now z) c.time_of.ensures.value)
