-- Run by run.
use Rattle.std.proofs.Common.{◌∙◌, ap}
use Rattle.std.specs.List.{list_any}
use Rattle.slot_rings.proofs.MaskLemmas.{in_none}
use Rattle.explain_records.proofs.NearestLemmas.{take_all}
use Rattle.why_lines.specs.Silent.{has_element}
use Rattle.why_lines.proofs.MaskLemmas.{heard_next}
use Rattle.why_lines.proofs.masks.heard_mask.Goals as goal

pub loop-run-init : goal.loop-run-init
loop-run-init c = record { each = λ re. in_none re }

pub loop-run-preserved : goal.loop-run-preserved
loop-run-preserved c = record {
  each = heard_next c.args.cells.now c.args.id c.args.prb c.loop-run.heard c.loop-run.run-index _ c.heard_with-heard.result c.loop-run-test.true c.loop-run.invariant.each c.heard_with-heard.ensures;
}

pub returns : goal.returns
returns c re = c.loop-run.invariant.each re ∙ ap (list_any (has_element c.args.id c.args.prb re)) (take_all c.args.cells.now c.loop-run.run-index c.loop-run-test.false)
