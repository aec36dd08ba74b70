-- The lines of a document's plan are lines as a configuration wants them.
use Rattle.std.proofs.Common.{List, arith}
use Rattle.std.specs.Prelude.{All}
use Rattle.std.proofs.lemmas.List.Elements.{All-weaker}
use Rattle.fh_document.specs.Proper.{IsPlanLine as IsWrittenLine}
use Rattle.window_config.specs.Plans.{IsPlanLine}
use Rattle.window_config.specs.declared.plan.PlanLine.{PlanLine}

line_fits : (l : PlanLine) → IsWrittenLine l → IsPlanLine l
line_fits l h = record {
  frame_low = h.frame.low;
  frame_high = h.frame.high;
  subframe = omega (arith, h.subframe);
  slot = omega (arith, h.slot);
  symbol = omega (arith, h.symbol);
  count = omega (arith, h.count);
  start_prb = omega (arith, h.start_prb);
  mask = h.mask;
  section = h.section;
  beam = h.beam;
}

pub lines_fit : (lines : List PlanLine) → All IsWrittenLine lines → All IsPlanLine lines
lines_fit lines h = All-weaker IsWrittenLine IsPlanLine line_fits lines h
