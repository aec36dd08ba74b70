-- Element by element.
use Rattle.why_lines.proofs.MaskLemmas.{mask_is}
use Rattle.why_lines.proofs.masks.silent_mask.Goals as goal

pub returns : goal.returns
returns c = mask_is c.args.cells.now c.args.id c.args.mask c.args.prb c.heard_mask.result c.heard_mask.type_inv c.heard_mask.ensures
