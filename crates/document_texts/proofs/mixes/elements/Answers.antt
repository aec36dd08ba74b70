use Rattle.std.proofs.Common.{sym, append_assoc, append-nil, add-one, arith}
use Rattle.document_texts.specs.Lines.{elements_text}
use Rattle.document_texts.proofs.mixes.elements.Goals as goal

pub loop-n-init : goal.loop-n-init
unfolding elements_text
loop-n-init c = (sym (append-nil c.args.line.now), omega arith)

pub loop-n-preserved : goal.loop-n-preserved
unfolding elements_text
loop-n-preserved c = (
  rw (add-one, c.element.ensures.text, c.loop-n.invariant.0) (append_assoc c.args.line.now _ _),
  omega arith,
)
