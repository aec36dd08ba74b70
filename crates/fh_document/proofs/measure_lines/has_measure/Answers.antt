use Rattle.std.proofs.Common.{sym, ◌∙◌, arith}
use Rattle.std.specs.Prelude.{◌==◌}
use Rattle.fh_document.proofs.Anyone.{any_here, none_more}
use Rattle.fh_document.proofs.measure_lines.has_measure.Goals as goal

pub returns-then-has_id : goal.returns-then-has_id
returns-then-has_id c = any_here (λ m. m.id == c.args.id) c.args.measures.now c.loop-k.k (omega arith) (sym c.if-has_id.true ∙ c.has_id.ensures)

pub loop-k-preserved : goal.loop-k-preserved
loop-k-preserved c = none_more (λ m. m.id == c.args.id) c.args.measures.now c.loop-k.k (omega arith) c.loop-k.invariant (sym c.if-has_id.false ∙ c.has_id.ensures)
