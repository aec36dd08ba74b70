use Rattle.std.proofs.Common.{sym}
use Rattle.ecpri_fragments.proofs.Pieces.{lacks}
use Rattle.ecpri_fragments.proofs.parts.all_there.Goals as goal

pub returns-then-is_none : goal.returns-then-is_none
returns-then-is_none c = sym (lacks c.args.spans.now c.loop-k.k c.args.n c.loop-k-test.true (rw c.if-is_none.true at c.is_none.ensures))
