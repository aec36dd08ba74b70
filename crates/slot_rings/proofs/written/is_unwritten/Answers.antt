use Rattle.std.proofs.Common.{◌∙◌}
use Rattle.slot_rings.proofs.WrittenLemmas.{written_at}
use Rattle.slot_rings.proofs.written.is_unwritten.Goals as goal

pub returns : goal.returns
returns c is all n below inside = written_at all c.args.spans.now c.args.symbol n below ∙ c.misses.ensures is n inside
