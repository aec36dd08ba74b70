use Rattle.ru_buffers.proofs.FoundLemmas.{found_symbol}
use Rattle.ru_buffers.proofs.finding.find_symbol.Goals as goal

pub returns : goal.returns
returns c = found_symbol c.args.cells.now c.args.after.0 c.first_left.result c.first_left.ensures.first
