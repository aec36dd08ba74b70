use Rattle.picture_laws.proofs.Drawn.{lines_are_drawn}
use Rattle.picture_laws.proofs.lines_are_drawn.Goals as goal

pub returns : goal.returns
returns c = lines_are_drawn
