use Rattle.picture_laws.proofs.Drawn.{pictures_are_lines}
use Rattle.picture_laws.proofs.pictures_are_lines.Goals as goal

pub returns : goal.returns
returns c = pictures_are_lines
