use Rattle.picture_laws.proofs.Pictures.{grids_are_plain}
use Rattle.picture_laws.proofs.grids_are_plain.Goals as goal

pub returns : goal.returns
returns c = grids_are_plain
