use Rattle.picture_laws.proofs.Pictures.{windows_are_plain}
use Rattle.picture_laws.proofs.windows_are_plain.Goals as goal

pub returns : goal.returns
returns c = windows_are_plain
