use Rattle.picture_laws.proofs.Pictures.{windows_have_panels}
use Rattle.picture_laws.proofs.windows_have_panels.Goals as goal

pub returns : goal.returns
returns c = windows_have_panels
