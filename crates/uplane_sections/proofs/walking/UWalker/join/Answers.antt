use Rattle.std.proofs.Common.{◌++◌, take}
use Rattle.uplane_sections.proofs.Other.{other_phase}
use Rattle.uplane_sections.proofs.walking.UWalker.join.Goals as goal

pub returns-in_default-clause-other : goal.returns-in_default-clause-other
returns-in_default-clause-other c none rest =
    let w = c.args.self.now in
    other_phase w.format w.prbs w.shape w.phase w.start (take w.there w.held ++ rest) c.in_default.not-Inside
