use Rattle.uplane_sections.proofs.Histories.{stands_more}
use Rattle.uplane_sections.proofs.walking.UWalker.pass.Goals as goal

pub returns-clause-stands : goal.returns-clause-stands
returns-clause-stands c format prbs shape bytes s =
    let p = c.pass_all.ensures.passes in
    (stands_more format prbs shape c.args.self.now c.pass_all.new.self bytes c.args.piece.now p.items p.tells s).0
