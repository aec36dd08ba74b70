use Rattle.uplane_sections.proofs.Histories.{stands_more}
use Rattle.uplane_sections.proofs.walking.UWalker.feed.Goals as goal

pub returns-clause-stands : goal.returns-clause-stands
returns-clause-stands c format prbs shape bytes s = (stands_more format prbs shape c.args.self.now c.advance.new.self bytes _ _ c.advance.ensures.tells s).0

pub returns-clause-told : goal.returns-clause-told
returns-clause-told c format prbs shape bytes s = (stands_more format prbs shape c.args.self.now c.advance.new.self bytes _ _ c.advance.ensures.tells s).1
