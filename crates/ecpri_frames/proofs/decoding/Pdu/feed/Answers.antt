use Rattle.ecpri_frames.proofs.Histories.{stands_more}
use Rattle.ecpri_frames.proofs.decoding.Pdu.feed.Goals as goal

pub returns-clause-stands : goal.returns-clause-stands
returns-clause-stands c bytes s = (stands_more c.args.self.now c.advance.new.self bytes _ _ c.advance.new.self.waits c.advance.ensures.tells s).0

pub returns-clause-told : goal.returns-clause-told
returns-clause-told c bytes s = (stands_more c.args.self.now c.advance.new.self bytes _ _ c.advance.new.self.waits c.advance.ensures.tells s).1
