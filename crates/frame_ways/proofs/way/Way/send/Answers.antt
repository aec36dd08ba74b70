use Rattle.frame_ways.proofs.way.Way.send.Goals as goal

pub returns-clause-sent : goal.returns-clause-sent
returns-clause-sent c v now lands h = rw (← c.in_ok-copy.ensures.copy) (c.send_owned.ensures.sent v now lands h)
