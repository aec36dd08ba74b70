use Rattle.replay_tests.proofs.moments.a_request_leaves.Goals as goal

pub begin-requires : goal.begin-requires
begin-requires g c = (_, _, _, _, _, c.in_ok-meters.ensures)

pub send_made-requires-clause-some : goal.send_made-requires-clause-some
send_made-requires-clause-some g c = (_, _, c.in_ok-begin-2.ensures.has _ _ (c.in_ok-begin.ensures _ _ _ _ _ c.in_ok-meters.ensures).du)
