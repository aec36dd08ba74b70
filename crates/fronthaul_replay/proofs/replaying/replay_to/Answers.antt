use Rattle.fronthaul_replay.proofs.replaying.replay_to.Goals as goal

pub returns-clause-heard : goal.returns-clause-heard
returns-clause-heard g c = c.replay_listening_to.ensures.heard

pub returns-clause-cut : goal.returns-clause-cut
returns-clause-cut g c = c.replay_listening_to.ensures.cut

pub returns-clause-cause : goal.returns-clause-cause
returns-clause-cause g c = c.replay_listening_to.ensures.cause

pub returns-clause-same : goal.returns-clause-same
returns-clause-same g c = c.replay_listening_to.ensures.same
