use Rattle.fronthaul_replay.proofs.replays.replay.Goals as goal

pub returns-clause-heard : goal.returns-clause-heard
returns-clause-heard g c = c.replay_listening.ensures.heard

pub returns-clause-stopped : goal.returns-clause-stopped
returns-clause-stopped g c = c.replay_listening.ensures.stopped

pub returns-clause-wants : goal.returns-clause-wants
returns-clause-wants g c = c.replay_listening.ensures.wants

pub returns-clause-cause : goal.returns-clause-cause
returns-clause-cause g c = c.replay_listening.ensures.cause

pub returns-clause-same : goal.returns-clause-same
returns-clause-same g c = c.replay_listening.ensures.same
