use Rattle.base_tests.proofs.delays.first_other.Goals as goal

pub on_message-step-requires-clause-kept : goal.on_message-step-requires-clause-kept
on_message-step-requires-clause-kept g c = let e = c.loop-place.invariant in rw e c.requires
