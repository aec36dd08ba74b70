use Rattle.fault_counters.specs.Names.{index_of}
use Rattle.fault_counters.proofs.Counting.{bumped_each, bumped_others, has_counted}
use Rattle.fault_counters.proofs.values.Counters.add.Goals as goal

pub returns-clause-each : goal.returns-clause-each
returns-clause-each c d = rw c.bump.ensures.bumped (bumped_each c.args.self.now c.args.c d c.bump.ensures.size (c.bump.ensures.fits (index_of d)))

pub returns-clause-others : goal.returns-clause-others
returns-clause-others c d apart = rw c.bump.ensures.bumped (bumped_others c.args.self.now c.args.c d apart)

pub returns-clause-counted : goal.returns-clause-counted
returns-clause-counted c earlier before = rw c.bump.ensures.bumped (has_counted c.args.self.now c.args.c earlier c.bump.ensures.size before)
