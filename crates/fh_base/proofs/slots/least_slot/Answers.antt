use Rattle.fh_base.proofs.Order.{slots_apart}
use Rattle.fh_base.proofs.slots.least_slot.Goals as goal

pub returns-in-Ordinary-clause-apart : goal.returns-in-Ordinary-clause-apart
returns-in-Ordinary-clause-apart c = λ a b is_a is_b other. slots_apart c.args.n.now a b is_a is_b other

pub returns-in-Extended-clause-apart : goal.returns-in-Extended-clause-apart
returns-in-Extended-clause-apart c = λ a b is_a is_b other. slots_apart c.args.n.now a b is_a is_b other
