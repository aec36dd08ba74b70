use Rattle.std.proofs.Common.{ap, sym, rules}
use Rattle.du_scheduler.specs.Queues.{first_time}
use Rattle.du_scheduler.proofs.Left.{nothing_left, time_is}
use Rattle.du_scheduler.proofs.queue.Queue.next_time.Goals as goal

pub returns-in-Some : goal.returns-in-Some
returns-in-Some c l h =
    time_is c.args.self.now c.in-Some.field-0.now l c.requires.runs (search rules) (search rules) (search rules) h

pub returns-in-None : goal.returns-in-None
returns-in-None c l h = sym (ap first_time (nothing_left c.args.self.now l (search rules) h))
