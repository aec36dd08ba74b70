use Rattle.capture_records.proofs.Steps.{nothing_left}
use Rattle.capture_records.proofs.iterating.RecordsIterator.next.Goals as goal

pub returns-then-is_empty-clause-steps : goal.returns-then-is_empty-clause-steps
returns-then-is_empty-clause-steps c =
    let none = nothing_left c.args.self.now.rest.now c.if-is_empty.ensures in
    (none, none)
