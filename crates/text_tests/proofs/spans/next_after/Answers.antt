use Rattle.text_tests.proofs.spans.next_after.Goals as goal

pub next-requires-clause-place : goal.next-requires-clause-place
next-requires-clause-place c = c.start_of.ensures _
