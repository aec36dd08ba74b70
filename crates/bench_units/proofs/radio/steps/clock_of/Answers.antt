use Rattle.std.proofs.Common.{sym, ◌∙◌}
use Rattle.bench_units.proofs.radio.steps.clock_of.Goals as goal

pub returns : goal.returns
returns c =
    let some = c.requires in
    c.clock.ensures some.config some.history some.stands ∙ sym some.stands.kept.clock_is
