use Rattle.std.proofs.Common.{refl}
use Rattle.delay_exchange.proofs.Steps.{has_forgotten}
use Rattle.delay_exchange.proofs.unit.UnitMeter.pass.Goals as goal

pub returns-clause-has : goal.returns-clause-has
returns-clause-has c comp d h =
    let f = c.forget_results.ensures in
    has_forgotten comp c.args.self.now _ d refl refl f.results f.frames f.counts h
