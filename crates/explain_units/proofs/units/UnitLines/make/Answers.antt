-- No event.
use Rattle.std.proofs.Common.{refl}
use Rattle.explain_units.proofs.EventLemmas.{made}
use Rattle.explain_units.proofs.units.UnitLines.make.Goals as goal

pub returns : goal.returns
returns c = made c.args.side c.args.config.now (record { side = c.args.side; earlier = c.in_ok-earlier.earlier }) refl c.in_ok-earlier.ensures
