use Rattle.std.proofs.Common.{◌∙◌}
use Rattle.slot_rings.proofs.PlaceLemmas.{judged}
use Rattle.slot_rings.proofs.place.Place.judge.Goals as goal

pub returns : goal.returns
returns c = c.verdict.ensures ∙ judged c.args.a.now.endpoint.prbs c.args.self.now c.args.a.now c.claims.result.now c.uplink-uplinks.result.now c.claims.ensures c.uplink-uplinks.ensures.value
