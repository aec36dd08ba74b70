use Rattle.std.proofs.Common.{◌<◌, ap, arith, length}
use Rattle.slot_rings.proofs.StartLemmas.{least_lowered}
use Rattle.slot_rings.proofs.starts.Starts.lower.Goals as goal

pub invariant_of-self : goal.invariant_of-self
invariant_of-self c =
    let within : c.args.index < length c.self.inside.places.items = omega (arith, c.requires, ap length c.self.view_is) in
    least_lowered c.self.inside.places.items c.args.index c.index-own.result.now c.earlier.result c.self.inside.earliest.0 c.args.start.0 c.earlier-self-inside.result.0
    within c.index-own.ensures c.self.invariant c.earlier-self-inside.ensures.first c.earlier-self-inside.ensures.second c.earlier.ensures.latest
