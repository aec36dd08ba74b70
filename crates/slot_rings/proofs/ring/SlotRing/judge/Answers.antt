use Rattle.std.proofs.Common.{◌<◌, ◌∙◌, ap, sym, subst, ℕ}
use Rattle.window_config.specs.declared.endpoints.EndpointConfig.{EndpointConfig}
use Rattle.slot_rings.proofs.SeenLemmas.{verdict_seen}
use Rattle.slot_rings.proofs.ring.SlotRing.judge.Goals as goal

pub judge-requires-clause-prbs : goal.judge-requires-clause-prbs
judge-requires-clause-prbs c = ap (λ (e : EndpointConfig). e.prbs) c.requires.endpoint ∙ sym c.place.ensures.prbs

pub judge-requires-clause-some : goal.judge-requires-clause-some
judge-requires-clause-some c = subst (λ (n : ℕ). 0 < n) (sym c.place.ensures.prbs) c.place.ensures.some

pub returns : goal.returns
returns c = c.judge.ensures ∙ verdict_seen c.args.self.now c.args.a.now c.args.a.now.endpoint.prbs c.place.result.now c.place.ensures.value
    (ap (λ (e : EndpointConfig). e.prbs) c.requires.endpoint)
