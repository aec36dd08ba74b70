use Rattle.unit_cells.proofs.StepLemmas.{taken}
use Rattle.unit_cells.proofs.rings.take.Goals as goal

pub returns : goal.returns
returns c =
    taken c.args.a.now c.judge-verdict.result c.args.ring.now c.open.new.self c.claim.new.ring c.open.ensures.claims c.open.ensures.blocks c.open.ensures.reported
    c.open.ensures.uplink c.open.ensures.touches c.judge-verdict.ensures c.claim.ensures
