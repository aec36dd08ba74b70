use Rattle.std.proofs.Common.{[], ◌∷◌}
use Rattle.unit_cells.proofs.StepLemmas.{filled, not_one, one_of}
use Rattle.unit_cells.proofs.rings.fill.Goals as goal

pub returns : goal.returns
returns c =
    filled c.args.slot c.args.symbol c.args.prb c.args.block.id (c.args.block.samples ∷ []) c.args.ring.now c.open.new.self c.fill.new.self c.open.ensures.claims c.open.ensures.blocks c.open.ensures.reported
    c.open.ensures.uplink c.open.ensures.touches (record {
      here = λ ep k below. one_of ep c.args.slot c.args.symbol c.args.prb k c.args.block.id c.args.block.samples c.open.new.self c.fill.new.self below (c.fill.ensures.here ep);
      others = λ cell is at ne. c.fill.ensures.others cell is at (λ s. not_one c.args.prb cell.prb (ne s));
      has = c.fill.ensures.has;
      claims = c.fill.ensures.claims;
      reported = c.fill.ensures.reported;
      uplink = c.fill.ensures.uplink;
      touches = c.fill.ensures.touches;
    })
