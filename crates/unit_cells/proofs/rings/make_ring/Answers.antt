use Rattle.std.proofs.Common.{◌∙◌, ap, to_z, of_z}
use mir.Syntax.{w64}
use Rattle.window_config.specs.declared.rings.Reach.{Reach}
use Rattle.unit_cells.proofs.RingsLemmas.{bound_passed, wide_ok}
use Rattle.unit_cells.proofs.rings.make_ring.Goals as goal

pub returns-clause-wide : goal.returns-clause-wide
returns-clause-wide c =
    let reach = c.reach-reach.result in
    let bounds = c.reach-reach.ensures.reach in
    let value = c.reach-reach.ensures.value in
    wide_ok c.args.side c.args.delays.now c.args.endpoint c.ring_slots-slots.result (to_z w64 (of_z w64 reach.before)) (to_z w64 (of_z w64 reach.after)) c.make.result c.make.ensures.endpoint
    c.make.ensures.size (bound_passed reach.before bounds.before ∙ ap (λ (r : Reach). r.before) value) (bound_passed reach.after bounds.after ∙ ap (λ (r : Reach). r.after) value)
    c.ring_slots-slots.ensures.apart
