use Rattle.std.proofs.Common.{◌≡◌, ap₂, subst, ◌++◌, List, ℕ, ◌∙◌}
use Rattle.std.specs.List.{flat_map}
use Rattle.fh_base.specs.Told.{WritesPart}
use Rattle.window_plan.specs.Windows.{ring_text, rings_text}
use Rattle.window_plan.proofs.window_texts.tell_rings.Goals as goal
use Rattle.fh_base.proofs.OwedTelling.{carried_one_more, anyhow}
use Rattle.fh_base.proofs.Parts.{part_at}

pub returns-in_err-tell_ring-clause-part : goal.returns-in_err-tell_ring-clause-part
returns-in_err-tell_ring-clause-part g c =
    let all : flat_map (ring_text c.ru_reach-ru.result c.du_reach-du.result) c.args.endpoints.now ≡ rings_text c.args.d.now c.args.endpoints.now
    = ap₂ (λ ru du. flat_map (ring_text ru du) c.args.endpoints.now) c.ru_reach-ru.ensures.value c.du_reach-du.ensures.value in
    let front = part_at (ring_text c.ru_reach-ru.result c.du_reach-du.result) c.args.endpoints.now c.loop-e.e-index c.e-item.result c.e-item.result _ _ _ _ _
    c.loop-e-test.true c.e-item.is c.loop-e.invariant.carried c.in_err-tell_ring.ensures.part in
    anyhow c.from_residual.result
    (subst (λ (t : List ℕ). WritesPart (g.K.Sink.written c.args.out.now) (g.K.Sink.written c.tell_ring.new.out) (c.args.owed.now ++ t)) all front)

pub loop-e-preserved : goal.loop-e-preserved
loop-e-preserved g c = record {
  carried = carried_one_more (ring_text c.ru_reach-ru.result c.du_reach-du.result) c.args.endpoints.now c.loop-e.e-index c.e-item.result c.e-item.result _ _ _ _ _ _
      c.loop-e-test.true c.e-item.is c.loop-e.invariant.carried c.in_ok-tell_ring.ensures.carried;
  still = c.in_ok-tell_ring.ensures.cause.faults ∙ c.loop-e.invariant.still;
  refused_still = c.in_ok-tell_ring.ensures.cause.refusals ∙ c.loop-e.invariant.refused_still;
}
