use Rattle.std.proofs.Common.{arith, sym, ◌∙◌}
use Rattle.std.specs.Prelude.{◌==◌}
use Rattle.explain_units.specs.Blocks.{giver_of}
use Rattle.explain_units.proofs.RestLemmas.{fresh_at_end, passing_most, passing_none, passing_not, passing_one}
use Rattle.explain_units.proofs.blocks.Blocks.fresh_count.Goals as goal
use Rattle.explain_units.proofs.blocks.Blocks.fresh_count.Goals.{then-is_fresh, else-is_fresh}

pub loop-k-init : goal.loop-k-init
loop-k-init c = passing_none _ _

pub overflow_add-fresh : goal.overflow_add-fresh
overflow_add-fresh c =
    let g = c.args.given.now in
    omega (arith, c.loop-k.invariant, passing_most g.first c.loop-k.k (λ prb. giver_of c.args.self.now g.id g.slot g.symbol prb == 0), c.loop-k-test.true, c.requires)

pub loop-k-preserved : goal.loop-k-preserved
loop-k-preserved c =
    let g = c.args.given.now in
    elim c.if-is_fresh.branch [
      | then-is_fresh w ↦ passing_one g.first c.loop-k.k c.loop-k.fresh c.if-is_fresh.fresh (λ prb. giver_of c.args.self.now g.id g.slot g.symbol prb == 0) c.loop-k.invariant
          (sym c.is_fresh.ensures ∙ w.if-is_fresh.true) w.fresh-is
      | else-is_fresh w ↦ w.fresh-is ∙ passing_not g.first c.loop-k.k c.loop-k.fresh (λ prb. giver_of c.args.self.now g.id g.slot g.symbol prb == 0) c.loop-k.invariant
          (sym c.is_fresh.ensures ∙ w.if-is_fresh.false)
    ]

pub returns : goal.returns
returns c = fresh_at_end c.args.self.now c.args.given.now c.loop-k.k c.loop-k.fresh (omega (arith, c.loop-k-test.false, c.loop-k.auto.k-end)) c.loop-k.invariant
