use Rattle.std.proofs.Common.{arith, IsTrue, All, subst, List}
use Rattle.std.proofs.lemmas.List.Elements.{All-more}
use Rattle.std.proofs.lemmas.List.{take_all}
use Rattle.air_source.specs.declared.events.AirCell.{AirCell}
use Rattle.shared_cell.specs.Places.{place_of, is_at}
use Rattle.shared_cell.specs.Combined.{AgreeIn}
use Rattle.text_tests.proofs.following.all_agree.Goals as goal

pub loop-d-preserved : goal.loop-d-preserved
loop-d-preserved c =
    All-more (λ d. IsTrue (is_at (place_of c.args.c.now) d) → AgreeIn c.args.c.now d) c.args.cells.now c.loop-d.d-index _ c.loop-d-test.true c.loop-d.invariant (c.agree.ensures c.if-not-agree.false)

pub returns : goal.returns
returns c = λ yes.
    subst (λ (xs : List AirCell). All (λ d. IsTrue (is_at (place_of c.args.c.now) d) → AgreeIn c.args.c.now d) xs)
    (take_all c.loop-d.d-index c.args.cells.now (omega (arith, c.loop-d-test.false))) c.loop-d.invariant
