use Rattle.std.proofs.Common.{ℕ}
use Rattle.fh_base.specs.Air.{air_of}
use Rattle.plain_units.specs.ClaimedStarts.{IsNotMissed}
use Rattle.plain_units.proofs.StartLaws.{one_symbol_more}
use Rattle.plain_units.proofs.moments.nearest.Goals as goal

pub loop-symbol-preserved : goal.loop-symbol-preserved
loop-symbol-preserved c =
    let a = c.args.a.now in
    let before = c.loop-symbol.invariant in (
      c.nearer-nearest.ensures.low,
      one_symbol_more (IsNotMissed c.args.from.0 c.nearer-nearest.result) (λ (y : ℕ). air_of a.endpoint.numerology a.slot y) a.symbol c.loop-symbol.symbol c.air.result.0
          (λ y l u. c.nearer-nearest.ensures.others _ (before.1 y l u)) c.air.ensures.value c.nearer-nearest.ensures.start,
      λ t h. c.nearer-nearest.ensures.others t (before.2 t h),
    )
