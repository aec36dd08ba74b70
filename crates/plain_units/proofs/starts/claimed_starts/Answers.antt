use Rattle.std.proofs.Common.{◌≡◌, ℤ, ◌+ℤ◌, ◌≤ℤ◌, ◌^◌, neg_ℤ, pos, to_z, of_z, w64, sym, subst, arith}
use Rattle.std.proofs.lemmas.Int.{ints}
use Rattle.plain_units.proofs.StartLaws.{starts_more, starts_end}
use Rattle.plain_units.proofs.starts.claimed_starts.Goals as goal

pub loop-start-preserved : goal.loop-start-preserved
loop-start-preserved c =
    let start = c.in-Some.start.0 in
    let inside = c.in-Some.ensures.inside in
    let low = c.loop-start.invariant.0 in
    let next_is : to_z w64 (of_z w64 (to_z w64 (of_z w64 start) +ℤ pos 1)) ≡ start +ℤ pos 1 = omega (arith, ints, inside, low, c.requires.high) in (
      subst (λ (z : ℤ). neg_ℤ (pos (2 ^ 53)) ≤ℤ z) (sym next_is) (omega (arith, ints, inside, low)),
      starts_more c.args.endpoints.now c.args.accepted.now c.args.down c.loop-start.now.0 start _ c.args.end.0 _ c.loop-start.found.items c.push_tick.new.found.items
          inside.0 inside.1 next_is c.requires.proper c.in-Some.ensures.first c.in_ok-push_tick.ensures c.loop-start.invariant.1,
    )

pub returns : goal.returns
returns c =
    starts_end c.args.endpoints.now c.args.accepted.now c.args.down c.loop-start.now.0 c.args.end.0 _ c.loop-start.found.items c.requires.proper c.in_default.ensures.first
    c.loop-start.invariant.1
