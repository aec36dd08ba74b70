use Rattle.std.proofs.Common.{◌≡◌, ℤ, ap₂, arith}
use Rattle.std.proofs.lemmas.Int.{ints, clamps}
use Rattle.window_config.specs.declared.delays.Range.{Range}
use Rattle.window_plan.proofs.fitting.t1a_for.Goals as goal

range : ℤ → ℤ → Range
range min max = record { min = min; max = max }

same_range : (a b p q : ℤ) → a ≡ p → b ≡ q → range a b ≡ range p q
same_range a b p q e f = ap₂ range e f

pub returns : goal.returns
unfolding range
returns c = same_range _ _ _ _ (omega (arith, ints, c.requires.t2a.low, c.requires.t2a.order, c.requires.t2a.high, c.requires.t12.low, c.requires.t12.order, c.requires.t12.high))
    (omega (arith, ints, clamps, c.min.ensures.value, c.requires.t2a.low, c.requires.t2a.order, c.requires.t2a.high, c.requires.t12.low, c.requires.t12.order, c.requires.t12.high))
