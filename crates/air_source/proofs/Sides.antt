-- The two sides, and the test of them.
use Rattle.std.proofs.Common.{◌≡◌, true, refl}
use Rattle.air_source.specs.declared.events.Side.{Side}
use Rattle.air_source.specs.declared.events.Side.TheVariants.{Ru, Du}
use Rattle.air_source.specs.Units.{same_side}

pub side_same : (a b : Side) → same_side a b ≡ true → a ≡ b
side_same Ru Ru h = refl
side_same Ru Du h = absurd cc
side_same Du Ru h = absurd cc
side_same Du Du h = refl

pub side_self : (side : Side) → same_side side side ≡ true
side_self Ru = refl
side_self Du = refl
