-- The two units.
use Rattle.std.specs.Prelude.{ℕ, List, codes, Bool, true, false}
use Rattle.air_source.specs.declared.events.Side.{Side}
use Rattle.air_source.specs.declared.events.Side.TheVariants.{Ru, Du}

-- the direction of what a unit reports
abbrev pub is_down : Side → Bool
is_down Ru = true
is_down Du = false

-- the unit at the other end
abbrev pub other : Side → Side
other Ru = Du
other Du = Ru

-- the same unit
abbrev pub same_side : Side → Side → Bool
same_side Ru Ru = true
same_side Ru Du = false
same_side Du Ru = false
same_side Du Du = true

-- the way of frames to a unit, and of the cells that it reports
abbrev pub way_text : Side → List ℕ
way_text Ru = codes "dl"
way_text Du = codes "ul"
