-- The generations as one reads them off the arrivals of one endpoint and one sequence id, from the oldest on.
use Rattle.std.specs.Prelude.{◌≡◌, ⊤, true, false, List, [], ◌∷◌, ◌++◌, reverse, ℤ}
use Rattle.ecpri_fragments.specs.Generations.{Fragment, Generation, is_within}
use Rattle.ecpri_fragments.specs.Pieces.{joined as joined_up}

-- each of these arrives in the generation that began then
abbrev pub AllWithin : ℤ → ℤ → List Fragment → Type 0
AllWithin hold start [] = ⊤
AllWithin hold start (b ∷ more) = (is_within hold start b.at ≡ true) × AllWithin hold start more

-- an opening fragment, and more that were received no later than `hold` after it
abbrev pub IsGeneration : ℤ → List Fragment → Type 0
IsGeneration hold [] = ⊥
IsGeneration hold (a ∷ more) = AllWithin hold a.at more

-- the next generation opens with a fragment that was received later than that
abbrev pub BeginsAfter : ℤ → List Fragment → List Fragment → Type 0
BeginsAfter hold [] next = ⊥
BeginsAfter hold (a ∷ more) [] = ⊥
BeginsAfter hold (a ∷ more) (b ∷ next) = is_within hold a.at b.at ≡ false

abbrev pub AreGenerations : ℤ → List (List Fragment) → Type 0
AreGenerations hold [] = ⊤
AreGenerations hold (g ∷ []) = IsGeneration hold g
AreGenerations hold (g ∷ next ∷ gs) = (IsGeneration hold g × BeginsAfter hold g next) × AreGenerations hold (next ∷ gs)

-- The arrivals are cut into these generations: all of them, in their order.
pub record IsCut (hold : ℤ) (arrivals : List Fragment) (gs : List (List Fragment)) : Type 0 where
  pub all : joined_up gs ≡ arrivals
  pub generations : AreGenerations hold gs

-- generations that are given the newest first, each with its newest fragment first, the other way round
abbrev pub oldest_first : List Generation → List (List Fragment)
oldest_first [] = []
oldest_first (g ∷ gs) = oldest_first gs ++ reverse g.held ∷ []

-- each generation began with its first fragment
abbrev pub IsStart : ℤ → List Fragment → Type 0
IsStart start [] = ⊥
IsStart start (a ∷ more) = start ≡ a.at

abbrev pub StartsWithFirst : List Generation → Type 0
StartsWithFirst [] = ⊤
StartsWithFirst (g ∷ gs) = IsStart g.start (reverse g.held) × StartsWithFirst gs
