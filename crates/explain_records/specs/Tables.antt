-- What is kept of the last generation of each sequence id (this project's profile).
use Rattle.std.specs.Prelude.{◌≡◌, ℕ, ◌&&◌, Bool, List, [], ◌∷◌, length, option_map, Option, Some, None}
use Rattle.ecpri_fragments.specs.Generations.{Fragment, Generation, is_of}
use Rattle.ecpri_fragments.specs.Verdicts.{is_whole, piece_at, standing}
use Rattle.air_source.specs.declared.events.Side.{Side}
use Rattle.explain_records.specs.declared.generations.LastGeneration.{LastGeneration}
use Rattle.explain_records.specs.declared.beginnings.Beginning.{Beginning}
use Rattle.explain_records.specs.Beginnings.{Begun, record_with, stood_of}
use Rattle.explain_records.specs.Places.{IsOnly}
use Rattle.explain_records.specs.Turns.{first_of}

-- a beginning of the last generation of this sequence id
abbrev pub is_current : ℕ → ℕ → Begun → Bool
is_current ep seq b = is_of ep seq b.first.fragment && b.growing.is_last

-- where these are all beginnings: what is stored in it, and its beginning's place, if its first fragment is stored and tells of a symbol
pub record KeepsOf (bs : List Begun) (ep seq : ℕ) (l : LastGeneration) (g : Generation) : Type 0 where
  pub start : l.start.0 ≡ g.start
  pub first : l.first ≡ option_map first_of (piece_at (standing g.held) 0)
  pub pieces : l.pieces ≡ length (standing g.held)
  pub place : IsOnly (is_current ep seq) l.place bs
  pub none : l.first ≡ None → l.place ≡ None

-- of these generations, the last of which is first
abbrev pub IsKeptOf : List Begun → ℕ → ℕ → Option LastGeneration → List Generation → Type 0
IsKeptOf bs ep seq None [] = Unit {0}
IsKeptOf bs ep seq None (g ∷ gs) = ⊥
IsKeptOf bs ep seq (Some l) [] = ⊥
IsKeptOf bs ep seq (Some l) (g ∷ gs) = KeepsOf bs ep seq l g

-- a beginning as it is kept
abbrev pub kept_with : Side → Begun → List Fragment → Beginning
kept_with side b stood = record { kept = record_with side b stood; is_whole = is_whole stood }

abbrev pub kept_of : Side → Begun → Beginning
kept_of side b = kept_with side b (stood_of b)
