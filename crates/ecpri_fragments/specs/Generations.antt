-- The generations of fragments. Lists of arrivals have the newest first, and nothing in them is forgotten.
use Rattle.std.specs.Prelude.{ℕ, ◌==◌, ◌&&◌, if◌then◌else◌, Bool, true, false, List, [], ◌∷◌, ℤ, ◌+ℤ◌, int_le}
use Rattle.fh_base.specs.declared.values.Ticks.{Ticks}
use Rattle.ecpri_fragments.specs.declared.sequence.SeqField.{SeqField}

-- a fragment that arrived: its endpoint, its time in ticks, its sequence field and its bytes
pub record Fragment : Type 0 where
  pub ep : ℕ
  pub seq : ℕ
  pub at : ℤ
  pub last : Bool
  pub sub : ℕ
  pub bytes : List ℕ

-- what arrived, as a call of `take` has it
abbrev pub fragment : ℕ → Ticks → SeqField → List ℕ → Fragment
fragment ep at seq bytes = record { ep = ep; seq = seq.seq; at = at.0; last = seq.last; sub = seq.sub; bytes = bytes }

-- a generation: when it began, and all that arrived in it, whatever became of it
pub record Generation : Type 0 where
  pub start : ℤ
  pub held : List Fragment

abbrev pub is_of : ℕ → ℕ → Fragment → Bool
is_of ep seq a = (a.ep == ep) && (a.seq == seq)

-- the fragments of one endpoint and one sequence id
abbrev pub of_id : ℕ → ℕ → List Fragment → List Fragment
of_id ep seq [] = []
of_id ep seq (a ∷ earlier) = if is_of ep seq a then a ∷ of_id ep seq earlier else of_id ep seq earlier

abbrev pub begun : Fragment → Generation
begun a = record { start = a.at; held = a ∷ [] }

abbrev pub joined : Fragment → Generation → Generation
joined a g = record { start = g.start; held = a ∷ g.held }

-- whether a time is no later than the last tick of the generation that opened at `start`
abbrev pub is_within : ℤ → ℤ → ℤ → Bool
is_within hold start at = int_le at (start +ℤ hold)

-- the generations with one fragment more, which joins the last one or begins another
abbrev pub with_fragment : ℤ → Fragment → List Generation → List Generation
with_fragment hold a [] = begun a ∷ []
with_fragment hold a (g ∷ gs) = if is_within hold g.start a.at then joined a g ∷ gs else begun a ∷ g ∷ gs

-- the generations that the fragments of one endpoint and one sequence id form
abbrev pub generations : ℤ → List Fragment → List Generation
generations hold [] = []
generations hold (a ∷ earlier) = with_fragment hold a (generations hold earlier)

-- whether what arrives now begins a generation, after these
abbrev pub begins : ℤ → ℤ → List Generation → Bool
begins hold at [] = true
begins hold at (g ∷ gs) = if is_within hold g.start at then false else true

-- when the generation began that this time falls in, and what it holds
abbrev pub start_in : ℤ → ℤ → List Generation → ℤ
start_in hold at [] = at
start_in hold at (g ∷ gs) = if is_within hold g.start at then g.start else at

abbrev pub held_in : ℤ → ℤ → List Generation → List Fragment
held_in hold at [] = []
held_in hold at (g ∷ gs) = if is_within hold g.start at then g.held else []

abbrev pub generations_of : ℤ → ℕ → ℕ → List Fragment → List Generation
generations_of hold ep seq arrivals = generations hold (of_id ep seq arrivals)

-- what arrived before it in the generation that a fragment falls in
abbrev pub seen : ℤ → Fragment → List Fragment → List Fragment
seen hold a earlier = held_in hold a.at (generations_of hold a.ep a.seq earlier)

-- whether it begins a generation
abbrev pub is_first : ℤ → Fragment → List Fragment → Bool
is_first hold a earlier = begins hold a.at (generations_of hold a.ep a.seq earlier)
