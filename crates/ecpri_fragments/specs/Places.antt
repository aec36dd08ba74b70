-- A place for one endpoint and one sequence id, and what it holds.
use Rattle.std.specs.Prelude.{◌≡◌, ⊤, ℕ, ◌+◌, ◌<◌, ◌&&◌, ◌||◌, if◌then◌else◌, is_some, Bool, true, false, List, [], ◌∷◌, max, nat_lt, Option, Some, None, ℤ}
use Rattle.fh_base.specs.declared.values.Ticks.{Ticks}
use Rattle.ecpri_fragments.specs.declared.place.Place.{Place}
use Rattle.ecpri_fragments.specs.declared.place.Span.{Span}
use Rattle.ecpri_fragments.specs.declared.verdict.Verdict.{Verdict}
use Rattle.ecpri_fragments.specs.declared.verdict.Verdict.TheVariants.{Repeat, Stray, TooLong}
use Rattle.ecpri_fragments.specs.Generations.{Fragment, Generation, with_fragment, held_in}
use Rattle.ecpri_fragments.specs.Verdicts.{piece_at, end_of, size, first_of, last_of, is_whole, verdict, placed, standing}
use Rattle.ecpri_fragments.specs.Spans.{span_of, shown}
use Rattle.ecpri_fragments.specs.declared.place.TheConstants.{MESSAGE_BYTES}

-- one more than the greatest subsequence of these
abbrev pub top_of : List Fragment → ℕ
top_of [] = 0
top_of (a ∷ s) = max (top_of s) (a.sub + 1)

-- the fields of a place that describe what is stored
pub record Table : Type 0 where
  pub spans : List (Option Span)
  pub bytes : List ℕ
  pub used : ℕ
  pub ending : Option ℕ
  pub top : ℕ
  pub first : ℤ
  pub last : ℤ
  pub whole : Bool

abbrev pub table_of : Place → Table
table_of p = record { spans = p.spans; bytes = p.bytes; used = p.used; ending = p.end; top = p.top; first = p.first.0; last = p.last.0; whole = p.whole }

abbrev pub IsBelow : ℕ → Option ℕ → Type 0
IsBelow n None = ⊤
IsBelow n (Some e) = e < n

-- each of these with E = 1 is the one at the end
abbrev pub EndsAt : Option ℕ → List Fragment → Type 0
EndsAt e [] = ⊤
EndsAt e (a ∷ s) = (a.last ≡ true → e ≡ Some a.sub) × EndsAt e s

abbrev pub is_past : Option ℕ → ℕ → Bool
is_past None k = false
is_past (Some e) k = nat_lt e k

-- the rules as they read in the table
abbrev pub refused_in : Table → ℕ → Bool → ℕ → Option Verdict
refused_in t sub last len =
    if t.whole || is_some (span_of t.spans sub) then Some Repeat
    else if is_past t.ending sub || (last && nat_lt (sub + 1) t.top) then Some Stray
    else if nat_lt MESSAGE_BYTES (t.used + len) then Some TooLong
    else None

-- The table holds these fragments.
pub record Holds (t : Table) (s : List Fragment) : Type 0 where
  pub pieces : (k : ℕ) → k < 128 → shown (span_of t.spans k) t.bytes ≡ piece_at s k
  pub used : t.used ≡ size s
  pub ending : t.ending ≡ end_of s
  pub ends : EndsAt t.ending s
  pub below : IsBelow 128 t.ending
  pub top : t.top ≡ top_of s
  pub first : t.first ≡ first_of s
  pub last : t.last ≡ last_of s
  pub whole : t.whole ≡ is_whole s

-- The place is in a generation that began then and in which these are stored.
abbrev pub Stands : Place → ℤ → List Fragment → Type 0
Stands p start s = (t : Ticks) × (p.begun ≡ Some t) × (t.0 ≡ start) × Holds (table_of p) s

-- The place is that of the last of these generations.
abbrev pub StandsIn : Place → List Generation → Type 0
StandsIn p [] = p.begun ≡ None
StandsIn p (g ∷ gs) = Stands p g.start (standing g.held)

-- The last of these generations began then, and its message is whole.
abbrev pub IsDone : ℤ → List Generation → Type 0
IsDone start [] = ⊥
IsDone start (g ∷ gs) = (start ≡ g.start) × (is_whole (standing g.held) ≡ true)

-- A fragment that is received where these are stored has the verdict, and new is the place after it.
abbrev pub Joins : ℤ → List Fragment → Fragment → Verdict → Place → Type 0
Joins start s a v new = (v ≡ verdict s a) × Stands new start (placed s a)

abbrev pub Puts : ℤ → List Generation → Fragment → Verdict → Place → Type 0
Puts hold gs a v new = (v ≡ verdict (standing (held_in hold a.at gs)) a) × StandsIn new (with_fragment hold a gs)
