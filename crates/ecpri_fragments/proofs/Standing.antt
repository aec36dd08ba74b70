-- What holds of all fragments holds of those that are stored in a generation, whatever it is.
use Rattle.std.proofs.Common.{ℕ, ℤ, Bool, true, false, List, [], ◌∷◌}
use Rattle.std.specs.Prelude.{All, Option, Some, None, if◌then◌else◌}
use Rattle.std.proofs.lemmas.List.Elements.{All-nil, All-cons, All-head, All-tail}
use Rattle.ecpri_fragments.specs.Generations.{Fragment, Generation, begun, generations, generations_of, held_in, is_of, is_within, joined, of_id, seen, with_fragment}
use Rattle.ecpri_fragments.specs.Verdicts.{first_of, refused, standing, standing_before, with_one}
use Rattle.ecpri_fragments.specs.declared.verdict.Verdict.{Verdict}

-- of one endpoint and sequence id
pub ids_kept : (P : Fragment → Type 0) (ep seq : ℕ) (fs : List Fragment) → All P fs → All P (of_id ep seq fs)
ids_kept P ep seq [] h = All-nil P
ids_kept P ep seq (f ∷ fs) h = go (is_of ep seq f) (ids_kept P ep seq fs (All-tail P f fs h))
  where
    go : (b : Bool) → All P (of_id ep seq fs) → All P (if b then f ∷ of_id ep seq fs else of_id ep seq fs)
    go true rest = All-cons P f (of_id ep seq fs) (All-head P f fs h) rest
    go false rest = rest

-- in every generation
abbrev AllHeld : (Fragment → Type 0) → List Generation → Type 0
AllHeld P [] = Unit {0}
AllHeld P (g ∷ gs) = All P g.held × AllHeld P gs

one_more : (P : Fragment → Type 0) (hold : ℤ) (f : Fragment) (gs : List Generation) → P f → AllHeld P gs → AllHeld P (with_fragment hold f gs)
one_more P hold f [] p h = (All-cons P f [] p (All-nil P), tt)
one_more P hold f (g ∷ gs) p h = go (is_within hold g.start f.at)
  where
    go : (b : Bool) → AllHeld P (if b then joined f g ∷ gs else begun f ∷ g ∷ gs)
    go true = (All-cons P f g.held p h.0, h.1)
    go false = (All-cons P f [] p (All-nil P), h)

all_held : (P : Fragment → Type 0) (hold : ℤ) (fs : List Fragment) → All P fs → AllHeld P (generations hold fs)
all_held P hold [] h = tt
all_held P hold (f ∷ fs) h = one_more P hold f (generations hold fs) (All-head P f fs h) (all_held P hold fs (All-tail P f fs h))

held_now : (P : Fragment → Type 0) (hold at : ℤ) (gs : List Generation) → AllHeld P gs → All P (held_in hold at gs)
held_now P hold at [] h = All-nil P
held_now P hold at (g ∷ gs) h = go (is_within hold g.start at)
  where
    go : (b : Bool) → All P (if b then g.held else [])
    go true = h.0
    go false = All-nil P

-- in the generation that a fragment finds
pub all_seen : (P : Fragment → Type 0) (hold : ℤ) (f : Fragment) (earlier : List Fragment) → All P (of_id f.ep f.seq earlier) → All P (seen hold f earlier)
all_seen P hold f earlier h = held_now P hold f.at (generations_of hold f.ep f.seq earlier) (all_held P hold (of_id f.ep f.seq earlier) h)

-- and of those of it that are stored
stand_kept : (P : Fragment → Type 0) (o : Option Verdict) (f : Fragment) (s : List Fragment) → P f → All P s → All P (with_one o f s)
stand_kept P (Some v) f s p h = h
stand_kept P None f s p h = All-cons P f s p h

pub all_standing : (P : Fragment → Type 0) (held : List Fragment) → All P held → All P (standing held)
all_standing P [] h = All-nil P
all_standing P (f ∷ held) h = stand_kept P (refused (standing held) f) f (standing held) (All-head P f held h) (all_standing P held (All-tail P f held h))

pub all_stood : (P : Fragment → Type 0) (hold : ℤ) (f : Fragment) (earlier : List Fragment) → All P earlier → All P (standing_before hold f earlier)
all_stood P hold f earlier h = all_standing P (seen hold f earlier) (all_seen P hold f earlier (ids_kept P f.ep f.seq earlier h))

-- and of the time of the first of them
pub first_has : (T : ℤ → Type 0) (f : Fragment) (s : List Fragment) → T f.at → All (λ x. T x.at) s → T (first_of (f ∷ s))
first_has T f [] p h = p
first_has T f (g ∷ s) p h = first_has T g s (All-head (λ (x : Fragment). T x.at) g s h) (All-tail (λ (x : Fragment). T x.at) g s h)
