-- The fragments that are stored together in a generation.
use Rattle.std.proofs.Common.{◌≡◌, ℕ, ℤ, zero, suc, ◌+◌, ◌<◌, ◌≤◌, ◌≤ℤ◌, Bool, true, false, ◌||◌, List, [], ◌∷◌, ◌++◌, inl, inr, refl, sym, ap, ◌∙◌, arith, length, get_or, length-append}
use Rattle.std.specs.Prelude.{◌==◌, if◌then◌else◌, All, Contains, Option, Some, None, is_some, unwrap_or, slice_get, nat_lt}
use Rattle.std.proofs.Math.ListN.{get_or-append}
use Rattle.std.proofs.Math.Seq.{get_or-append_seam}
use Rattle.std.proofs.lemmas.Bool.{and_parts, cases_lt, eq-eqb, eqb-true, ltb-false, or_parts}
use Rattle.std.proofs.lemmas.Option.{slice_get-get_or}
use Rattle.std.proofs.lemmas.List.Elements.{All-nil, All-cons, All-head, All-weaker}
use Rattle.std.specs.Int.Signed.{≤ℤ_refl}
use Rattle.ecpri_fragments.specs.Generations.{Fragment, Generation, begun, generations, generations_of, held_in, is_of, is_within, joined, of_id, seen, with_fragment}
use Rattle.ecpri_fragments.specs.Verdicts.{all_stand, end_of, first_of, has_greater, is_whole, piece_at, pieces_below, refused, standing, standing_before, stands, whole_to, with_one}
use Rattle.ecpri_fragments.specs.declared.verdict.Verdict.{Verdict}
use Rattle.replay_laws.specs.Gathered.{CameThen, HasFragment}
use Rattle.replay_laws.proofs.FallingLemmas.{AreFalling, falling_later}
use Rattle.replay_laws.proofs.GivenLemmas.{first_inside, later_inside}
use Rattle.fh_base.proofs.Orders.{at_most}

pub are_of_id : (ep seq : ℕ) (fs : List Fragment) → All (λ x. is_of ep seq x ≡ true) (of_id ep seq fs)
are_of_id ep seq [] = All-nil (λ (x : Fragment). is_of ep seq x ≡ true)
are_of_id ep seq (f ∷ fs) = go (is_of ep seq f) refl (are_of_id ep seq fs)
  where
    P : Fragment → Type 0
    P x = is_of ep seq x ≡ true

    go : (b : Bool) → is_of ep seq f ≡ b → All (λ x. is_of ep seq x ≡ true) (of_id ep seq fs)
        → All (λ x. is_of ep seq x ≡ true) (if b then f ∷ of_id ep seq fs else of_id ep seq fs)
    go true is rest = All-cons (λ (x : Fragment). is_of ep seq x ≡ true) f (of_id ep seq fs) is rest
    go false is rest = rest

-- ---- in the order of time

falling_ids : (clock : ℤ) (ep seq : ℕ) (fs : List Fragment) → AreFalling clock fs → AreFalling clock (of_id ep seq fs)
falling_ids clock ep seq [] h = tt
falling_ids clock ep seq (f ∷ fs) h = go (is_of ep seq f) (falling_ids f.at ep seq fs h.1)
  where
    go : (b : Bool) → AreFalling f.at (of_id ep seq fs) → AreFalling clock (if b then f ∷ of_id ep seq fs else of_id ep seq fs)
    go true rest = (h.0, rest)
    go false rest = falling_later f.at clock (of_id ep seq fs) h.0 rest

abbrev LastFalls : ℤ → List Generation → Type 0
LastFalls clock [] = Unit {0}
LastFalls clock (g ∷ gs) = AreFalling clock g.held

one_falls : (hold clock : ℤ) (f : Fragment) (gs : List Generation) → f.at ≤ℤ clock → LastFalls f.at gs → LastFalls clock (with_fragment hold f gs)
one_falls hold clock f [] order h = (order, tt)
one_falls hold clock f (g ∷ gs) order h = go (is_within hold g.start f.at)
  where
    go : (b : Bool) → LastFalls clock (if b then joined f g ∷ gs else begun f ∷ g ∷ gs)
    go true = (order, h)
    go false = (order, tt)

last_falls : (hold clock : ℤ) (fs : List Fragment) → AreFalling clock fs → LastFalls clock (generations hold fs)
last_falls hold clock [] h = tt
last_falls hold clock (f ∷ fs) h = one_falls hold clock f (generations hold fs) h.0 (last_falls hold f.at fs h.1)

held_falls : (hold clock at : ℤ) (gs : List Generation) → LastFalls clock gs → AreFalling clock (held_in hold at gs)
held_falls hold clock at [] h = tt
held_falls hold clock at (g ∷ gs) h = go (is_within hold g.start at)
  where
    go : (b : Bool) → AreFalling clock (if b then g.held else [])
    go true = h
    go false = tt

standing_falls : (clock : ℤ) (held : List Fragment) → AreFalling clock held → AreFalling clock (standing held)
standing_falls clock [] h = tt
standing_falls clock (f ∷ held) h = go (refused (standing held) f) (standing_falls f.at held h.1)
  where
    go : (o : Option Verdict) → AreFalling f.at (standing held) → AreFalling clock (with_one o f (standing held))
    go (Some v) rest = falling_later f.at clock (standing held) h.0 rest
    go None rest = (h.0, rest)

pub stood_falls : (hold clock : ℤ) (f : Fragment) (earlier : List Fragment) → AreFalling clock earlier → AreFalling clock (standing_before hold f earlier)
stood_falls hold clock f earlier h =
    standing_falls clock (seen hold f earlier)
    (held_falls hold clock f.at (generations_of hold f.ep f.seq earlier)
    (last_falls hold clock (of_id f.ep f.seq earlier) (falling_ids clock f.ep f.seq earlier h)))

-- none was received before the first of them
pub none_before : (f : Fragment) (s : List Fragment) → AreFalling f.at s → All (λ x. first_of (f ∷ s) ≤ℤ x.at) (f ∷ s)
none_before f [] h = All-cons (λ (x : Fragment). f.at ≤ℤ x.at) f [] (≤ℤ_refl f.at) (All-nil (λ (x : Fragment). f.at ≤ℤ x.at))
none_before f (g ∷ s) h =
    let P : Fragment → Type 0 = λ x. first_of (g ∷ s) ≤ℤ x.at in
    let rest : All P (g ∷ s) = none_before g s h.1 in
    All-cons P f (g ∷ s) (at_most (first_of (g ∷ s)) g.at f.at (All-head P g s rest) h.0) rest

-- nor after the clock
pub none_after : (clock : ℤ) (s : List Fragment) → AreFalling clock s → All (λ x. x.at ≤ℤ clock) s
none_after clock [] h = All-nil (λ (x : Fragment). x.at ≤ℤ clock)
none_after clock (f ∷ s) h =
    let P : Fragment → Type 0 = λ x. x.at ≤ℤ clock in
    All-cons P f s h.0 (later_all (none_after f.at s h.1))
  where
    later_all : All (λ x. x.at ≤ℤ f.at) s → All (λ x. x.at ≤ℤ clock) s
    later_all below = All-weaker (λ (x : Fragment). x.at ≤ℤ f.at) (λ (x : Fragment). x.at ≤ℤ clock) (λ x is. at_most x.at f.at clock is h.0) s below

pub first_there : (f : Fragment) (s : List Fragment) → CameThen (f ∷ s) (first_of (f ∷ s))
first_there f [] = record { fragment = f; there = first_inside f []; came = refl }
first_there f (g ∷ s) =
    let r = first_there g s in
    record { fragment = r.fragment; there = later_inside f r.fragment (g ∷ s) r.there; came = r.came }

-- ---- the pieces of a whole message

stands_at : (s : List Fragment) (k : ℕ) → stands s k ≡ true → HasFragment s k
stands_at [] k h = absurd cc
stands_at (a ∷ s) k h = go (a.sub == k) refl h (stands_at s k)
  where
    go : (b : Bool) → (a.sub == k) ≡ b → is_some (let o : Option (List ℕ) = if b then Some a.bytes else piece_at s k in o) ≡ true
        → (stands s k ≡ true → HasFragment s k) → HasFragment (a ∷ s) k
    go true is h rest = record { fragment = a; there = first_inside a s; sub_is = eqb-true a.sub k is }
    go false is h rest =
        let r = rest h in record { fragment = r.fragment; there = later_inside a r.fragment s r.there; sub_is = r.sub_is }

one_stands : (s : List Fragment) (n k : ℕ) → all_stand s n ≡ true → k < n → stands s k ≡ true
one_stands s zero k all below = absurd (omega arith)
one_stands s (suc n) k all below =
    let parts = and_parts (stands s n) (all_stand s n) all in
    elim (cases_lt k n) [
      | inl less ↦ one_stands s n k parts.1 less
      | inr most ↦ let e : k ≡ n = omega arith in ap (stands s) e ∙ parts.0
    ]

pub length-pieces : (s : List Fragment) (n : ℕ) → length (pieces_below s n) ≡ n
length-pieces s zero = refl
length-pieces s (suc n) = omega (arith, length-append (pieces_below s n) (unwrap_or (piece_at s n) [] ∷ []), length-pieces s n)

get_or-pieces : (s : List Fragment) (n k : ℕ) → k < n → get_or (pieces_below s n) k [] ≡ unwrap_or (piece_at s k) []
get_or-pieces s zero k h = absurd (omega arith)
get_or-pieces s (suc n) k h =
    let before = pieces_below s n in
    let here : List ℕ = unwrap_or (piece_at s n) [] in
    elim (cases_lt k n) [
      | inl less ↦ get_or-append before (here ∷ []) [] k (omega (arith, length-pieces s n)) ∙ get_or-pieces s n k less
      | inr most ↦
          let e : k ≡ n = omega arith in
          rw e (ap (λ (i : ℕ). get_or (before ++ here ∷ []) i []) (sym (length-pieces s n)) ∙ get_or-append_seam before here [] [])
    ]

-- the fragment with E = 1
pub record EndsWith (s : List Fragment) : Type 0 where
  pub fragment : Fragment
  pub there : Contains s fragment
  pub last : fragment.last ≡ true
  pub end : end_of s ≡ Some fragment.sub
  pub stand : all_stand s (fragment.sub + 1) ≡ true

the_end : (s all : List Fragment) → whole_to all (end_of s) ≡ true → (x : Fragment) × Contains s x × (x.last ≡ true) × (end_of s ≡ Some x.sub) × (all_stand all (x.sub + 1) ≡ true)
the_end [] all h = absurd cc
the_end (a ∷ s) all h = go a.last refl h (the_end s all)
  where
    go : (b : Bool) → a.last ≡ b → whole_to all (if b then Some a.sub else end_of s) ≡ true
        → (whole_to all (end_of s) ≡ true → (x : Fragment) × Contains s x × (x.last ≡ true) × (end_of s ≡ Some x.sub) × (all_stand all (x.sub + 1) ≡ true))
        → (x : Fragment) × Contains (a ∷ s) x × (x.last ≡ true) × ((if a.last then Some a.sub else end_of s) ≡ Some x.sub) × (all_stand all (x.sub + 1) ≡ true)
    go true is h rest = (a, first_inside a s, is, ap (λ (b : Bool). if b then Some a.sub else end_of s) is, h)
    go false is h rest =
        let r = rest h in (r.0, later_inside a r.0 s r.1, r.2, ap (λ (b : Bool). if b then Some a.sub else end_of s) is ∙ r.3, r.4)

pub ends_with : (s : List Fragment) → is_whole s ≡ true → EndsWith s
ends_with s h = let r = the_end s s h in record { fragment = r.0; there = r.1; last = r.2; end = r.3; stand = r.4 }

-- none beyond it
pub all_up_to : (s : List Fragment) (e : ℕ) → has_greater s e ≡ false → All (λ x. x.sub ≤ e) s
all_up_to [] e h = All-nil (λ (x : Fragment). x.sub ≤ e)
all_up_to (a ∷ s) e h =
    let parts = or_parts (nat_lt e a.sub) (has_greater s e) h in
    All-cons (λ (x : Fragment). x.sub ≤ e) a s (ltb-false e a.sub parts.0) (all_up_to s e parts.1)

pub has_fragment : (s : List Fragment) (n k : ℕ) → all_stand s n ≡ true → k < n → HasFragment s k
has_fragment s n k all below = stands_at s k (one_stands s n k all below)

-- no two of one subsequence id are stored together
abbrev IsPiece : List Fragment → Fragment → Type 0
IsPiece s x = piece_at s x.sub ≡ Some x.bytes

unrefused : (x y : Bool) (v : Verdict) (o : Option Verdict) → (if x || y then Some v else o) ≡ None → y ≡ false
unrefused true y v o h = absurd cc
unrefused false true v o h = absurd cc
unrefused false false v o h = refl

apart : false ≡ true → ⊥
apart h = cc

one_apart : (a : Fragment) (s : List Fragment) → stands s a.sub ≡ false → (x : Fragment) → IsPiece s x → IsPiece (a ∷ s) x
one_apart a s free x is = go (a.sub == x.sub) refl
  where
    go : (b : Bool) → (a.sub == x.sub) ≡ b → IsPiece (a ∷ s) x
    go false other = ap (λ (b : Bool). if b then Some a.bytes else piece_at s x.sub) other ∙ is
    go true same =
        absurd (apart (sym free ∙ ap (stands s) (eqb-true a.sub x.sub same) ∙ ap (λ (o : Option (List ℕ)). is_some o) is))

one_piece : (a : Fragment) (s : List Fragment) → stands s a.sub ≡ false → All (IsPiece s) s → All (IsPiece (a ∷ s)) (a ∷ s)
one_piece a s free all =
    All-cons (IsPiece (a ∷ s)) a s (ap (λ (b : Bool). if b then Some a.bytes else piece_at s a.sub) (eq-eqb a.sub a.sub refl))
    (All-weaker (IsPiece s) (IsPiece (a ∷ s)) (one_apart a s free) s all)

pub are_pieces : (held : List Fragment) → All (IsPiece (standing held)) (standing held)
are_pieces [] = All-nil (IsPiece [])
are_pieces (a ∷ held) = go (refused (standing held) a) refl (are_pieces held)
  where
    go : (o : Option Verdict) → refused (standing held) a ≡ o → All (IsPiece (standing held)) (standing held)
        → All (IsPiece (with_one o a (standing held))) (with_one o a (standing held))
    go (Some v) is all = all
    go None is all = one_piece a (standing held) (unrefused (is_whole (standing held)) _ _ _ is) all

-- so each of them is its piece of the message
pub piece_of : (s : List Fragment) (pieces : List (List ℕ)) (e : ℕ) → pieces ≡ pieces_below s (e + 1) → (x : Fragment) → x.sub ≤ e → IsPiece s x
    → slice_get pieces x.sub ≡ Some x.bytes
piece_of s pieces e are x low is =
    ap (λ (ps : List (List ℕ)). slice_get ps x.sub) are
    ∙ slice_get-get_or (pieces_below s (e + 1)) x.sub [] (omega (arith, low, length-pieces s (e + 1)))
    ∙ ap (λ (p : List ℕ). Some p) (get_or-pieces s (e + 1) x.sub (omega (arith, low)) ∙ ap (λ (o : Option (List ℕ)). unwrap_or o []) is)
