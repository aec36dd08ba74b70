-- The generations, newest first, are the one cut of the arrivals.
use Rattle.std.proofs.Common.{◌≡◌, Bool, true, false, cond, List, [], ◌∷◌, ◌++◌, reverse, refl, sym, ap, ◌∙◌, subst, ℤ, append_assoc, append-nil}
use Rattle.std.proofs.lemmas.Grind.{reverse_onto}
use Rattle.ecpri_fragments.specs.Generations.{Fragment, Generation, is_within, with_fragment, generations, begun, joined}
use Rattle.ecpri_fragments.specs.Cut.{AllWithin, IsGeneration, BeginsAfter, AreGenerations, IsCut, oldest_first, IsStart, StartsWithFirst}
use Rattle.ecpri_fragments.specs.Pieces.{joined as joined_up}

reverse_cons : (a : Fragment) (xs : List Fragment) → reverse (a ∷ xs) ≡ reverse xs ++ a ∷ []
reverse_cons a xs = reverse_onto xs a []

-- pieces after others, and one after them
joined_append : {X : Type 0} (xs ys : List (List X)) → joined_up (xs ++ ys) ≡ joined_up xs ++ joined_up ys
joined_append [] ys = refl
joined_append (x ∷ xs) ys = rw (joined_append xs ys) (sym (append_assoc x (joined_up xs) (joined_up ys)))

pub joined_one : {X : Type 0} (xs : List (List X)) (y : List X) → joined_up (xs ++ y ∷ []) ≡ joined_up xs ++ y
joined_one {X = X} xs y = joined_append xs (y ∷ []) ∙ ap (λ (z : List X). joined_up xs ++ z) (append-nil y)

-- all fragments are there, in their order
one_more : (hold : ℤ) (a : Fragment) (gs : List Generation) → joined_up (oldest_first (with_fragment hold a gs)) ≡ joined_up (oldest_first gs) ++ a ∷ []
one_more hold a [] = refl
one_more hold a (g ∷ gs) = go (is_within hold g.start a.at)
  where
    go : (w : Bool) → joined_up (oldest_first (cond w (joined a g ∷ gs) (begun a ∷ g ∷ gs))) ≡ joined_up (oldest_first (g ∷ gs)) ++ a ∷ []
    go true =
        joined_one (oldest_first gs) (reverse (a ∷ g.held))
        ∙ ap (λ (z : List Fragment). joined_up (oldest_first gs) ++ z) (reverse_cons a g.held)
        ∙ sym (append_assoc (joined_up (oldest_first gs)) (reverse g.held) (a ∷ []))
        ∙ ap (λ (z : List Fragment). z ++ a ∷ []) (sym (joined_one (oldest_first gs) (reverse g.held)))
    go false = joined_one (oldest_first (g ∷ gs)) (a ∷ [])

all_there : (hold : ℤ) (arrivals : List Fragment) → joined_up (oldest_first (generations hold arrivals)) ≡ reverse arrivals
all_there hold [] = refl
all_there hold (a ∷ earlier) =
    one_more hold a (generations hold earlier) ∙ ap (λ (z : List Fragment). z ++ a ∷ []) (all_there hold earlier) ∙ sym (reverse_cons a earlier)

-- what is known of each generation
record IsFormed (hold : ℤ) (g : Generation) : Type 0 where
  first : Fragment
  more : List Fragment
  is : reverse g.held ≡ first ∷ more
  start : g.start ≡ first.at
  within : AllWithin hold first.at more

abbrev IsAfter : ℤ → Generation → List Generation → Type 0
IsAfter hold g [] = Unit {0}
IsAfter hold g (before ∷ gs) = is_within hold before.start g.start ≡ false

data AreFormed (hold : ℤ) : List Generation → Type 0 where
  none : AreFormed hold []
  last : (g : Generation) (gs : List Generation) → IsFormed hold g → IsAfter hold g gs → AreFormed hold gs → AreFormed hold (g ∷ gs)

within_more : (hold start : ℤ) (more : List Fragment) (a : Fragment) → AllWithin hold start more → is_within hold start a.at ≡ true → AllWithin hold start (more ++ a ∷ [])
within_more hold start [] a h e = (e, tt)
within_more hold start (b ∷ more) a h e = (h.0, within_more hold start more a h.1 e)

form_joined : (hold : ℤ) (a : Fragment) (g : Generation) → IsFormed hold g → is_within hold g.start a.at ≡ true → IsFormed hold (joined a g)
form_joined hold a g f e = record {
  first = f.first;
  more = f.more ++ a ∷ [];
  is = reverse_cons a g.held ∙ ap (λ (z : List Fragment). z ++ a ∷ []) f.is;
  start = f.start;
  within = within_more hold f.first.at f.more a f.within (subst (λ (t : ℤ). is_within hold t a.at ≡ true) f.start e);
}

form_begun : (hold : ℤ) (a : Fragment) → IsFormed hold (begun a)
form_begun hold a = record { first = a; more = []; is = refl; start = refl; within = tt }

after_same : (hold : ℤ) (a : Fragment) (g : Generation) (gs : List Generation) → IsAfter hold g gs → IsAfter hold (joined a g) gs
after_same hold a g [] h = tt
after_same hold a g (o ∷ gs) h = h

form_more : (hold : ℤ) (a : Fragment) (gs : List Generation) → AreFormed hold gs → AreFormed hold (with_fragment hold a gs)
form_more hold a [] none = last (begun a) [] (form_begun hold a) tt none
form_more hold a (_ ∷ _) (last g gs f o r) = go (is_within hold g.start a.at) refl
  where
    go : (w : Bool) → is_within hold g.start a.at ≡ w → AreFormed hold (cond w (joined a g ∷ gs) (begun a ∷ g ∷ gs))
    go true e = last (joined a g) gs (form_joined hold a g f e) (after_same hold a g gs o) r
    go false e = last (begun a) (g ∷ gs) (form_begun hold a) e (last g gs f o r)

formed : (hold : ℤ) (arrivals : List Fragment) → AreFormed hold (generations hold arrivals)
formed hold [] = none
formed hold (a ∷ earlier) = form_more hold a (generations hold earlier) (formed hold earlier)

-- so the generations are those of the rule
are_more : (hold : ℤ) (xs : List (List Fragment)) (y g : List Fragment) → AreGenerations hold (xs ++ y ∷ []) → BeginsAfter hold y g → IsGeneration hold g → AreGenerations hold ((xs ++ y ∷ []) ++ g ∷ [])
are_more hold [] y g h b i = ((h, b), i)
are_more hold (x ∷ []) y g h b i = (h.0, ((h.1, b), i))
are_more hold (x ∷ z ∷ xs) y g h b i = (h.0, are_more hold (z ∷ xs) y g h.1 b i)

is_generation : (hold : ℤ) (g : Generation) → IsFormed hold g → IsGeneration hold (reverse g.held)
is_generation hold g f = subst (IsGeneration hold) (sym f.is) f.within

begins_after : (hold : ℤ) (o g : Generation) → IsFormed hold o → IsFormed hold g → is_within hold o.start g.start ≡ false → BeginsAfter hold (reverse o.held) (reverse g.held)
begins_after hold o g f h e = rw (f.is, h.is) (rw (f.start, h.start) at e)

are_those : (hold : ℤ) (gs : List Generation) → AreFormed hold gs → AreGenerations hold (oldest_first gs)
are_those hold [] none = tt
are_those hold (_ ∷ _) (last g [] f o r) = is_generation hold g f
are_those hold (_ ∷ _) (last g (_ ∷ _) f o (last h hs i p r)) =
    are_more hold (oldest_first hs) (reverse h.held) (reverse g.held) (are_those hold (h ∷ hs) (last h hs i p r)) (begins_after hold h g i f o) (is_generation hold g f)

pub is_cut : (hold : ℤ) (arrivals : List Fragment) → IsCut hold (reverse arrivals) (oldest_first (generations hold arrivals))
is_cut hold arrivals = record { all = all_there hold arrivals; generations = are_those hold (generations hold arrivals) (formed hold arrivals) }

start_all : (hold : ℤ) (gs : List Generation) → AreFormed hold gs → StartsWithFirst gs
start_all hold [] none = tt
start_all hold (_ ∷ _) (last g gs f o r) = (subst (IsStart g.start) (sym f.is) f.start, start_all hold gs r)

pub starts : (hold : ℤ) (arrivals : List Fragment) → StartsWithFirst (generations hold arrivals)
starts hold arrivals = start_all hold (generations hold arrivals) (formed hold arrivals)

-- There is no other cut.
abbrev NotWithin : ℤ → ℤ → List Fragment → Type 0
NotWithin hold start [] = Unit {0}
NotWithin hold start (b ∷ rest) = is_within hold start b.at ≡ false

record Same (xs ys us vs : List Fragment) : Type 0 where
  front : xs ≡ ys
  back : us ≡ vs

head_same : (a b : Fragment) (xs ys : List Fragment) → a ∷ xs ≡ b ∷ ys → a ≡ b
head_same a b xs ys e = cc

tail_same : (a b : Fragment) (xs ys : List Fragment) → a ∷ xs ≡ b ∷ ys → xs ≡ ys
tail_same a b xs ys e = cc

split_once : (hold start : ℤ) (xs ys us vs : List Fragment) → AllWithin hold start xs → AllWithin hold start ys → NotWithin hold start us → NotWithin hold start vs → xs ++ us ≡ ys ++ vs → Same xs ys us vs
split_once hold start [] [] us vs a b c d e = record { front = refl; back = e }
split_once hold start [] (y ∷ ys) us vs a b c d e =
    let f : is_within hold start y.at ≡ false = subst (NotWithin hold start) e c in
    absurd (cc (f, b.0))
split_once hold start (x ∷ xs) [] us vs a b c d e =
    let f : is_within hold start x.at ≡ false = subst (NotWithin hold start) (sym e) d in
    absurd (cc (f, a.0))
split_once hold start (x ∷ xs) (y ∷ ys) us vs a b c d e =
    let h : x ≡ y = head_same x y (xs ++ us) (ys ++ vs) e in
    let r = split_once hold start xs ys us vs a.1 b.1 c d (tail_same x y (xs ++ us) (ys ++ vs) e) in
    record { front = rw (h, r.front) refl; back = r.back }

-- the first generation, and what follows it
first_of_cut : (hold : ℤ) (a : Fragment) (more : List Fragment) (gs : List (List Fragment)) → AreGenerations hold ((a ∷ more) ∷ gs) → AllWithin hold a.at more
first_of_cut hold a more [] h = h
first_of_cut hold a more (g ∷ gs) h = h.0.0

rest_of_cut : (hold : ℤ) (g : List Fragment) (gs : List (List Fragment)) → AreGenerations hold (g ∷ gs) → AreGenerations hold gs
rest_of_cut hold g [] h = tt
rest_of_cut hold g (n ∷ gs) h = h.1

follows : (hold : ℤ) (a : Fragment) (more : List Fragment) (gs : List (List Fragment)) → AreGenerations hold ((a ∷ more) ∷ gs) → NotWithin hold a.at (joined_up gs)
follows hold a more [] h = tt
follows hold a more ([] ∷ gs) h = absurd h.0.1
follows hold a more ((b ∷ next) ∷ gs) h = h.0.1

no_empty : (hold : ℤ) (gs : List (List Fragment)) → AreGenerations hold ([] ∷ gs) → ⊥
no_empty hold [] h = h
no_empty hold (g ∷ gs) h = h.0.0

same_cut : (hold : ℤ) (gs hs : List (List Fragment)) → AreGenerations hold gs → AreGenerations hold hs → joined_up gs ≡ joined_up hs → gs ≡ hs
same_cut hold [] [] p q e = refl
same_cut hold [] ([] ∷ hs) p q e = absurd (no_empty hold hs q)
same_cut hold [] ((b ∷ ys) ∷ hs) p q e = absurd (cc)
same_cut hold ([] ∷ gs) hs p q e = absurd (no_empty hold gs p)
same_cut hold ((a ∷ xs) ∷ gs) [] p q e = absurd (cc)
same_cut hold ((a ∷ xs) ∷ gs) ([] ∷ hs) p q e = absurd (no_empty hold hs q)
same_cut hold ((a ∷ xs) ∷ gs) ((b ∷ ys) ∷ hs) p q e =
    let h : a ≡ b = head_same a b (xs ++ joined_up gs) (ys ++ joined_up hs) e in
    let t = tail_same a b (xs ++ joined_up gs) (ys ++ joined_up hs) e in
    let y : AllWithin hold a.at ys = subst (λ (c : Fragment). AllWithin hold c.at ys) (sym h) (first_of_cut hold b ys hs q) in
    let v : NotWithin hold a.at (joined_up hs) = subst (λ (c : Fragment). NotWithin hold c.at (joined_up hs)) (sym h) (follows hold b ys hs q) in
    let r = split_once hold a.at xs ys (joined_up gs) (joined_up hs) (first_of_cut hold a xs gs p) y (follows hold a xs gs p) v t in
    let i = same_cut hold gs hs (rest_of_cut hold (a ∷ xs) gs p) (rest_of_cut hold (b ∷ ys) hs q) r.back in
    rw (h, r.front, i) refl

pub only : (hold : ℤ) (arrivals : List Fragment) (gs hs : List (List Fragment)) → IsCut hold arrivals gs → IsCut hold arrivals hs → gs ≡ hs
only hold arrivals gs hs p q = same_cut hold gs hs p.generations q.generations (p.all ∙ sym q.all)
