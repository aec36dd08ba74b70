-- The pieces of a list, and what one more element changes.
use Rattle.std.proofs.Common.{◌≡◌, Bool, true, false, IsTrue, List, [], ◌∷◌, ◌++◌, refl, sym, ap, subst, ◌∙◌}
use Rattle.std.specs.Prelude.{if◌then◌else◌, not, ⊤}
use Rattle.std.specs.List.{AllByRecursion}
use Rattle.ecpri_fragments.specs.Pieces.{joined}
use Rattle.explain_model.specs.Pieces.{with_first, pieces, goes_on, AreLinked, AreMaximal, HasFirst, ArePiecesOf, closed_pieces, open_piece, as_piece, PiecesAreRuns}

abbrev Holds : Bool → Type 0
Holds true = ⊤
Holds false = ⊥

module _ {A : Type 0} (related : A → A → Bool) where
  -- ---- what pieces are

  joined_first : (x : A) (ps : List (List A)) → joined (with_first related x ps) ≡ x ∷ joined ps
  joined_first x [] = refl
  joined_first x ([] ∷ ps) = refl
  joined_first x ((y ∷ ys) ∷ ps) = elim (related x y) as (λ b. joined (if b then (x ∷ y ∷ ys) ∷ ps else (x ∷ []) ∷ (y ∷ ys) ∷ ps) ≡ x ∷ y ∷ (ys ++ joined ps)) [ true ↦ refl | false ↦ refl ]

  all_joined : (xs : List A) → joined (pieces related xs) ≡ xs
  unfolding pieces
  all_joined [] = refl
  all_joined (x ∷ xs) = joined_first x (pieces related xs) ∙ ap (λ r. x ∷ r) (all_joined xs)

  have_first : (x : A) (ps : List (List A)) → AllByRecursion (HasFirst related) ps → AllByRecursion (HasFirst related) (with_first related x ps)
  have_first x [] h = (tt, tt)
  have_first x ([] ∷ ps) h = absurd h.0
  have_first x ((y ∷ ys) ∷ ps) h = elim (related x y) as (λ b. AllByRecursion (HasFirst related) (if b then (x ∷ y ∷ ys) ∷ ps else (x ∷ []) ∷ (y ∷ ys) ∷ ps)) [ true ↦ (tt, h.1) | false ↦ (tt, (tt, h.1)) ]

  all_first : (xs : List A) → AllByRecursion (HasFirst related) (pieces related xs)
  unfolding pieces
  all_first [] = tt
  all_first (x ∷ xs) = have_first x (pieces related xs) (all_first xs)

  linked_by : (x y : A) (ys : List A) (ps : List (List A)) (b : Bool) → related x y ≡ b → AllByRecursion (AreLinked related) ((y ∷ ys) ∷ ps)
      → AllByRecursion (AreLinked related) (if b then (x ∷ y ∷ ys) ∷ ps else (x ∷ []) ∷ (y ∷ ys) ∷ ps)
  linked_by x y ys ps true is h = ((is, h.0), h.1)
  linked_by x y ys ps false is h = (tt, h)

  have_linked : (x : A) (ps : List (List A)) → AllByRecursion (HasFirst related) ps → AllByRecursion (AreLinked related) ps → AllByRecursion (AreLinked related) (with_first related x ps)
  have_linked x [] f h = (tt, tt)
  have_linked x ([] ∷ ps) f h = absurd f.0
  have_linked x ((y ∷ ys) ∷ ps) f h = linked_by x y ys ps (related x y) refl h

  all_linked : (xs : List A) → AllByRecursion (AreLinked related) (pieces related xs)
  unfolding pieces
  all_linked [] = tt
  all_linked (x ∷ xs) = have_linked x (pieces related xs) (all_first xs) (all_linked xs)

  maximal_by : (x y : A) (ys : List A) (ps : List (List A)) (b : Bool) → related x y ≡ b → AreMaximal related ((y ∷ ys) ∷ ps)
      → AreMaximal related (if b then (x ∷ y ∷ ys) ∷ ps else (x ∷ []) ∷ (y ∷ ys) ∷ ps)
  maximal_by x y ys [] true is h = tt
  maximal_by x y ys ([] ∷ ps) true is h = absurd h.0
  maximal_by x y ys ((z ∷ zs) ∷ ps) true is h = h
  maximal_by x y ys ps false is h = (subst (λ b. IsTrue (not b)) (sym is) refl, h)

  have_maximal : (x : A) (ps : List (List A)) → AllByRecursion (HasFirst related) ps → AreMaximal related ps → AreMaximal related (with_first related x ps)
  have_maximal x [] f h = tt
  have_maximal x ([] ∷ ps) f h = absurd f.0
  have_maximal x ((y ∷ ys) ∷ ps) f h = maximal_by x y ys ps (related x y) refl h

  all_maximal : (xs : List A) → AreMaximal related (pieces related xs)
  unfolding pieces
  all_maximal [] = tt
  all_maximal (x ∷ xs) = have_maximal x (pieces related xs) (all_first xs) (all_maximal xs)

  pub are_pieces : (xs : List A) → ArePiecesOf related xs (pieces related xs)
  are_pieces xs = record { all = all_joined xs; first = all_first xs; linked = all_linked xs; maximal = all_maximal xs }

  -- ---- one more element

  -- after these pieces: in the last of them, where it is related to the last element there
  abbrev pub last_by : Bool → List A → A → List (List A)
  last_by true p y = (p ++ y ∷ []) ∷ []
  last_by false p y = p ∷ (y ∷ []) ∷ []

  abbrev pub with_last : List (List A) → A → List (List A)
  with_last [] y = (y ∷ []) ∷ []
  with_last (p ∷ []) y = last_by (goes_on related p y) p y
  with_last (p ∷ q ∷ ps) y = p ∷ with_last (q ∷ ps) y

  both_alone : (x y : A) (b : Bool) → (if b then (x ∷ y ∷ []) ∷ [] else (x ∷ []) ∷ (y ∷ []) ∷ []) ≡ last_by b (x ∷ []) y
  both_alone x y true = refl
  both_alone x y false = refl

  both_last : (x z : A) (zs : List A) (y : A) (b g : Bool) → related x z ≡ b → goes_on related (z ∷ zs) y ≡ g
      → with_first related x (last_by g (z ∷ zs) y) ≡ with_last (if b then (x ∷ z ∷ zs) ∷ [] else (x ∷ []) ∷ (z ∷ zs) ∷ []) y
  both_last x z zs y true true is goes = rw (is, goes) refl
  both_last x z zs y true false is goes = rw (is, goes) refl
  both_last x z zs y false true is goes = rw (is, goes) refl
  both_last x z zs y false false is goes = rw (is, goes) refl

  both_more : (x z : A) (zs q : List A) (ps : List (List A)) (y : A) (b : Bool)
      → (if b then (x ∷ z ∷ zs) ∷ with_last (q ∷ ps) y else (x ∷ []) ∷ (z ∷ zs) ∷ with_last (q ∷ ps) y)
      ≡ with_last (if b then (x ∷ z ∷ zs) ∷ q ∷ ps else (x ∷ []) ∷ (z ∷ zs) ∷ q ∷ ps) y
  both_more x z zs q ps y true = refl
  both_more x z zs q ps y false = refl

  both : (x : A) (ps : List (List A)) (y : A) → AllByRecursion (HasFirst related) ps → with_first related x (with_last ps y) ≡ with_last (with_first related x ps) y
  both x [] y h = both_alone x y (related x y)
  both x ([] ∷ ps) y h = absurd h.0
  both x ((z ∷ zs) ∷ []) y h = both_last x z zs y (related x z) (goes_on related (z ∷ zs) y) refl refl
  both x ((z ∷ zs) ∷ q ∷ ps) y h = both_more x z zs q ps y (related x z)

  pub one_more : (xs : List A) (y : A) → pieces related (xs ++ y ∷ []) ≡ with_last (pieces related xs) y
  unfolding pieces
  one_more [] y = refl
  one_more (x ∷ xs) y = ap (with_first related x) (one_more xs y) ∙ both x (pieces related xs) y (all_first xs)

  -- ---- the closed and the open ones

  split_of : (ps : List (List A)) → AllByRecursion (HasFirst related) ps → ps ≡ closed_pieces ps ++ as_piece (open_piece ps)
  split_of [] h = refl
  split_of ([] ∷ []) h = absurd h.0
  split_of ((x ∷ xs) ∷ []) h = refl
  split_of (p ∷ q ∷ ps) h = ap (λ r. p ∷ r) (split_of (q ∷ ps) h.1)

  pub split_pieces : (xs : List A) → pieces related xs ≡ closed_pieces (pieces related xs) ++ as_piece (open_piece (pieces related xs))
  split_pieces xs = split_of (pieces related xs) (all_first xs)

  closed_on : (ps : List (List A)) (y : A) → goes_on related (open_piece ps) y ≡ true → closed_pieces (with_last ps y) ≡ closed_pieces ps
  closed_on [] y is = refl
  closed_on (p ∷ []) y is = rw is refl
  closed_on (p ∷ q ∷ []) y is = rw is refl
  closed_on (p ∷ q ∷ r ∷ ps) y is = ap (λ l. p ∷ l) (closed_on (q ∷ r ∷ ps) y is)

  open_on : (ps : List (List A)) (y : A) → goes_on related (open_piece ps) y ≡ true → open_piece (with_last ps y) ≡ open_piece ps ++ y ∷ []
  open_on [] y is = refl
  open_on (p ∷ []) y is = rw is refl
  open_on (p ∷ q ∷ []) y is = rw is refl
  open_on (p ∷ q ∷ r ∷ ps) y is = open_on (q ∷ r ∷ ps) y is

  closed_off : (ps : List (List A)) (y : A) → goes_on related (open_piece ps) y ≡ false → closed_pieces (with_last ps y) ≡ closed_pieces ps ++ open_piece ps ∷ []
  closed_off [] y is = absurd (subst Holds is tt)
  closed_off (p ∷ []) y is = rw is refl
  closed_off (p ∷ q ∷ []) y is = rw is refl
  closed_off (p ∷ q ∷ r ∷ ps) y is = ap (λ l. p ∷ l) (closed_off (q ∷ r ∷ ps) y is)

  open_off : (ps : List (List A)) (y : A) → goes_on related (open_piece ps) y ≡ false → open_piece (with_last ps y) ≡ y ∷ []
  open_off [] y is = refl
  open_off (p ∷ []) y is = rw is refl
  open_off (p ∷ q ∷ []) y is = rw is refl
  open_off (p ∷ q ∷ r ∷ ps) y is = open_off (q ∷ r ∷ ps) y is

pub runs : (A : Type 0) → PiecesAreRuns A
runs A = record {
  pieces_are = λ related. are_pieces related;
  split = λ related. split_pieces related;
  on_closed = λ related xs y is. subst (λ ps. closed_pieces ps ≡ closed_pieces (pieces related xs)) (sym (one_more related xs y)) (closed_on related (pieces related xs) y is);
  on_open = λ related xs y is. subst (λ ps. open_piece ps ≡ open_piece (pieces related xs) ++ y ∷ []) (sym (one_more related xs y)) (open_on related (pieces related xs) y is);
  off_closed = λ related xs y is.
      subst (λ ps. closed_pieces ps ≡ closed_pieces (pieces related xs) ++ open_piece (pieces related xs) ∷ []) (sym (one_more related xs y)) (closed_off related (pieces related xs) y is);
  off_open = λ related xs y is. subst (λ ps. open_piece ps ≡ y ∷ []) (sym (one_more related xs y)) (open_off related (pieces related xs) y is);
}
