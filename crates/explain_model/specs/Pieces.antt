-- A list in pieces: each element but the first of a piece is related to the one before it, and no piece can be longer.
use Rattle.std.specs.Prelude.{◌≡◌, Bool, true, false, not, IsTrue, if◌then◌else◌, List, [], ◌∷◌, ◌++◌, ⊤}
use Rattle.std.specs.List.{AllByRecursion}
use Rattle.ecpri_fragments.specs.Pieces.{joined}

module _ {A : Type 0} (related : A → A → Bool) where
  -- x before these pieces: it is in the first of them, where the first element there is related to it
  abbrev pub with_first : A → List (List A) → List (List A)
  with_first x [] = (x ∷ []) ∷ []
  with_first x ([] ∷ ps) = (x ∷ []) ∷ ps
  with_first x ((y ∷ ys) ∷ ps) = if related x y then (x ∷ y ∷ ys) ∷ ps else (x ∷ []) ∷ (y ∷ ys) ∷ ps

  -- the maximal pieces of a list, in its order
  unfoldable pub pieces : List A → List (List A)
  pieces [] = []
  pieces (x ∷ xs) = with_first x (pieces xs)

  -- y is related to the last element of a piece, or the piece is empty
  abbrev pub goes_on : List A → A → Bool
  goes_on [] y = true
  goes_on (x ∷ []) y = related x y
  goes_on (x ∷ z ∷ xs) y = goes_on (z ∷ xs) y

  -- ---- what pieces are

  -- each element but the first is related to the one before it
  abbrev pub AreLinked : List A → Type 0
  AreLinked [] = ⊤
  AreLinked (x ∷ []) = ⊤
  AreLinked (x ∷ y ∷ xs) = IsTrue (related x y) × AreLinked (y ∷ xs)

  -- a piece and the next one: none is empty, and the first element of the next is not related to the last of the piece
  abbrev pub AreParted : List A → List A → Type 0
  AreParted p [] = ⊥
  AreParted [] (y ∷ ys) = ⊥
  AreParted (x ∷ xs) (y ∷ ys) = IsTrue (not (goes_on (x ∷ xs) y))

  abbrev pub AreMaximal : List (List A) → Type 0
  AreMaximal [] = ⊤
  AreMaximal (p ∷ []) = ⊤
  AreMaximal (p ∷ q ∷ ps) = AreParted p q × AreMaximal (q ∷ ps)

  -- it has an element
  abbrev pub HasFirst : List A → Type 0
  HasFirst [] = ⊥
  HasFirst (x ∷ xs) = ⊤

  pub record ArePiecesOf (xs : List A) (ps : List (List A)) : Type 0 where
    pub all : joined ps ≡ xs
    pub first : AllByRecursion HasFirst ps
    pub linked : AllByRecursion AreLinked ps
    pub maximal : AreMaximal ps

-- ---- the last piece is open, as long as elements follow; the others are closed

abbrev pub closed_pieces : {A : Type 0} → List (List A) → List (List A)
closed_pieces [] = []
closed_pieces (p ∷ []) = []
closed_pieces (p ∷ q ∷ ps) = p ∷ closed_pieces (q ∷ ps)

abbrev pub open_piece : {A : Type 0} → List (List A) → List A
open_piece [] = []
open_piece (p ∷ []) = p
open_piece (p ∷ q ∷ ps) = open_piece (q ∷ ps)

-- a list as the only one, where it has an element
abbrev pub as_piece : {A : Type 0} → List A → List (List A)
as_piece [] = []
as_piece (x ∷ xs) = (x ∷ xs) ∷ []

-- ---- laws

pub record PiecesAreRuns (A : Type 0) : Type 0 where
  -- what the pieces of a list are
  pub pieces_are : (related : A → A → Bool) (xs : List A) → ArePiecesOf related xs (pieces related xs)
  -- the closed ones and the open one are all
  pub split : (related : A → A → Bool) (xs : List A) → pieces related xs ≡ closed_pieces (pieces related xs) ++ as_piece (open_piece (pieces related xs))
  -- one more element goes on with the open piece, where it is related to the last element there
  pub on_closed : (related : A → A → Bool) (xs : List A) (y : A) → goes_on related (open_piece (pieces related xs)) y ≡ true
      → closed_pieces (pieces related (xs ++ y ∷ [])) ≡ closed_pieces (pieces related xs)
  pub on_open : (related : A → A → Bool) (xs : List A) (y : A) → goes_on related (open_piece (pieces related xs)) y ≡ true
      → open_piece (pieces related (xs ++ y ∷ [])) ≡ open_piece (pieces related xs) ++ y ∷ []
  -- else it closes that piece and is open itself
  pub off_closed : (related : A → A → Bool) (xs : List A) (y : A) → goes_on related (open_piece (pieces related xs)) y ≡ false
      → closed_pieces (pieces related (xs ++ y ∷ [])) ≡ closed_pieces (pieces related xs) ++ open_piece (pieces related xs) ∷ []
  pub off_open : (related : A → A → Bool) (xs : List A) (y : A) → goes_on related (open_piece (pieces related xs)) y ≡ false
      → open_piece (pieces related (xs ++ y ∷ [])) ≡ y ∷ []
