-- What lines of runs tell, element by element.
use Rattle.std.proofs.Common.{◌≡◌, ℕ, ◌+◌, Bool, true, List, [], ◌∷◌, ◌++◌, length, map, refl, sym, ap, ap₂, ◌∙◌}
use Rattle.std.proofs.lemmas.Grind.{flat_map-append}
use Rattle.std.proofs.lemmas.List.{map-append}
use Rattle.std.specs.List.{AllByRecursion, flat_map}
use Rattle.ecpri_fragments.specs.Pieces.{joined}
use Rattle.fh_base.specs.Lists.{each}
use Rattle.explain_model.specs.Pieces.{ArePiecesOf, AreLinked, pieces}

-- elements that differ in their PRB alone, which goes up by one from each to the next
module _ {A B K : Type 0} (related : A → A → Bool) (key : A → K) (prb : A → ℕ) (at : K → ℕ → B) (f : A → B)
    (is : (x : A) → at (key x) (prb x) ≡ f x) (goes : (x y : A) → related x y ≡ true → (key y ≡ key x) × (prb y ≡ prb x + 1)) where
  abbrev spread : K → ℕ → ℕ → List B
  spread k first count = each first count (λ n. at k n ∷ [])

  pub run_is : (x : A) (xs : List A) → AreLinked related (x ∷ xs) → spread (key x) (prb x) (length (x ∷ xs)) ≡ map f (x ∷ xs)
  unfolding each
  run_is x [] linked = ap (λ b. b ∷ []) (is x)
  run_is x (y ∷ ys) linked =
      let next = goes x y linked.0 in
      ap₂ ◌∷◌ (is x)
      (ap (λ (k : K). spread k (prb x + 1) (length (y ∷ ys))) (sym next.0)
      ∙ ap (λ n. spread (key y) n (length (y ∷ ys))) (sym next.1)
      ∙ run_is y ys linked.1)

  -- a line for each piece, of which each tells a run
  module _ {L : Type 0} (line : List A → List L) (tell : L → List B) (none : line [] ≡ [])
      (one : (x : A) (xs : List A) → flat_map tell (line (x ∷ xs)) ≡ spread (key x) (prb x) (length (x ∷ xs))) where
    piece_told : (p : List A) → AreLinked related p → flat_map tell (line p) ≡ map f p
    piece_told [] linked = ap (flat_map tell) none
    piece_told (x ∷ xs) linked = one x xs ∙ run_is x xs linked

    pieces_told : (ps : List (List A)) → AllByRecursion (AreLinked related) ps → flat_map tell (flat_map line ps) ≡ map f (joined ps)
    pieces_told [] linked = refl
    pieces_told (p ∷ ps) linked =
        flat_map-append tell (line p) (flat_map line ps)
        ∙ ap₂ ◌++◌ (piece_told p linked.0) (pieces_told ps linked.1)
        ∙ sym (map-append f p (joined ps))

    pub lines_tell : (xs : List A) → ArePiecesOf related xs (pieces related xs) → flat_map tell (flat_map line (pieces related xs)) ≡ map f xs
    lines_tell xs are = pieces_told (pieces related xs) are.linked ∙ ap (map f) are.all
