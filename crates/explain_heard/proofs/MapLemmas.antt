-- The runs of what items represent.
use Rattle.std.proofs.Common.{◌≡◌, ℕ, suc, Bool, true, false, if◌then◌else◌, List, [], ◌∷◌, ◌++◌, length, map, refl, ap, ◌∙◌}
use Rattle.explain_model.specs.declared.values.ExplainLine.{ExplainLine}
use Rattle.explain_model.specs.Pieces.{pieces, with_first}
use Rattle.explain_heard.specs.Runs.{lines_of_runs, piece_line, run_lines}

module _ {A B : Type 0} (f : A → B) where
  mapped_first : (related : B → B → Bool) (x : A) (ps : List (List A))
      → with_first related (f x) (map (map f) ps) ≡ map (map f) (with_first (λ a b. related (f a) (f b)) x ps)
  mapped_first related x [] = refl
  mapped_first related x ([] ∷ ps) = refl
  mapped_first related x ((y ∷ ys) ∷ ps) = one (related (f x) (f y))
    where
      one : (b : Bool) → (let zs : List (List B) = if b then (f x ∷ f y ∷ map f ys) ∷ map (map f) ps else (f x ∷ []) ∷ (f y ∷ map f ys) ∷ map (map f) ps in zs)
          ≡ map (map f) (let zs : List (List A) = if b then (x ∷ y ∷ ys) ∷ ps else (x ∷ []) ∷ (y ∷ ys) ∷ ps in zs)
      one true = refl
      one false = refl

  pub pieces_map : (related : B → B → Bool) (xs : List A) → pieces related (map f xs) ≡ map (map f) (pieces (λ a b. related (f a) (f b)) xs)
  unfolding pieces
  pieces_map related [] = refl
  pieces_map related (x ∷ xs) = ap (with_first related (f x)) (pieces_map related xs) ∙ mapped_first related x (pieces (λ a b. related (f a) (f b)) xs)

  same_length : (xs : List A) → length (map f xs) ≡ length xs
  same_length [] = refl
  same_length (x ∷ xs) = ap suc (same_length xs)

  piece_map : (run_line : B → ℕ → ExplainLine) (p : List A) → piece_line run_line (map f p) ≡ piece_line (λ a n. run_line (f a) n) p
  piece_map run_line [] = refl
  piece_map run_line (x ∷ xs) = ap (λ n. run_line (f x) n ∷ []) (same_length (x ∷ xs))

  lines_map : (run_line : B → ℕ → ExplainLine) (ps : List (List A)) → lines_of_runs run_line (map (map f) ps) ≡ lines_of_runs (λ a n. run_line (f a) n) ps
  lines_map run_line [] = refl
  lines_map run_line (p ∷ ps) = ap (λ l. l ++ lines_of_runs run_line (map (map f) ps)) (piece_map run_line p) ∙ ap (λ l. piece_line (λ a n. run_line (f a) n) p ++ l) (lines_map run_line ps)

  pub run_lines_map : (related : B → B → Bool) (run_line : B → ℕ → ExplainLine) (xs : List A)
      → run_lines related run_line (map f xs) ≡ run_lines (λ a b. related (f a) (f b)) (λ a n. run_line (f a) n) xs
  run_lines_map related run_line xs = ap (lines_of_runs run_line) (pieces_map related xs) ∙ lines_map run_line (pieces (λ a b. related (f a) (f b)) xs)
