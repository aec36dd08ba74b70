-- The runs of two lists, where no element of the second goes on with one of the first.
use Rattle.std.proofs.Common.{◌≡◌, ℕ, Bool, true, false, if◌then◌else◌, List, [], ◌∷◌, ◌++◌, refl, ap, ◌∙◌}
use Rattle.std.specs.List.{AllByRecursion}
use Rattle.std.proofs.lemmas.List.Concat.{flat_map-append}
use Rattle.explain_model.specs.declared.values.ExplainLine.{ExplainLine}
use Rattle.explain_model.specs.Pieces.{pieces, with_first}
use Rattle.explain_heard.specs.Runs.{lines_of_runs, piece_line, run_lines}

module _ {A : Type 0} (related : A → A → Bool) where
  -- no element of the second list goes on with one of the first
  abbrev pub AreUnrelated : List A → List A → Type 0
  AreUnrelated xs ys = AllByRecursion (λ x. AllByRecursion (λ y. related x y ≡ false) ys) xs

  parted_by : (x y : A) (ys : List A) (ps : List (List A)) → related x y ≡ false → with_first related x ((y ∷ ys) ∷ ps) ≡ (x ∷ []) ∷ (y ∷ ys) ∷ ps
  parted_by x y ys ps h = ap (λ (b : Bool). let o : List (List A) = if b then (x ∷ y ∷ ys) ∷ ps else (x ∷ []) ∷ (y ∷ ys) ∷ ps in o) h

  parted : (x y : A) (ps : List (List A)) → related x y ≡ false → with_first related x (with_first related y ps) ≡ (x ∷ []) ∷ with_first related y ps
  parted x y [] h = parted_by x y [] [] h
  parted x y ([] ∷ ps) h = parted_by x y [] ps h
  parted x y ((z ∷ zs) ∷ ps) h = one (related y z)
    where
      one : (b : Bool) → with_first related x (let o : List (List A) = if b then (y ∷ z ∷ zs) ∷ ps else (y ∷ []) ∷ (z ∷ zs) ∷ ps in o)
          ≡ (x ∷ []) ∷ (let o : List (List A) = if b then (y ∷ z ∷ zs) ∷ ps else (y ∷ []) ∷ (z ∷ zs) ∷ ps in o)
      one true = parted_by x y (z ∷ zs) ps h
      one false = parted_by x y [] ((z ∷ zs) ∷ ps) h

  before : (x : A) (p : List A) (ps qs : List (List A)) → with_first related x ((p ∷ ps) ++ qs) ≡ with_first related x (p ∷ ps) ++ qs
  before x [] ps qs = refl
  before x (y ∷ ys) ps qs = one (related x y)
    where
      one : (b : Bool) → (let o : List (List A) = if b then (x ∷ y ∷ ys) ∷ (ps ++ qs) else (x ∷ []) ∷ (y ∷ ys) ∷ (ps ++ qs) in o)
          ≡ (let o : List (List A) = if b then (x ∷ y ∷ ys) ∷ ps else (x ∷ []) ∷ (y ∷ ys) ∷ ps in o) ++ qs
      one true = refl
      one false = refl

  before_both : (x y : A) (ps qs : List (List A)) → with_first related x (with_first related y ps ++ qs) ≡ with_first related x (with_first related y ps) ++ qs
  before_both x y [] qs = before x (y ∷ []) [] qs
  before_both x y ([] ∷ ps) qs = before x (y ∷ []) ps qs
  before_both x y ((z ∷ zs) ∷ ps) qs = one (related y z)
    where
      one : (b : Bool) → with_first related x ((let o : List (List A) = if b then (y ∷ z ∷ zs) ∷ ps else (y ∷ []) ∷ (z ∷ zs) ∷ ps in o) ++ qs)
          ≡ with_first related x (let o : List (List A) = if b then (y ∷ z ∷ zs) ∷ ps else (y ∷ []) ∷ (z ∷ zs) ∷ ps in o) ++ qs
      one true = before x (y ∷ z ∷ zs) ps qs
      one false = before x (y ∷ []) ((z ∷ zs) ∷ ps) qs

  pieces_append : (xs ys : List A) → AreUnrelated xs ys → pieces related (xs ++ ys) ≡ pieces related xs ++ pieces related ys
  unfolding pieces
  pieces_append [] ys h = refl
  pieces_append (x ∷ []) [] h = refl
  pieces_append (x ∷ []) (y ∷ ys) h = parted x y (pieces related ys) h.0.0
  pieces_append (x ∷ z ∷ xs) ys h = ap (with_first related x) (pieces_append (z ∷ xs) ys h.1) ∙ before_both x z (pieces related xs) (pieces related ys)

  pub lines_append : (run_line : A → ℕ → ExplainLine) (xs ys : List A) → AreUnrelated xs ys
      → run_lines related run_line (xs ++ ys) ≡ run_lines related run_line xs ++ run_lines related run_line ys
  lines_append run_line xs ys h = ap (lines_of_runs run_line) (pieces_append xs ys h) ∙ flat_map-append (piece_line run_line) (pieces related xs) (pieces related ys)

  one_unrelated : (Q : A → Type 0) (x : A) → ((y : A) → Q y → related x y ≡ false) → (ys : List A) → AllByRecursion Q ys → AllByRecursion (λ y. related x y ≡ false) ys
  one_unrelated Q x none [] h = tt
  one_unrelated Q x none (y ∷ ys) h = (none y h.0, one_unrelated Q x none ys h.1)

  pub are_unrelated : (P Q : A → Type 0) → ((x y : A) → P x → Q y → related x y ≡ false) → (xs ys : List A) → AllByRecursion P xs → AllByRecursion Q ys → AreUnrelated xs ys
  are_unrelated P Q none [] ys h k = tt
  are_unrelated P Q none (x ∷ xs) ys h k = (one_unrelated Q x (λ y q. none x y h.0 q) ys k, are_unrelated P Q none xs ys h.1 k)

-- ---- the same relation

first_same : {A : Type 0} (r q : A → A → Bool) → ((a b : A) → r a b ≡ q a b) → (x : A) (ps : List (List A)) → with_first r x ps ≡ with_first q x ps
first_same r q same x [] = refl
first_same r q same x ([] ∷ ps) = refl
first_same {A} r q same x ((y ∷ ys) ∷ ps) = ap (λ (b : Bool). let o : List (List A) = if b then (x ∷ y ∷ ys) ∷ ps else (x ∷ []) ∷ (y ∷ ys) ∷ ps in o) (same x y)

pub pieces_same : {A : Type 0} (r q : A → A → Bool) → ((a b : A) → r a b ≡ q a b) → (xs : List A) → pieces r xs ≡ pieces q xs
unfolding pieces
pieces_same r q same [] = refl
pieces_same r q same (x ∷ xs) = ap (with_first r x) (pieces_same r q same xs) ∙ first_same r q same x (pieces q xs)
