-- Items that are put in loops: number by number, or element by element.
use Rattle.std.proofs.Common.{◌≡◌, ℕ, zero, suc, ◌+◌, ◌-◌, ◌<◌, ◌≤◌, Bool, List, [], ◌∷◌, ◌++◌, length, get_or, take, take-suc, drop, Option, refl, sym, ap, subst, ◌∙◌, append_assoc, append-nil, arith}
use Rattle.std.specs.List.{flat_map}
use Rattle.std.proofs.lemmas.List.Concat.{flat_map-append}
use Rattle.fh_base.specs.Lists.{each}
use Rattle.explain_model.specs.declared.values.ExplainLine.{ExplainLine}
use Rattle.explain_heard.specs.Runs.{HasPut, OpenRun, StopsPutting}
use Rattle.explain_heard.proofs.RunLemmas.{put_more, put_none, stops_after, stops_before}
use Rattle.fh_base.proofs.EachLemmas.{each_split}

each_alone : {A : Type 0} (k : ℕ) (f : ℕ → List A) → each k 1 f ≡ f k
unfolding each
each_alone k f = append-nil (f k)

pub each_next : {A : Type 0} (first k : ℕ) (f : ℕ → List A) → first ≤ k → each first (k + 1 - first) f ≡ each first (k - first) f ++ f k
each_next first k f le =
    let e : k + 1 - first ≡ (k - first) + 1 = omega arith in
    let g : first + (k - first) ≡ k = omega arith in
    ap (λ n. each first n f) e ∙ each_split first (k - first) 1 f ∙ ap (λ l. each first (k - first) f ++ l) (ap (λ n. each n 1 f) g ∙ each_alone k f)

pub each_all : {A : Type 0} (first k n : ℕ) (f : ℕ → List A) → first ≤ k → k < first + n → each first n f ≡ (each first (k - first) f ++ f k) ++ each (k + 1) (first + n - (k + 1)) f
each_all first k n f le lt =
    let e : n ≡ (k + 1 - first) + (first + n - (k + 1)) = omega arith in
    let g : first + (k + 1 - first) ≡ k + 1 = omega arith in
    ap (λ m. each first m f) e ∙ each_split first (k + 1 - first) (first + n - (k + 1)) f
    ∙ ap (λ m. each first (k + 1 - first) f ++ each m (first + n - (k + 1)) f) g
    ∙ ap (λ l. l ++ each (k + 1) (first + n - (k + 1)) f) (each_next first k f le)

module _ {T W : Type 0} (related : T → T → Bool) (run_line : T → ℕ → ExplainLine) (grew : W → List ExplainLine → W → Type 0) where
  pub each_none : (first : ℕ) (f : ℕ → List T) (k : ℕ) → k ≡ first → (o : Option (OpenRun T)) (out : W) → HasPut related run_line grew (each first (k - first) f) o out o out
  unfolding each
  each_none first f k is o out =
      let e : k - first ≡ 0 = omega (arith, is) in
      subst (λ n. HasPut related run_line grew (each first n f) o out o out) (sym e) (put_none related run_line grew o out)

  pub each_put : (first k : ℕ) (f : ℕ → List T) → first ≤ k → (a b c : Option (OpenRun T)) (out mid now : W)
      → HasPut related run_line grew (each first (k - first) f) a out b mid → HasPut related run_line grew (f k) b mid c now
      → HasPut related run_line grew (each first (k + 1 - first) f) a out c now
  each_put first k f le a b c out mid now h i =
      subst (λ l. HasPut related run_line grew l a out c now) (sym (each_next first k f le))
      (put_more related run_line grew (each first (k - first) f) (f k) a b c out mid now h i)

  pub each_stop : (stopped : W → ExplainLine → W → Type 0) (first k n : ℕ) (f : ℕ → List T) → first ≤ k → k < first + n → (a b : Option (OpenRun T)) (out mid now : W)
      → HasPut related run_line grew (each first (k - first) f) a out b mid → StopsPutting related run_line grew stopped (f k) b mid now
      → StopsPutting related run_line grew stopped (each first n f) a out now
  each_stop stopped first k n f le lt a b out mid now h i =
      subst (λ l. StopsPutting related run_line grew stopped l a out now) (sym (each_all first k n f le lt))
      (stops_before related run_line grew stopped (each first (k - first) f ++ f k) (each (k + 1) (first + n - (k + 1)) f) a out now
      (stops_after related run_line grew stopped (each first (k - first) f) (f k) a b out mid now h i))

  -- ---- element by element

  module _ {X : Type 0} (f : X → List T) where
    some_next : (xs : List X) (i : ℕ) (d : X) → i < length xs → flat_map f (take (i + 1) xs) ≡ flat_map f (take i xs) ++ f (get_or xs i d)
    some_next xs i d lt =
        let e : i + 1 ≡ suc i = omega arith in
        ap (λ n. flat_map f (take n xs)) e ∙ ap (flat_map f) (take-suc xs i d lt) ∙ flat_map-append f (take i xs) (get_or xs i d ∷ [])
        ∙ ap (λ l. flat_map f (take i xs) ++ l) (append-nil (f (get_or xs i d)))

    all_of : (xs : List X) (n : ℕ) → flat_map f xs ≡ flat_map f (take n xs) ++ flat_map f (drop n xs)
    all_of xs zero = refl
    all_of [] (suc n) = refl
    all_of (x ∷ xs) (suc n) = ap (λ l. f x ++ l) (all_of xs n) ∙ sym (append_assoc (f x) (flat_map f (take n xs)) (flat_map f (drop n xs)))

    pub some_put : (xs : List X) (i : ℕ) (d : X) → i < length xs → (a b c : Option (OpenRun T)) (out mid now : W)
        → HasPut related run_line grew (flat_map f (take i xs)) a out b mid → HasPut related run_line grew (f (get_or xs i d)) b mid c now
        → HasPut related run_line grew (flat_map f (take (i + 1) xs)) a out c now
    some_put xs i d lt a b c out mid now h k =
        subst (λ l. HasPut related run_line grew l a out c now) (sym (some_next xs i d lt))
        (put_more related run_line grew (flat_map f (take i xs)) (f (get_or xs i d)) a b c out mid now h k)

    pub some_stop : (stopped : W → ExplainLine → W → Type 0) (xs : List X) (i : ℕ) (d : X) → i < length xs → (a b : Option (OpenRun T)) (out mid now : W)
        → HasPut related run_line grew (flat_map f (take i xs)) a out b mid → StopsPutting related run_line grew stopped (f (get_or xs i d)) b mid now
        → StopsPutting related run_line grew stopped (flat_map f xs) a out now
    some_stop stopped xs i d lt a b out mid now h k =
        subst (λ l. StopsPutting related run_line grew stopped l a out now)
        (ap (λ l. l ++ flat_map f (drop (i + 1) xs)) (sym (some_next xs i d lt)) ∙ sym (all_of xs (i + 1)))
        (stops_before related run_line grew stopped (flat_map f (take i xs) ++ f (get_or xs i d)) (flat_map f (drop (i + 1) xs)) a out now
        (stops_after related run_line grew stopped (flat_map f (take i xs)) (f (get_or xs i d)) a b out mid now h k))
