-- A sink that takes lists of lines one after the other.
use Rattle.std.proofs.Common.{◌≡◌, ℕ, zero, suc, ◌+◌, ◌<◌, List, [], ◌∷◌, ◌++◌, length, get_or, take, take-suc, drop, refl, sym, ap, subst, ◌∙◌, append_assoc, append-nil, arith}
use Rattle.std.specs.List.{flat_map}
use Rattle.std.proofs.lemmas.List.Concat.{flat_map-append}
use Rattle.explain_model.specs.declared.values.ExplainLine.{ExplainLine}
use Rattle.explain_heard.specs.Stops.{StopsInLine}

module _ {W : Type 0} (grew : W → List ExplainLine → W → Type 0) (more : (a b c : W) (first second : List ExplainLine) → grew a first b → grew b second c → grew a (first ++ second) c) where
  -- it stopped in one of some lines, after it took those before them, and others follow
  pub stops_within : (stopped : W → ExplainLine → W → Type 0) (base out now : W) (front middle back : List ExplainLine) → grew base front out
      → StopsInLine grew stopped middle out now → StopsInLine grew stopped (front ++ (middle ++ back)) base now
  stops_within stopped base out now front middle back told h = record {
    before = front ++ h.before;
    line = h.line;
    after = h.after ++ back;
    is =
        ap (λ ls. front ++ (ls ++ back)) h.is ∙ ap (λ ls. front ++ ls) (append_assoc h.before (h.line ∷ h.after) back)
        ∙ sym (append_assoc front h.before (h.line ∷ (h.after ++ back)));
    middle = h.middle;
    heard = more base out h.middle front h.before told h.heard;
    stop = h.stop;
  }

  -- in the last of two lists
  pub stops_last : (stopped : W → ExplainLine → W → Type 0) (base out now : W) (front back : List ExplainLine) → grew base front out
      → StopsInLine grew stopped back out now → StopsInLine grew stopped (front ++ back) base now
  stops_last stopped base out now front back told h =
      subst (λ ls. StopsInLine grew stopped (front ++ ls) base now) (append-nil back) (stops_within stopped base out now front back [] told h)

  -- ---- element by element

  module _ {X : Type 0} (f : X → List ExplainLine) where
    next_is : (xs : List X) (i : ℕ) (d : X) → i < length xs → flat_map f (take (i + 1) xs) ≡ flat_map f (take i xs) ++ f (get_or xs i d)
    next_is xs i d lt =
        let e : i + 1 ≡ suc i = omega arith in
        ap (λ n. flat_map f (take n xs)) e ∙ ap (flat_map f) (take-suc xs i d lt) ∙ flat_map-append f (take i xs) (get_or xs i d ∷ [])
        ∙ ap (λ l. flat_map f (take i xs) ++ l) (append-nil (f (get_or xs i d)))

    all_of : (xs : List X) (n : ℕ) → flat_map f xs ≡ flat_map f (take n xs) ++ flat_map f (drop n xs)
    all_of xs zero = refl
    all_of [] (suc n) = refl
    all_of (x ∷ xs) (suc n) = ap (λ l. f x ++ l) (all_of xs n) ∙ sym (append_assoc (f x) (flat_map f (take n xs)) (flat_map f (drop n xs)))

    pub grew_next : (xs : List X) (i : ℕ) (x : X) → i < length xs → x ≡ get_or xs i x → (base out now : W) → grew base (flat_map f (take i xs)) out → grew out (f x) now
        → grew base (flat_map f (take (i + 1) xs)) now
    grew_next xs i x lt is base out now h k =
        subst (λ ls. grew base ls now) (ap (λ y. flat_map f (take i xs) ++ f y) is ∙ sym (next_is xs i x lt)) (more base out now (flat_map f (take i xs)) (f x) h k)

    pub stops_next : (stopped : W → ExplainLine → W → Type 0) (xs : List X) (i : ℕ) (x : X) → i < length xs → x ≡ get_or xs i x → (base out now : W)
        → grew base (flat_map f (take i xs)) out → StopsInLine grew stopped (f x) out now → StopsInLine grew stopped (flat_map f xs) base now
    stops_next stopped xs i x lt is base out now h k =
        subst (λ ls. StopsInLine grew stopped ls base now)
        (sym (append_assoc (flat_map f (take i xs)) (f x) (flat_map f (drop (i + 1) xs)))
        ∙ ap (λ ls. ls ++ flat_map f (drop (i + 1) xs)) (ap (λ y. flat_map f (take i xs) ++ f y) is ∙ sym (next_is xs i x lt)) ∙ sym (all_of xs (i + 1)))
        (stops_within stopped base out now (flat_map f (take i xs)) (f x) (flat_map f (drop (i + 1) xs)) h k)
