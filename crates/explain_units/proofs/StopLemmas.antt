-- How far a sink took lines that are given in parts.
use Rattle.std.proofs.Common.{◌≡◌, ℕ, zero, suc, ◌+◌, ◌<◌, List, [], ◌∷◌, ◌++◌, length, get_or, take, take-suc, drop, refl, sym, ap, ◌∙◌, append_assoc, append-nil, arith}
use Rattle.std.specs.List.{flat_map}
use Rattle.std.proofs.lemmas.List.Concat.{flat_map-append}
use Rattle.explain_model.specs.declared.values.ExplainLine.{ExplainLine}
use Rattle.explain_heard.specs.Stops.{StopsBetween, StopsSome, Between, Within, StopsInLine}

module _ {W : Type 0} (grew : W → List ExplainLine → W → Type 0) (stopped : W → ExplainLine → W → Type 0) where
  pub in_before : (xs ys : List ExplainLine) (a c : W) → StopsInLine grew stopped xs a c → StopsInLine grew stopped (xs ++ ys) a c
  in_before xs ys a c h = record {
    before = h.before;
    line = h.line;
    after = h.after ++ ys;
    is = ap (λ (ls : List ExplainLine). ls ++ ys) h.is ∙ append_assoc h.before (h.line ∷ h.after) ys;
    middle = h.middle;
    heard = h.heard;
    stop = h.stop;
  }

  between_before : (xs ys : List ExplainLine) (a c : W) → StopsBetween grew xs a c → StopsBetween grew (xs ++ ys) a c
  between_before xs ys a c h = record {
    before = h.before;
    after = h.after ++ ys;
    is = ap (λ (ls : List ExplainLine). ls ++ ys) h.is ∙ append_assoc h.before h.after ys;
    heard = h.heard;
  }

  pub some_before : (xs ys : List ExplainLine) (a c : W) → StopsSome grew stopped xs a c → StopsSome grew stopped (xs ++ ys) a c
  some_before xs ys a c (Between h) = Between (between_before xs ys a c h)
  some_before xs ys a c (Within h) = Within (in_before xs ys a c h)

  pub taken : (lines : List ExplainLine) (a c : W) → grew a lines c → StopsSome grew stopped lines a c
  taken lines a c h = Between (record { before = lines; after = []; is = sym (append-nil lines); heard = h })

  pub in_one : ((a : W) → grew a [] a) → (line : ExplainLine) (a c : W) → stopped a line c → StopsInLine grew stopped (line ∷ []) a c
  in_one none line a c stop = record { before = []; line = line; after = []; is = refl; middle = a; heard = none a; stop = stop }

  pub in_first : ((a : W) → grew a [] a) → (line : ExplainLine) (rest : List ExplainLine) (a c : W) → stopped a line c → StopsSome grew stopped (line ∷ rest) a c
  in_first none line rest a c stop = Within (record { before = []; line = line; after = rest; is = refl; middle = a; heard = none a; stop = stop })

  module _ (more : (a b c : W) (first second : List ExplainLine) → grew a first b → grew b second c → grew a (first ++ second) c) where
    pub in_after : (xs ys : List ExplainLine) (a b c : W) → grew a xs b → StopsInLine grew stopped ys b c → StopsInLine grew stopped (xs ++ ys) a c
    in_after xs ys a b c h k = record {
      before = xs ++ k.before;
      line = k.line;
      after = k.after;
      is = ap (λ (ls : List ExplainLine). xs ++ ls) k.is ∙ sym (append_assoc xs k.before (k.line ∷ k.after));
      middle = k.middle;
      heard = more a b k.middle xs k.before h k.heard;
      stop = k.stop;
    }

    between_after : (xs ys : List ExplainLine) (a b c : W) → grew a xs b → StopsBetween grew ys b c → StopsBetween grew (xs ++ ys) a c
    between_after xs ys a b c h k = record {
      before = xs ++ k.before;
      after = k.after;
      is = ap (λ (ls : List ExplainLine). xs ++ ls) k.is ∙ sym (append_assoc xs k.before k.after);
      heard = more a b c xs k.before h k.heard;
    }

    pub some_after : (xs ys : List ExplainLine) (a b c : W) → grew a xs b → StopsSome grew stopped ys b c → StopsSome grew stopped (xs ++ ys) a c
    some_after xs ys a b c h (Between k) = Between (between_after xs ys a b c h k)
    some_after xs ys a b c h (Within k) = Within (in_after xs ys a b c h k)

-- ---- lines of each of some elements

module _ {X : Type 0} (f : X → List ExplainLine) where
  pub each_next : (xs : List X) (i : ℕ) (d : X) → i < length xs → flat_map f (take (i + 1) xs) ≡ flat_map f (take i xs) ++ f (get_or xs i d)
  each_next xs i d lt =
      let e : i + 1 ≡ suc i = omega arith in
      ap (λ n. flat_map f (take n xs)) e ∙ ap (flat_map f) (take-suc xs i d lt) ∙ flat_map-append f (take i xs) (get_or xs i d ∷ [])
      ∙ ap (λ l. flat_map f (take i xs) ++ l) (append-nil (f (get_or xs i d)))

  all_of : (xs : List X) (n : ℕ) → flat_map f xs ≡ flat_map f (take n xs) ++ flat_map f (drop n xs)
  all_of xs zero = refl
  all_of [] (suc n) = refl
  all_of (x ∷ xs) (suc n) = ap (λ l. f x ++ l) (all_of xs n) ∙ sym (append_assoc (f x) (flat_map f (take n xs)) (flat_map f (drop n xs)))

  pub each_split : (xs : List X) (i : ℕ) (d : X) → i < length xs → flat_map f xs ≡ (flat_map f (take i xs) ++ f (get_or xs i d)) ++ flat_map f (drop (i + 1) xs)
  each_split xs i d lt = all_of xs (i + 1) ∙ ap (λ l. l ++ flat_map f (drop (i + 1) xs)) (each_next xs i d lt)
