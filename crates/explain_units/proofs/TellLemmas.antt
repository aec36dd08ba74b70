-- Lines that are told one after the other.
use Rattle.std.proofs.Common.{◌≡◌, ℕ, ◌+◌, ◌<◌, List, [], ◌++◌, length, get_or, take, drop, sym, ap, subst, ◌∙◌}
use Rattle.std.specs.List.{flat_map}
use Rattle.explain_heard.specs.declared.judged.Judged.{Judged}
use Rattle.explain_model.specs.declared.values.ExplainLine.{ExplainLine}
use Rattle.explain_units.specs.Known.{Known, after_all, all_said, as_lines, said, with_judged}
use Rattle.explain_heard.specs.Stops.{StopsSome, StopsInLine}
use Rattle.explain_units.proofs.KnownLemmas.{after_next, said_next, said_none, said_split}
use Rattle.explain_units.proofs.StopLemmas.{each_next, each_split, in_after, in_before, some_after, some_before}

-- what is known with one more of all that was judged
pub known_next : (number : ℕ) (xs : List Judged) (i : ℕ) (x : Judged) (first k new : Known) → i < length xs → x ≡ get_or xs i x → k ≡ after_all number (take i xs) first
    → new ≡ with_judged number x k → new ≡ after_all number (take (i + 1) xs) first
known_next number xs i x first k new lt item is one =
    one ∙ ap (λ (h : Judged). with_judged number h k) item ∙ ap (with_judged number (get_or xs i x)) is ∙ sym (after_next number xs i x first lt)

module _ {W : Type 0} (grew : W → List ExplainLine → W → Type 0) where
  pub told_none : ((a : W) → grew a [] a) → (number : ℕ) (k : Known) (a : W) → grew a (all_said number [] k) a
  told_none none number k a = subst (λ (ls : List ExplainLine). grew a ls a) (sym (said_none number k)) (none a)

  module _ (more : (a b c : W) (first second : List ExplainLine) → grew a first b → grew b second c → grew a (first ++ second) c) where
    pub told_next : (number : ℕ) (xs : List Judged) (i : ℕ) (x : Judged) (first k : Known) (a b c : W) → i < length xs → x ≡ get_or xs i x → k ≡ after_all number (take i xs) first
        → grew a (all_said number (take i xs) first) b → grew b (as_lines (said number k x)) c → grew a (all_said number (take (i + 1) xs) first) c
    told_next number xs i x first k a b c lt item is before now =
        subst (λ (ls : List ExplainLine). grew a ls c) (sym (said_next number xs i x first lt))
        (more a b c (all_said number (take i xs) first) (as_lines (said number (after_all number (take i xs) first) (get_or xs i x))) before
        (subst (λ (s : Known). grew b (as_lines (said number s (get_or xs i x))) c) is (subst (λ (h : Judged). grew b (as_lines (said number k h)) c) item now)))

    -- the lines of each of some elements
    pub each_told : {X : Type 0} (f : X → List ExplainLine) (xs : List X) (i : ℕ) (d : X) (a b c : W) → i < length xs
        → grew a (flat_map f (take i xs)) b → grew b (f (get_or xs i d)) c → grew a (flat_map f (take (i + 1) xs)) c
    each_told f xs i d a b c lt before now =
        subst (λ (ls : List ExplainLine). grew a ls c) (sym (each_next f xs i d lt)) (more a b c (flat_map f (take i xs)) (f (get_or xs i d)) before now)

    module _ (stopped : W → ExplainLine → W → Type 0) where
      pub stop_next : (number : ℕ) (xs : List Judged) (i : ℕ) (x : Judged) (first k : Known) (a b c : W) → i < length xs → x ≡ get_or xs i x → k ≡ after_all number (take i xs) first
          → grew a (all_said number (take i xs) first) b → StopsSome grew stopped (as_lines (said number k x)) b c → StopsSome grew stopped (all_said number xs first) a c
      stop_next number xs i x first k a b c lt item is before stop =
          let mine = as_lines (said number (after_all number (take i xs) first) (get_or xs i x)) in
          subst (λ (ls : List ExplainLine). StopsSome grew stopped ls a c) (sym (said_split number xs i x first lt))
          (some_before grew stopped (all_said number (take i xs) first ++ mine) (all_said number (drop (i + 1) xs) (after_all number (take (i + 1) xs) first)) a c
          (some_after grew stopped more (all_said number (take i xs) first) mine a b c before
          (subst (λ (s : Known). StopsSome grew stopped (as_lines (said number s (get_or xs i x))) b c) is
          (subst (λ (h : Judged). StopsSome grew stopped (as_lines (said number k h)) b c) item stop))))

      pub each_stop : {X : Type 0} (f : X → List ExplainLine) (xs : List X) (i : ℕ) (d : X) (a b c : W) → i < length xs
          → grew a (flat_map f (take i xs)) b → StopsInLine grew stopped (f (get_or xs i d)) b c → StopsInLine grew stopped (flat_map f xs) a c
      each_stop f xs i d a b c lt before stop =
          subst (λ (ls : List ExplainLine). StopsInLine grew stopped ls a c) (sym (each_split f xs i d lt))
          (in_before grew stopped (flat_map f (take i xs) ++ f (get_or xs i d)) (flat_map f (drop (i + 1) xs)) a c
          (in_after grew stopped more (flat_map f (take i xs)) (f (get_or xs i d)) a b c before stop))
