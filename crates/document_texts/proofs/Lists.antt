-- A list that is made of another, one item after the other.
use Rattle.std.proofs.Common.{◌≡◌, ℕ, suc, ◌+◌, ◌<◌, List, [], ◌∷◌, ◌++◌, length, get_or, map, take, take-suc, Some, ap, sym, ◌∙◌, arith}
use Rattle.std.specs.Prelude.{slice_get}
use Rattle.std.proofs.lemmas.List.{map-append}
use Rattle.frame_ways.proofs.RowLemmas.{at_place}

-- one item more is copied
pub next_copied : {A : Type 0} (xs : List A) (i : ℕ) (d : A) (items now : List A) → i < length xs → items ≡ take i xs → now ≡ items ++ get_or xs i d ∷ [] → now ≡ take (i + 1) xs
next_copied xs i d items now lt before is =
    let next : suc i ≡ i + 1 = omega arith in
    is ∙ ap (λ ys. ys ++ get_or xs i d ∷ []) before ∙ sym (take-suc xs i d lt) ∙ ap (λ n. take n xs) next

pub next_listed : {A : Type 0} (xs : List A) (i : ℕ) (x : A) (items now : List A) → slice_get xs i ≡ Some x → items ≡ take i xs → now ≡ items ++ x ∷ [] → now ≡ take (i + 1) xs
next_listed xs i x items now got before is =
    let here = at_place xs i x got in
    next_copied xs i x items now here.0 before (is ∙ ap (λ y. items ++ y ∷ []) (sym here.1))

-- one item more is made of one
pub next_made : {A B : Type 0} (f : A → B) (xs : List A) (i : ℕ) (d : A) (items now : List B) → i < length xs → items ≡ map f (take i xs) → now ≡ items ++ f (get_or xs i d) ∷ [] → now ≡ map f (take (i + 1) xs)
next_made f xs i d items now lt before is =
    let next : suc i ≡ i + 1 = omega arith in
    is ∙ ap (λ ys. ys ++ f (get_or xs i d) ∷ []) before ∙ sym (map-append f (take i xs) (get_or xs i d ∷ [])) ∙ ap (map f) (sym (take-suc xs i d lt) ∙ ap (λ n. take n xs) next)

pub next_made_of : {A B : Type 0} (f : A → B) (xs : List A) (i : ℕ) (x : A) (items now : List B) → slice_get xs i ≡ Some x → items ≡ map f (take i xs) → now ≡ items ++ f x ∷ [] → now ≡ map f (take (i + 1) xs)
next_made_of f xs i x items now got before is =
    let here = at_place xs i x got in
    next_made f xs i x items now here.0 before (is ∙ ap (λ y. items ++ f y ∷ []) (sym here.1))
