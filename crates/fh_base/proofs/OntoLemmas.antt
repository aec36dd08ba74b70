-- Lists whose items are added in order, and of which the newest is first.
use Rattle.std.proofs.Common.{◌≡◌, ℕ, ◌+◌, List, [], ◌∷◌, ◌++◌, take, length, get_or, ◌<◌, refl, ap, ◌∙◌}
use Rattle.std.proofs.lemmas.List.{take_more}
use Rattle.fh_base.specs.Lists.{onto}
use Rattle.std.specs.Prelude.{All}
use Rattle.std.proofs.lemmas.List.Elements.{All-cons, All-head, All-tail}

pub onto-append : {A : Type 0} (earlier xs ys : List A) → onto earlier (xs ++ ys) ≡ onto (onto earlier xs) ys
unfolding onto
onto-append earlier [] ys = refl
onto-append earlier (x ∷ xs) ys = onto-append (x ∷ earlier) xs ys

pub onto_none : {A : Type 0} (earlier : List A) → onto earlier [] ≡ earlier
unfolding onto
onto_none earlier = refl

pub onto_more : {A : Type 0} (earlier xs : List A) (i : ℕ) (d : A) → i < length xs → onto earlier (take (i + 1) xs) ≡ get_or xs i d ∷ onto earlier (take i xs)
unfolding onto
onto_more earlier xs i d inside =
    ap (onto earlier) (take_more xs i d inside) ∙ onto-append earlier (take i xs) (get_or xs i d ∷ [])

pub onto_one : {A : Type 0} (earlier : List A) (x : A) (xs : List A) → onto earlier (x ∷ xs) ≡ onto (x ∷ earlier) xs
unfolding onto
onto_one earlier x xs = refl

pub All-onto : {A : Type 0} (P : A → Type 0) (earlier xs : List A) → All P earlier → All P xs → All P (onto earlier xs)
unfolding onto
All-onto P earlier [] before now = before
All-onto P earlier (x ∷ xs) before now = All-onto P (x ∷ earlier) xs (All-cons P x earlier (All-head P x xs now) before) (All-tail P x xs now)
