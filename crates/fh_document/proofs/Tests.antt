-- What follows from tests, and what a step makes of a value.
use Rattle.std.proofs.Common.{◌≡◌, List, [], ◌∷◌, Bool, true, false, Option, Some, refl, ap, ◌∙◌}
use Rattle.std.specs.Prelude.{Result, Ok, if◌then◌else◌, filter}
use Rattle.std.specs.List.{list_all}
use Rattle.fh_document.specs.declared.refusals.DocWhy.{DocWhy}
use Rattle.fh_document.specs.EndpointLines.{taking}
use Rattle.fh_document.specs.Refusals.{or_refuse, ◌>>=◌}
use Rattle.fh_base.proofs.Orders.{left_true, right_true, both_true}

pub if_true : {A : Type 0} (b : Bool) (x y : A) → b ≡ true → (if b then x else y) ≡ x
if_true true x y e = refl
if_true false x y e = absurd (cc e)

pub took : {A B : Type 0} (o : Option A) (x : A) (next : A → Option B) → o ≡ Some x → taking o next ≡ next x
took o x next e = ap (λ y. taking y next) e

pub then_ok : {A B : Type 0} (r : Result A DocWhy) (x : A) (next : A → Result B DocWhy) → r ≡ Ok x → (r >>= next) ≡ next x
then_ok r x next e = ap (λ y. y >>= next) e

pub then_some : {A B : Type 0} (o : Option A) (why : DocWhy) (x : A) (next : A → Result B DocWhy) → o ≡ Some x → (or_refuse o why >>= next) ≡ next x
then_some o why x next e = ap (λ y. or_refuse y why >>= next) e

-- a test that is weaker holds of all as well
pub all_weaker : {A : Type 0} (p q : A → Bool) (xs : List A) → ((x : A) → p x ≡ true → q x ≡ true) → list_all p xs ≡ true → list_all q xs ≡ true
all_weaker p q [] f h = refl
all_weaker p q (x ∷ xs) f h = both_true (q x) (list_all q xs) (f x (left_true (p x) (list_all p xs) h)) (all_weaker p q xs f (right_true (p x) (list_all p xs) h))

pub filter_all : {A : Type 0} (p : A → Bool) (xs : List A) → list_all p xs ≡ true → filter p xs ≡ xs
filter_all p [] h = refl
filter_all p (x ∷ xs) h =
    if_true (p x) (x ∷ filter p xs) (filter p xs) (left_true (p x) (list_all p xs) h) ∙ ap (λ ys. x ∷ ys) (filter_all p xs (right_true (p x) (list_all p xs) h))
