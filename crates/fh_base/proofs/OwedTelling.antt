-- Texts that are told in a row: what was written so far, and at the end.
use Rattle.std.proofs.Common.{◌≡◌, ℕ, suc, ◌+◌, ◌<◌, List, [], ◌∷◌, ◌++◌, Option, Result, Ok, Err, OnErr, length, take, drop, get_or, sym, ap, subst, append_assoc, append-nil, drop-cons, ◌∙◌}
use Rattle.std.specs.List.{flat_map}
use Rattle.std.proofs.lemmas.Grind.{flat_map-append}
use Rattle.std.proofs.lemmas.List.{take-append-drop, take_more}
use Rattle.std.specs.Io.KnownBytes.{append_known}
use Rattle.fh_base.specs.Told.{WritesFront}
use Rattle.fh_base.proofs.Progress.{front_first}
use Rattle.fh_base.specs.Owed.{Carried}
use Rattle.fh_base.specs.CarriedLaws.{carried_more}
use Rattle.fh_base.proofs.Carrying.{carried_known, front_pushed, front_behind}

-- the texts of the items up to one
texts_more : {X : Type 0} (f : X → List ℕ) (xs : List X) (i : ℕ) (x d : X) → i < length xs → x ≡ get_or xs i d → flat_map f (take i xs) ++ f x ≡ flat_map f (take (i + 1) xs)
texts_more f xs i x d below is =
    ap (λ t. flat_map f (take i xs) ++ t) (sym (append-nil (f x)))
    ∙ sym (flat_map-append f (take i xs) (x ∷ []))
    ∙ ap (λ y. flat_map f (take i xs ++ y ∷ [])) is
    ∙ ap (flat_map f) (sym (take_more xs i d below))

-- the texts of all items about one of them
pub texts_parted : {X : Type 0} (f : X → List ℕ) (xs : List X) (i : ℕ) (x d : X) → i < length xs → x ≡ get_or xs i d
    → (flat_map f (take i xs) ++ f x) ++ flat_map f (drop (suc i) xs) ≡ flat_map f xs
texts_parted f xs i x d below is =
    append_assoc (flat_map f (take i xs)) (f x) (flat_map f (drop (suc i) xs))
    ∙ sym (flat_map-append f (take i xs) (x ∷ drop (suc i) xs))
    ∙ ap (λ y. flat_map f (take i xs ++ y ∷ drop (suc i) xs)) is
    ∙ ap (λ ys. flat_map f (take i xs ++ ys)) (sym (drop-cons xs i d below))
    ∙ ap (flat_map f) (take-append-drop i xs)

-- the text of one item more was told
pub carried_one_more : {X : Type 0} (f : X → List ℕ) (xs : List X) (i : ℕ) (x d : X) (w v u : Option (List ℕ)) (o p q : List ℕ) → i < length xs → x ≡ get_or xs i d
    → Carried w o (flat_map f (take i xs)) v p → Carried v p (f x) u q → Carried w o (flat_map f (take (i + 1) xs)) u q
carried_one_more f xs i x d w v u o p q below is before now =
    subst (λ (t : List ℕ). Carried w o t u q) (texts_more f xs i x d below is) (carried_more w v u o p q (flat_map f (take i xs)) (f x) before now)

-- a front of one item's text was told after those before it
pub cut_at : {X : Type 0} (f : X → List ℕ) (xs : List X) (i : ℕ) (x d : X) (w v u : Option (List ℕ)) (o p : List ℕ) → i < length xs → x ≡ get_or xs i d
    → Carried w o (flat_map f (take i xs)) v p → WritesFront v u (p ++ f x) → WritesFront w u (o ++ flat_map f xs)
cut_at f xs i x d w v u o p below is before front =
    let told = front_behind w o (flat_map f (take i xs)) v p (f x) u before front in
    let more = front_first w u (o ++ (flat_map f (take i xs) ++ f x)) (flat_map f (drop (suc i) xs)) told in
    subst (λ (t : List ℕ). WritesFront w u t)
    (append_assoc o (flat_map f (take i xs) ++ f x) (flat_map f (drop (suc i) xs)) ∙ ap (λ t. o ++ t) (texts_parted f xs i x d below is)) more

-- a front of what is owed and a text is one of these and more
pub front_before : (w v : Option (List ℕ)) (o first rest : List ℕ) → WritesFront w v (o ++ first) → WritesFront w v (o ++ (first ++ rest))
front_before w v o first rest front =
    subst (λ (t : List ℕ). WritesFront w v t) (append_assoc o first rest) (front_first w v (o ++ first) rest front)

-- a front of what was still owed was written
pub last_front : (w v u : Option (List ℕ)) (o told p : List ℕ) → o ≡ [] → Carried w o told v p → WritesFront v u p → WritesFront w u told
last_front w v u o told p none h front = subst (λ (t : List ℕ). WritesFront w u (t ++ told)) none (front_pushed w o told v p u h front)

-- all that was told was written
pub all_written : (w v u : Option (List ℕ)) (o told p : List ℕ) → o ≡ [] → Carried w o told v p → u ≡ append_known v p → u ≡ append_known w told
all_written w v u o told p none h is = is ∙ carried_known w o told v p h ∙ ap (λ t. append_known w (t ++ told)) none

-- what holds anyhow holds at an error
pub anyhow : {T E P : Type 0} (r : Result T E) → P → OnErr r P
anyhow (Ok x) p = tt
anyhow (Err e) p = p
