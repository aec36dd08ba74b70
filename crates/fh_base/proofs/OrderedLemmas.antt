-- Lists in order, stable orders, and when two such lists are the same.
use Rattle.std.proofs.Common.{◌≡◌, ℕ, suc, ◌+◌, inl, inr, Bool, true, false, not, if◌then◌else◌, List, [], ◌∷◌, filter, get_or, refl, ap, ap₂, sym, ◌∙◌, subst, true≢false, arith}
use Rattle.std.specs.List.{AllByRecursion}
use Rattle.std.specs.List.Sorted.{IsSortedBy, ties}
use Rattle.std.specs.Cmp.{IsStrictWeakOrder}
use Rattle.std.proofs.lemmas.Bool.{and_from, and_parts, not-true, not_from_false}
use Rattle.std.proofs.lemmas.List.Sorted.{sorted_far}
use Rattle.fh_base.specs.Lists.{put_in, in_order}
use Rattle.fh_base.specs.Ordered.{AreOrderedBy}
use Rattle.std.proofs.lemmas.List.Elements.{recursion_from_All}
use Rattle.fh_base.specs.Members.{IsIn}
use Rattle.fh_base.proofs.MemberLemmas.{of_filter, in_filter, all_in, all_from, own_tie, kept_first}

pub ordered_from : {X : Type 0} (lt : X → X → Bool) → IsStrictWeakOrder lt → (xs : List X) → IsSortedBy lt xs → AreOrderedBy lt xs
ordered_from lt o [] h = tt
ordered_from lt o (p ∷ ps) h = (
  recursion_from_All (λ q. lt q p ≡ false) ps (λ k d below. sorted_far lt o (p ∷ ps) h 0 (suc k) d (omega arith) (omega (arith, below))),
  ordered_from lt o ps (λ k d low high.
      let e : suc k + 1 ≡ suc (k + 1) = omega arith in
      subst (λ (n : ℕ). lt (get_or (p ∷ ps) n d) (get_or ps k d) ≡ false) e (h (suc k) d (omega arith) (omega (arith, high)))),
)

-- ---- two lists

pub cons_first : {X : Type 0} (x y : X) (xs ys : List X) → x ∷ xs ≡ y ∷ ys → (x ≡ y) × (xs ≡ ys)
cons_first x y xs ys h = (cc, cc)

first_behind : {X : Type 0} (lt : X → X → Bool) (x y : X) (ys : List X) → AllByRecursion (λ q. lt q y ≡ false) ys → lt y y ≡ false → IsIn x (y ∷ ys) → lt x y ≡ false
first_behind lt x y ys all own m = elim m [
  | inl here ↦ ap (λ z. lt z y) here ∙ own
  | inr there ↦ all_in (λ q. lt q y ≡ false) ys x all there
]

-- they are the same, where those that tie are so
pub ordered_same : {X : Type 0} (lt : X → X → Bool) → IsStrictWeakOrder lt → (xs ys : List X) → AreOrderedBy lt xs → AreOrderedBy lt ys
    → ((x : X) → filter (ties lt x) xs ≡ filter (ties lt x) ys) → xs ≡ ys
ordered_same lt o [] [] a b same = refl
ordered_same lt o [] (y ∷ ys) a b same = (let e = same y ∙ kept_first (ties lt y) y ys (own_tie lt o y) in cc)
ordered_same lt o (x ∷ xs) [] a b same = (let e = sym (kept_first (ties lt x) x xs (own_tie lt o x)) ∙ same x in cc)
ordered_same {X = X} lt o (x ∷ xs) (y ∷ ys) a b same =
    let own = λ (z : X). not-true (lt z z) (and_parts (not (lt z z)) _ (own_tie lt o z)).0 in
    let x_in : IsIn x (y ∷ ys) = (of_filter (ties lt x) x (y ∷ ys) (subst (IsIn x) (same x) (in_filter (ties lt x) x (x ∷ xs) (inl refl) (own_tie lt o x)))).0 in
    let y_in : IsIn y (x ∷ xs) = (of_filter (ties lt y) y (x ∷ xs) (subst (IsIn y) (sym (same y)) (in_filter (ties lt y) y (y ∷ ys) (inl refl) (own_tie lt o y)))).0 in
    let tied : ties lt x y ≡ true =
    and_from (not (lt x y)) _ (not_from_false _ (first_behind lt x y ys b.0 (own y) x_in)) (not_from_false _ (first_behind lt y x xs a.0 (own x) y_in)) in
    let heads = cons_first x y (filter (ties lt x) xs) (filter (ties lt x) ys) (sym (kept_first (ties lt x) x xs (own_tie lt o x)) ∙ same x ∙ kept_first (ties lt x) y ys tied) in
    ap₂ (λ (z : X) (zs : List X). z ∷ zs) heads.0 (ordered_same lt o xs ys a.1 b.1 (λ z. tail z (ties lt z x) refl heads.0 (same z)))
  where
    tail : (z : X) (t : Bool) → ties lt z x ≡ t → x ≡ y → filter (ties lt z) (x ∷ xs) ≡ filter (ties lt z) (y ∷ ys) → filter (ties lt z) xs ≡ filter (ties lt z) ys
    tail z true e xy h = (cons_first x y (filter (ties lt z) xs) (filter (ties lt z) ys)
        (sym (kept_first (ties lt z) x xs e) ∙ h ∙ kept_first (ties lt z) y ys (ap (ties lt z) (sym xy) ∙ e))).1
    tail z false e xy h =
        sym (ap (λ (b : Bool). let us : List X = if b then x ∷ filter (ties lt z) xs else filter (ties lt z) xs in us) e) ∙ h
        ∙ ap (λ (b : Bool). let us : List X = if b then y ∷ filter (ties lt z) ys else filter (ties lt z) ys in us) (ap (ties lt z) (sym xy) ∙ e)

-- ---- by insertion

put_all : {X : Type 0} (below : X → X → Bool) (P : X → Type 0) (x : X) (xs : List X) → P x → AllByRecursion P xs → AllByRecursion P (put_in below x xs)
unfolding put_in
put_all below P x [] px all = (px, tt)
put_all {X = X} below P x (y ∷ ys) px all = go (below y x) (put_all below P x ys px all.1)
  where
    go : (b : Bool) → AllByRecursion P (put_in below x ys) → AllByRecursion P (let zs : List X = if b then y ∷ put_in below x ys else x ∷ y ∷ ys in zs)
    go true r = (all.0, r)
    go false r = (px, all)

put_ordered : {X : Type 0} (below : X → X → Bool) → IsStrictWeakOrder below → (x : X) (xs : List X) → AreOrderedBy below xs → AreOrderedBy below (put_in below x xs)
unfolding put_in
put_ordered below o x [] h = (tt, tt)
put_ordered {X = X} below o x (y ∷ ys) h = go (below y x) refl (put_ordered below o x ys h.1)
  where
    go : (b : Bool) → below y x ≡ b → AreOrderedBy below (put_in below x ys) → AreOrderedBy below (let zs : List X = if b then y ∷ put_in below x ys else x ∷ y ∷ ys in zs)
    go true e r = (put_all below (λ q. below q y ≡ false) x ys (o.one_way y x e) h.0, r)
    go false e r = ((e, all_from (λ q. below q x ≡ false) ys (λ q m. o.chain q y x (all_in (λ z. below z y ≡ false) ys q h.0 m) e)), h)

pub in_order_ordered : {X : Type 0} (below : X → X → Bool) → IsStrictWeakOrder below → (xs : List X) → AreOrderedBy below (in_order below xs)
unfolding in_order
in_order_ordered below o [] = tt
in_order_ordered below o (x ∷ xs) = put_ordered below o x (in_order below xs) (in_order_ordered below o xs)

put_keeps : {X : Type 0} (below : X → X → Bool) (t : X → Bool) → ((a b : X) → t a ≡ true → t b ≡ true → below a b ≡ false) → (x : X) (xs : List X)
    → filter t (put_in below x xs) ≡ filter t (x ∷ xs)
unfolding put_in
put_keeps below t h x [] = refl
put_keeps {X = X} below t h x (y ∷ ys) = go (below y x) refl (t x) refl (t y) refl (put_keeps below t h x ys)
  where
    go : (b : Bool) → below y x ≡ b → (c : Bool) → t x ≡ c → (d : Bool) → t y ≡ d → filter t (put_in below x ys) ≡ (let us : List X = if t x then x ∷ filter t ys else filter t ys in us)
        → filter t (let zs : List X = if b then y ∷ put_in below x ys else x ∷ y ∷ ys in zs) ≡ filter t (x ∷ y ∷ ys)
    go false e c p d q r = refl
    go true e true p true q r = absurd (true≢false (sym e ∙ h y x q p))
    go true e true p false q r = rw (p, q) (let s : filter t (put_in below x ys) ≡ x ∷ filter t ys = r ∙ ap (λ (b : Bool). let us : List X = if b then x ∷ filter t ys else filter t ys in us) p in s)
    go true e false p true q r = rw (p, q) (let s : filter t (put_in below x ys) ≡ filter t ys = r ∙ ap (λ (b : Bool). let us : List X = if b then x ∷ filter t ys else filter t ys in us) p in ap (λ (zs : List X). y ∷ zs) s)
    go true e false p false q r = rw (p, q) (let s : filter t (put_in below x ys) ≡ filter t ys = r ∙ ap (λ (b : Bool). let us : List X = if b then x ∷ filter t ys else filter t ys in us) p in s)

-- those that pass a test none of which is below another stay as they were
pub in_order_keeps : {X : Type 0} (below : X → X → Bool) (t : X → Bool) → ((a b : X) → t a ≡ true → t b ≡ true → below a b ≡ false) → (xs : List X)
    → filter t (in_order below xs) ≡ filter t xs
unfolding in_order
in_order_keeps below t h [] = refl
in_order_keeps {X = X} below t h (x ∷ xs) =
    put_keeps below t h x (in_order below xs) ∙ ap (λ (ys : List X). let zs : List X = if t x then x ∷ ys else ys in zs) (in_order_keeps below t h xs)
