-- Sorted records, and those of one key among them.
use Rattle.std.proofs.Common.{◌≡◌, ℕ, suc, zero, ◌-◌, ◌<◌, ◌≤◌, inl, inr, Bool, true, false, not, ◌&&◌, ◌==◌, nat_lt, List, [], ◌∷◌, length, filter, get_or, take, drop, refl, ap, ap₂, sym, ◌∙◌, subst, true≢false, arith}
use Rattle.std.specs.Cmp.{alike_right, bool_cmp_total, Equal-is, IsStrictWeakOrder, IsTotalOrder}
use Rattle.std.specs.List.{All}
use Rattle.std.specs.List.Sorted.{IsPartitionedBy, IsPartitionPoint, IsStableBy, ties}
use Rattle.std.specs.Ordering.{bool_cmp, int_cmp, int_eq, is_eq, is_le, is_lt, nat_cmp, ordering_reverse, ordering_then}
use Rattle.std.specs.declared.cmp.Ordering.{Ordering}
use Rattle.std.specs.declared.cmp.Ordering.TheVariants.{Less, Equal, Greater}
use Rattle.std.proofs.lemmas.Bool.{cases_Bool, ltb-false, ltb-true, not-true}
use Rattle.std.proofs.lemmas.Cmp.{int_cmp_total, nat_cmp_total, on_total, then_total}
use Rattle.std.proofs.lemmas.List.Elements.{All-head, filter_agree, filter_passes}
use Rattle.std.proofs.lemmas.List.Sorted.{ranks_by, sorted_far}
use Rattle.air_source.specs.Units.{same_side}
use Rattle.air_source.specs.declared.events.Side.{Side}
use Rattle.air_source.specs.declared.events.Side.TheVariants.{Ru, Du}
use Rattle.explain_model.specs.Keys.{same_symbol}
use Rattle.explain_records.specs.Keys.{of_symbol}
use Rattle.explain_records.specs.Order.{AreInOrder, comes_first, is_below, is_distributed, is_within, IsEndOf, IsFirstFrom, order_cmp, order_of}
use Rattle.explain_records.specs.declared.keys.OrderKey.{OrderKey}
use Rattle.explain_model.specs.declared.keys.SymbolKey.{SymbolKey}
use Rattle.fh_base.proofs.Orders.{all_three as and_chain}
use Rattle.fh_base.proofs.CommonLemmas.{nat_equal}

-- ---- the order of keys

pub order_total : IsTotalOrder order_cmp
order_total =
    then_total (on_total (λ (k : OrderKey). k.is_distributed) bool_cmp_total)
    (then_total (on_total (λ (k : OrderKey). k.ep) nat_cmp_total)
    (then_total (on_total (λ (k : OrderKey). k.frame) int_cmp_total)
    (then_total (on_total (λ (k : OrderKey). k.subframe) nat_cmp_total)
    (then_total (on_total (λ (k : OrderKey). k.slot) nat_cmp_total) (on_total (λ (k : OrderKey). k.symbol) nat_cmp_total)))))

pub order_ranks : {R : Type 0} (key_of : R → SymbolKey) → IsStrictWeakOrder (comes_first key_of)
order_ranks key_of = ranks_by order_total (λ r. order_of (key_of r))

-- ---- keys that tie are the same

equal_then : (a b : Ordering) → is_eq (ordering_then a b) ≡ (is_eq a && is_eq b)
equal_then Less b = refl
equal_then Equal b = refl
equal_then Greater b = refl

equal_sides : (a b : Side) → is_eq (bool_cmp (is_distributed a) (is_distributed b)) ≡ same_side a b
equal_sides Ru Ru = refl
equal_sides Ru Du = refl
equal_sides Du Ru = refl
equal_sides Du Du = refl

equal_keys : (a b : SymbolKey) → is_eq (order_cmp (order_of a) (order_of b)) ≡ same_symbol a b
equal_keys a b =
    equal_then (bool_cmp (is_distributed a.side) (is_distributed b.side)) _
    ∙ ap₂ (λ x y. x && y) (equal_sides a.side b.side)
    (equal_then (nat_cmp a.ep b.ep) _ ∙ ap₂ (λ x y. x && y) (nat_equal a.ep b.ep)
    (equal_then (int_cmp a.slot.frame b.slot.frame) _
    ∙ ap (λ x. int_eq a.slot.frame b.slot.frame && x)
    (equal_then (nat_cmp a.slot.subframe b.slot.subframe) _
    ∙ ap₂ (λ x y. x && y) (nat_equal a.slot.subframe b.slot.subframe)
    (equal_then (nat_cmp a.slot.slot b.slot.slot) _ ∙ ap₂ (λ x y. x && y) (nat_equal a.slot.slot b.slot.slot) (nat_equal a.symbol b.symbol)))
    ∙ and_chain (int_eq a.slot.frame b.slot.frame) (a.slot.subframe == b.slot.subframe) (a.slot.slot == b.slot.slot) (a.symbol == b.symbol)))

-- neither precedes the other
level : (r : Ordering) → (not (is_lt (ordering_reverse r)) && not (is_lt r)) ≡ is_eq r
level Less = refl
level Equal = refl
level Greater = refl

pub tied : {R : Type 0} (key_of : R → SymbolKey) (x r : R) → ties (comes_first key_of) x r ≡ same_symbol (key_of r) (key_of x)
tied key_of x r =
    ap (λ (o : Ordering). not (is_lt o) && not (is_lt (order_cmp (order_of (key_of r)) (order_of (key_of x))))) (order_total.antisymm (order_of (key_of x)) (order_of (key_of r)))
    ∙ level (order_cmp (order_of (key_of r)) (order_of (key_of x))) ∙ equal_keys (key_of r) (key_of x)

-- ---- those of a key stay in their order

passes_first : {R : Type 0} (p : R → Bool) (rs : List R) (x : R) (xs : List R) → filter p rs ≡ x ∷ xs → p x ≡ true
passes_first p rs x xs e = All-head (λ r. p r ≡ true) x xs (subst (All (λ r. p r ≡ true)) e (filter_passes p rs))

-- the records of the key of one that has the key
as_of : {R : Type 0} (key_of : R → SymbolKey) (key : SymbolKey) (x : R) → same_symbol (key_of x) key ≡ true → (r : R) → ties (comes_first key_of) x r ≡ same_symbol (key_of r) key
as_of key_of key x h r =
    let alike : order_cmp (order_of (key_of x)) (order_of key) ≡ Equal = (Equal-is (order_cmp (order_of (key_of x)) (order_of key))).0 (equal_keys (key_of x) key ∙ h) in
    tied key_of x r ∙ sym (equal_keys (key_of r) (key_of x))
    ∙ ap is_eq (alike_right order_total (order_of (key_of x)) (order_of key) (order_of (key_of r)) alike)
    ∙ equal_keys (key_of r) key

stays : {R : Type 0} (key_of : R → SymbolKey) (key : SymbolKey) (before now : List R) → IsStableBy (comes_first key_of) before now → (x : R) → same_symbol (key_of x) key ≡ true
    → of_symbol key_of key now ≡ of_symbol key_of key before
stays key_of key before now stable x h =
    sym (filter_agree (ties (comes_first key_of) x) (λ r. same_symbol (key_of r) key) (as_of key_of key x h) now) ∙ stable x
    ∙ filter_agree (ties (comes_first key_of) x) (λ r. same_symbol (key_of r) key) (as_of key_of key x h) before

pub same_records : {R : Type 0} (key_of : R → SymbolKey) (before now : List R) → IsStableBy (comes_first key_of) before now → (key : SymbolKey)
    → of_symbol key_of key now ≡ of_symbol key_of key before
same_records {R} key_of before now stable key = go (of_symbol key_of key now) refl (of_symbol key_of key before) refl
  where
    go : (xs : List R) → of_symbol key_of key now ≡ xs → (ys : List R) → of_symbol key_of key before ≡ ys → of_symbol key_of key now ≡ of_symbol key_of key before
    go [] e [] f = e ∙ sym f
    go (x ∷ xs) e ys f = stays key_of key before now stable x (passes_first (λ r. same_symbol (key_of r) key) now x xs e)
    go [] e (y ∷ ys) f = stays key_of key before now stable y (passes_first (λ r. same_symbol (key_of r) key) before y ys f)

-- ---- what a search finds

pub parts_below : {R : Type 0} (key_of : R → SymbolKey) (wanted : OrderKey) (rs : List R) → AreInOrder key_of rs → IsPartitionedBy (is_below key_of wanted) rs
parts_below key_of wanted rs up i j d le lt h = go (is_below key_of wanted (get_or rs i d)) refl
  where
    go : (b : Bool) → is_below key_of wanted (get_or rs i d) ≡ b → b ≡ true
    go true e = refl
    go false e = absurd (true≢false (sym h ∙ (ranks_by order_total (λ (k : OrderKey). k)).chain (order_of (key_of (get_or rs j d))) (order_of (key_of (get_or rs i d))) wanted
        (sorted_far (comes_first key_of) (order_ranks key_of) rs up i j d le lt) e))

not_after : (r : Ordering) → is_le r ≡ not (is_lt (ordering_reverse r))
not_after Less = refl
not_after Equal = refl
not_after Greater = refl

within_is : {R : Type 0} (key_of : R → SymbolKey) (wanted : OrderKey) (r : R) → is_within key_of wanted r ≡ not (is_lt (order_cmp wanted (order_of (key_of r))))
within_is key_of wanted r =
    not_after (order_cmp (order_of (key_of r)) wanted) ∙ ap (λ o. not (is_lt o)) (sym (order_total.antisymm wanted (order_of (key_of r))))

pub parts_within : {R : Type 0} (key_of : R → SymbolKey) (wanted : OrderKey) (rs : List R) → AreInOrder key_of rs → IsPartitionedBy (is_within key_of wanted) rs
parts_within key_of wanted rs up i j d le lt h =
    within_is key_of wanted (get_or rs i d)
    ∙ ap not ((ranks_by order_total (λ (k : OrderKey). k)).chain wanted (order_of (key_of (get_or rs j d))) (order_of (key_of (get_or rs i d)))
    (not-true _ (sym (within_is key_of wanted (get_or rs j d)) ∙ h))
    (sorted_far (comes_first key_of) (order_ranks key_of) rs up i j d le lt))

-- a place in a list, without its first element
abbrev pub Parted : {X : Type 0} → (X → Bool) → List X → ℕ → Type 0
Parted p xs at = IsPartitionPoint (λ x. p x ≡ true) (λ x. p x ≡ false) xs at

tail_parted : {X : Type 0} (p : X → Bool) (x : X) (xs : List X) (at : ℕ) → Parted p (x ∷ xs) (suc at) → Parted p xs at
tail_parted p x xs at h = (λ k d low high. h.0 (suc k) d (omega arith) (omega (arith, high)), λ k d low high. h.1 (suc k) d (omega (arith, low)) (omega (arith, high)))

tail_all : {X : Type 0} (p : X → Bool) (x : X) (xs : List X) → Parted p (x ∷ xs) 0 → Parted p xs 0
tail_all p x xs h = (λ k d low high. absurd (omega (arith, high)), λ k d low high. h.1 (suc k) d (omega arith) (omega (arith, high)))

-- the elements from one place up to another pass both tests
between : {X : Type 0} (p q : X → Bool) (xs : List X) (first end : ℕ) → Parted p xs first → Parted q xs end → first ≤ length xs → end ≤ length xs
    → take (end - first) (drop first xs) ≡ filter (λ x. not (p x) && q x) xs
between p q [] zero zero a b le lf = refl
between p q [] (suc first) end a b le lf = absurd (omega (arith, le))
between p q [] zero (suc end) a b le lf = absurd (omega (arith, lf))
between p q (x ∷ xs) zero zero a b le lf =
    let out : q x ≡ false = b.1 0 x (omega arith) (omega arith) in
    let into : p x ≡ false = a.1 0 x (omega arith) (omega arith) in
    let rest = between p q xs zero zero (tail_all p x xs a) (tail_all q x xs b) (omega arith) (omega arith) in
    rw (into, out) rest
between p q (x ∷ xs) zero (suc end) a b le lf =
    let here : q x ≡ true = b.0 0 x (omega arith) (omega arith) in
    let into : p x ≡ false = a.1 0 x (omega arith) (omega arith) in
    let rest = between p q xs zero end (tail_all p x xs a) (tail_parted q x xs end b) (omega arith) (omega (arith, lf)) in
    let n : suc end - 0 ≡ suc (end - 0) = omega arith in
    rw (into, here) (ap (λ k. take k (x ∷ xs)) n ∙ ap (λ ys. x ∷ ys) rest)
between p q (x ∷ xs) (suc first) zero a b le lf =
    let before : p x ≡ true = a.0 0 x (omega arith) (omega arith) in
    let rest = between p q xs first zero (tail_parted p x xs first a) (tail_all q x xs b) (omega (arith, le)) (omega arith) in
    let n : 0 - suc first ≡ 0 - first = omega arith in
    rw before (ap (λ k. take k (drop first xs)) n ∙ rest)
between p q (x ∷ xs) (suc first) (suc end) a b le lf =
    let before : p x ≡ true = a.0 0 x (omega arith) (omega arith) in
    let rest = between p q xs first end (tail_parted p x xs first a) (tail_parted q x xs end b) (omega (arith, le)) (omega (arith, lf)) in
    let n : suc end - suc first ≡ end - first = omega arith in
    rw before (ap (λ k. take k (drop first xs)) n ∙ rest)

within_below : (r : Ordering) → is_lt r ≡ true → is_le r ≡ true
within_below Less e = refl
within_below Equal e = cc
within_below Greater e = cc

pub in_bounds : {R : Type 0} (key_of : R → SymbolKey) (wanted : OrderKey) (rs : List R) (first end : ℕ) → IsFirstFrom key_of wanted rs first → IsEndOf key_of wanted rs end → first ≤ end
in_bounds {R} key_of wanted [] first end a b = let m = a.most in omega (arith, m)
in_bounds {R} key_of wanted (x ∷ xs) first end a b = elim (cases_Bool (nat_lt end first)) [
  | inr f ↦ ltb-false end first f
  | inl t ↦
      let m = a.most in
      let lt : end < first = ltb-true end first t in
      let below : is_below key_of wanted (get_or (x ∷ xs) end x) ≡ true = a.parted.0 end x (omega arith) lt in
      let out : is_within key_of wanted (get_or (x ∷ xs) end x) ≡ false = b.parted.1 end x (omega arith) (omega (arith, lt, m)) in
      absurd (true≢false (sym (within_below (order_cmp (order_of (key_of (get_or (x ∷ xs) end x))) wanted) below) ∙ out))
]

only_equal : (r : Ordering) → (not (is_lt r) && is_le r) ≡ is_eq r
only_equal Less = refl
only_equal Equal = refl
only_equal Greater = refl

pub found : {R : Type 0} (key_of : R → SymbolKey) (key : SymbolKey) (rs : List R) (first end : ℕ) → IsFirstFrom key_of (order_of key) rs first → IsEndOf key_of (order_of key) rs end
    → take (end - first) (drop first rs) ≡ of_symbol key_of key rs
found key_of key rs first end a b =
    between (is_below key_of (order_of key)) (is_within key_of (order_of key)) rs first end a.parted b.parted a.most b.most
    ∙ filter_agree (λ r. not (is_below key_of (order_of key) r) && is_within key_of (order_of key) r) (λ r. same_symbol (key_of r) key)
    (λ r. only_equal (order_cmp (order_of (key_of r)) (order_of key)) ∙ equal_keys (key_of r) key) rs
