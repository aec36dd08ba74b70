-- What it does to the arrivals of a network to put one more in, for callers.
use Rattle.std.proofs.Common.{◌≡◌, Bool, true, false, List, [], ◌∷◌, ◌++◌, All, refl, ap, sym, ◌∙◌, arith}
use Rattle.std.specs.Prelude.{if◌then◌else◌, slice_index_or}
use Rattle.std.specs.List.{filter}
use Rattle.std.proofs.lemmas.List.Elements.{All-cons, All-tail, All-head}
use Rattle.frame_ways.specs.declared.arrivals.Arrival.{Arrival}
use Rattle.frame_ways.specs.Network.{is_after, put_in, IsInOrder}
use Rattle.frame_ways.proofs.NetworkOrder.{not_after, after_not_after_chain, not_after_chain}

all_at : (P : Arrival → Type 0) (a b : Arrival) (bs : List Arrival) (t : Bool) → P a → All P (b ∷ bs) → All P (put_in a bs)
    → All P (if t then a ∷ b ∷ bs else b ∷ put_in a bs)
all_at P a b bs true here rest more = All-cons P a (b ∷ bs) here rest
all_at P a b bs false here rest more = All-cons P b (put_in a bs) (All-head P b bs rest) more

-- what holds of it and of all that were held holds of all
pub All-put_in : (P : Arrival → Type 0) (a : Arrival) (xs : List Arrival) → P a → All P xs → All P (put_in a xs)
All-put_in P a [] here rest = All-cons P a [] here rest
All-put_in P a (b ∷ bs) here rest = all_at P a b bs (is_after b a) here rest (All-put_in P a bs here (All-tail P b bs rest))

-- ---- a list in order

-- before one that is after it, an arrival is not after any that follows
none_behind : (a b : Arrival) (bs : List Arrival) → is_after b a ≡ true → IsInOrder (b ∷ bs) → All (λ x. is_after a x ≡ false) (b ∷ bs)
none_behind a b bs h order =
    All-cons (λ x. is_after a x ≡ false) b bs (not_after a b h)
    (λ k d lt. not_after_chain a b (slice_index_or bs k d) (not_after a b h) (order.0 k d lt))

order_at : (a b : Arrival) (bs : List Arrival) (t : Bool) → is_after b a ≡ t → IsInOrder (b ∷ bs) → IsInOrder (put_in a bs)
    → IsInOrder (if t then a ∷ b ∷ bs else b ∷ put_in a bs)
order_at a b bs true h order rest = (none_behind a b bs h order, order)
order_at a b bs false h order rest = (All-put_in (λ x. is_after b x ≡ false) a bs h order.0, rest)

-- a list in order stays in order
pub IsInOrder-put_in : (a : Arrival) (xs : List Arrival) → IsInOrder xs → IsInOrder (put_in a xs)
IsInOrder-put_in a [] order = (λ k d lt. absurd (omega arith), tt)
IsInOrder-put_in a (b ∷ bs) order = order_at a b bs (is_after b a) refl order (IsInOrder-put_in a bs order.1)

-- ---- the arrivals of one kind, as those of one time

abbrev kept : Bool → Arrival → List Arrival → List Arrival
kept t x xs = if t then x ∷ xs else xs

other_at : (p : Arrival → Bool) (a b : Arrival) (bs : List Arrival) (t : Bool) → p a ≡ false → filter p (put_in a bs) ≡ filter p bs
    → filter p (if t then a ∷ b ∷ bs else b ∷ put_in a bs) ≡ filter p (b ∷ bs)
other_at p a b bs true other rest = rw other refl
other_at p a b bs false other rest = ap (kept (p b) b) rest

-- those of another kind stay as they are
pub filter-put_in_other : (p : Arrival → Bool) (a : Arrival) (xs : List Arrival) → p a ≡ false → filter p (put_in a xs) ≡ filter p xs
filter-put_in_other p a [] other = rw other refl
filter-put_in_other p a (b ∷ bs) other = other_at p a b bs (is_after b a) other (filter-put_in_other p a bs other)

pub filter_none : (p : Arrival → Bool) (xs : List Arrival) → All (λ x. p x ≡ false) xs → filter p xs ≡ []
filter_none p [] h = refl
filter_none p (x ∷ xs) h = rw (All-head (λ x. p x ≡ false) x xs h) (filter_none p xs (All-tail (λ x. p x ≡ false) x xs h))

-- those of a kind that are not after an arrival
abbrev pub IsLastOf : (Arrival → Bool) → Arrival → Arrival → Type 0
IsLastOf p a x = p x ≡ true → is_after x a ≡ false

not_of_kind : (t u : Bool) → (t ≡ true → u ≡ false) → u ≡ true → t ≡ false
not_of_kind true u h e = let f : u ≡ false = h refl in cc
not_of_kind false u h e = refl

none_of_kind : (p : Arrival → Bool) (a b : Arrival) (bs : List Arrival) → is_after b a ≡ true → IsInOrder (b ∷ bs) → All (IsLastOf p a) (b ∷ bs)
    → All (λ x. p x ≡ false) (b ∷ bs)
none_of_kind p a b bs h order last =
    All-cons (λ x. p x ≡ false) b bs (not_of_kind (p b) (is_after b a) (All-head (IsLastOf p a) b bs last) h)
    (λ k d lt. let x = slice_index_or bs k d in
    not_of_kind (p x) (is_after x a) (All-tail (IsLastOf p a) b bs last k d lt) (after_not_after_chain a b x h (order.0 k d lt)))

last_at : (p : Arrival → Bool) (a b : Arrival) (bs : List Arrival) (t : Bool) → is_after b a ≡ t → p a ≡ true → IsInOrder (b ∷ bs) → All (IsLastOf p a) (b ∷ bs)
    → filter p (put_in a bs) ≡ filter p bs ++ a ∷ []
    → filter p (if t then a ∷ b ∷ bs else b ∷ put_in a bs) ≡ filter p (b ∷ bs) ++ a ∷ []
last_at p a b bs true h of order last rest =
    let none = filter_none p (b ∷ bs) (none_of_kind p a b bs h order last) in
    rw of (ap (λ xs. a ∷ xs) none ∙ sym (ap (λ xs. xs ++ a ∷ []) none))
last_at p a b bs false h of order last rest = ap (kept (p b) b) rest ∙ kept_more (p b)
  where
    kept_more : (u : Bool) → kept u b (filter p bs ++ a ∷ []) ≡ kept u b (filter p bs) ++ a ∷ []
    kept_more true = refl
    kept_more false = refl

-- to those of a kind, one that is after none of them is last
pub filter-put_in_last : (p : Arrival → Bool) (a : Arrival) (xs : List Arrival) → p a ≡ true → IsInOrder xs → All (IsLastOf p a) xs
    → filter p (put_in a xs) ≡ filter p xs ++ a ∷ []
filter-put_in_last p a [] of order last = rw of refl
filter-put_in_last p a (b ∷ bs) of order last =
    last_at p a b bs (is_after b a) refl of order last (filter-put_in_last p a bs of order.1 (All-tail (IsLastOf p a) b bs last))
