-- The least and the greatest of results.
use Rattle.std.proofs.Common.{◌≡◌, ℕ, zero, suc, ℤ, ◌≤ℤ◌, List, [], ◌∷◌, length, refl, sym, ap, ◌∙◌, arith, inl, inr, ◌⊎◌}
use Rattle.std.specs.Prelude.{Contains}
use Rattle.std.specs.Int.{int_min, int_max}
use Rattle.std.proofs.lemmas.Int.{ints, by_lt_z}
use Rattle.std.proofs.lemmas.List.Elements.{All-cons, All-nil, All-head, All-tail, All-contains}
use Rattle.air_source.specs.declared.events.Side.{Side}
use Rattle.delay_measure.specs.Past.{IsLeast, IsGreatest}
use Rattle.report_airs.specs.Results.{range_line, delays_text, least_of, greatest_of}

-- one of two
pub record IsLower (z y m : ℤ) : Type 0 where
  pub first : m ≤ℤ z
  pub second : m ≤ℤ y
  pub one : (m ≡ z) ⊎ (m ≡ y)

pub record IsHigher (z y m : ℤ) : Type 0 where
  pub first : z ≤ℤ m
  pub second : y ≤ℤ m
  pub one : (m ≡ z) ⊎ (m ≡ y)

lower : (z y : ℤ) → IsLower z y (int_min z y)
lower z y = by_lt_z y z
    (λ lt. let is : int_min z y ≡ y = grind (arith, ints) in record { first = omega (arith, ints, is, lt); second = omega (arith, ints, is); one = inr is })
    (λ le. let is : int_min z y ≡ z = grind (arith, ints) in record { first = omega (arith, ints, is); second = omega (arith, ints, is, le); one = inl is })

higher : (z y : ℤ) → IsHigher z y (int_max z y)
higher z y = by_lt_z y z
    (λ lt. let is : int_max z y ≡ z = grind (arith, ints) in record { first = omega (arith, ints, is); second = omega (arith, ints, is, lt); one = inl is })
    (λ le. let is : int_max z y ≡ y = grind (arith, ints) in record { first = omega (arith, ints, is, le); second = omega (arith, ints, is); one = inr is })

-- what is in a list about one of two is in the list about both
inside : (z y m r : ℤ) (ys : List ℤ) → (m ≡ z) ⊎ (m ≡ y) → Contains (m ∷ ys) r → Contains (z ∷ y ∷ ys) r
inside z y m r ys (inl is) (zero, lt, e) = (0, omega arith, sym is ∙ e)
inside z y m r ys (inr is) (zero, lt, e) = (1, omega arith, sym is ∙ e)
inside z y m r ys one (suc k, lt, e) = (suc (suc k), omega arith, e)

least_is : (z : ℤ) (zs : List ℤ) → IsLeast (z ∷ zs) (least_of z zs)
least_is z [] = record { inside = (0, omega arith, refl); below = All-cons (λ y. z ≤ℤ y) z [] (omega (arith, ints)) (All-nil (λ y. z ≤ℤ y)) }
least_is z (y ∷ ys) =
    let m = int_min z y in
    let r = least_of m ys in
    let h = least_is m ys in
    let l = lower z y in
    let here = All-head (λ x. r ≤ℤ x) m ys h.below in
    record {
      inside = inside z y m r ys l.one h.inside;
      below = All-cons (λ x. r ≤ℤ x) z (y ∷ ys) (omega (arith, ints, here, l.first)) (All-cons (λ x. r ≤ℤ x) y ys (omega (arith, ints, here, l.second)) (All-tail (λ x. r ≤ℤ x) m ys h.below));
    }

greatest_is : (z : ℤ) (zs : List ℤ) → IsGreatest (z ∷ zs) (greatest_of z zs)
greatest_is z [] = record { inside = (0, omega arith, refl); above = All-cons (λ y. y ≤ℤ z) z [] (omega (arith, ints)) (All-nil (λ y. y ≤ℤ z)) }
greatest_is z (y ∷ ys) =
    let m = int_max z y in
    let r = greatest_of m ys in
    let h = greatest_is m ys in
    let l = higher z y in
    let here = All-head (λ x. x ≤ℤ r) m ys h.above in
    record {
      inside = inside z y m r ys l.one h.inside;
      above = All-cons (λ x. x ≤ℤ r) z (y ∷ ys) (omega (arith, ints, here, l.first)) (All-cons (λ x. x ≤ℤ r) y ys (omega (arith, ints, here, l.second)) (All-tail (λ x. x ≤ℤ r) m ys h.above));
    }

-- there is one least and one greatest
one_least : (zs : List ℤ) (a b : ℤ) → IsLeast zs a → IsLeast zs b → a ≡ b
one_least zs a b h k =
    let low = All-contains (λ y. a ≤ℤ y) zs b h.below k.inside in
    let high = All-contains (λ y. b ≤ℤ y) zs a k.below h.inside in
    omega (arith, ints, low, high)

one_greatest : (zs : List ℤ) (a b : ℤ) → IsGreatest zs a → IsGreatest zs b → a ≡ b
one_greatest zs a b h k =
    let low = All-contains (λ y. y ≤ℤ a) zs b h.above k.inside in
    let high = All-contains (λ y. y ≤ℤ b) zs a k.above h.inside in
    omega (arith, ints, low, high)

-- the line of the results that are kept
pub range_is : (side : Side) (n : ℕ) (zs : List ℤ) (least greatest : ℤ) → n ≡ length zs → IsLeast zs least → IsGreatest zs greatest → range_line side n least greatest ≡ delays_text side zs
range_is side n [] least greatest is low high = absurd (omega (arith, low.inside.1))
range_is side n (z ∷ zs) least greatest is low high =
    ap (λ k. range_line side k least greatest) is
    ∙ ap (λ l. range_line side (length (z ∷ zs)) l greatest) (one_least (z ∷ zs) least (least_of z zs) low (least_is z zs))
    ∙ ap (λ g. range_line side (length (z ∷ zs)) (least_of z zs) g) (one_greatest (z ∷ zs) greatest (greatest_of z zs) high (greatest_is z zs))
