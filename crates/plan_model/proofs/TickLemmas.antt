-- Numbers and ticks that are the same or not, and lists over ticks.
use Rattle.std.proofs.Common.{◌≡◌, ℕ, ℤ, zero, suc, pos, ◌+ℤ◌, ◌≤ℤ◌, ◌⊎◌, inl, inr, Bool, true, false, List, ◌++◌, refl, ap₂, sym, ◌∙◌, arith}
use Rattle.std.specs.Ordering.{int_eq, int_cmp, nat_cmp}
use Rattle.std.specs.declared.cmp.Ordering.TheVariants.{Equal}
use Rattle.std.proofs.lemmas.Bool.Decides.{Decides-int_eq, nat_tests}
use Rattle.std.proofs.lemmas.Int.{ints}
use Rattle.fh_base.specs.Lists.{each_tick}

pub int_cases : (a b : ℤ) → (a ≡ b) ⊎ (int_eq a b ≡ false)
int_cases a b = go (int_eq a b) refl
  where
    go : (r : Bool) → int_eq a b ≡ r → (a ≡ b) ⊎ (int_eq a b ≡ false)
    go true e = inl ((Decides-int_eq a b).0 e)
    go false e = inr e

pub same_not : (a b : ℤ) → a ≡ b → int_eq a b ≡ false → ⊥
same_not a b e h = let t : int_eq a b ≡ true = (Decides-int_eq a b).1 e in let d = sym t ∙ h in cc

pub next_tick : (a b : ℤ) → a ≤ℤ b → (b ≡ a → ⊥) → (a +ℤ pos 1) ≤ℤ b
next_tick a b le ne = grind (arith, ints)

pub nat_same : (x y : ℕ) → x ≡ y → nat_cmp x y ≡ Equal
nat_same x y h = grind (arith, nat_tests)

pub int_same : (x y : ℤ) → x ≡ y → int_cmp x y ≡ Equal
int_same x y h = grind (arith, ints, nat_tests)

-- ---- lists over ticks

pub ticks_same : {X : Type 0} (from : ℤ) (n : ℕ) (f g : ℤ → List X) → ((t : ℤ) → from ≤ℤ t → f t ≡ g t) → each_tick from n f ≡ each_tick from n g
unfolding each_tick
ticks_same from zero f g same = refl
ticks_same from (suc n) f g same = ap₂ ◌++◌ (same from at_most) (ticks_same (from +ℤ pos 1) n f g (λ t low. same t (before t low)))
  where
    at_most : from ≤ℤ from
    at_most = omega (arith, ints)

    before : (t : ℤ) → (from +ℤ pos 1) ≤ℤ t → from ≤ℤ t
    before t low = omega (arith, ints, low)
