-- The order of arrivals, as callers meet it.
use Rattle.std.proofs.Common.{◌≡◌, ℤ, ◌<◌, ◌<ℤ◌, ◌≤ℤ◌, Bool, true, false, refl, arith, ap, sym, ◌∙◌}
use Rattle.std.specs.Cmp.{IsTotalOrder, then_total, on_total, nat_cmp_total, int_cmp_total, bool_cmp_total, tied_itself, upto}
use Rattle.std.specs.Ordering.{int_cmp, is_lt, is_gt, ordering_then, ordering_reverse}
use Rattle.std.specs.declared.cmp.Ordering.{Ordering}
use Rattle.std.specs.declared.cmp.Ordering.TheVariants.{Less, Equal, Greater}
use Rattle.std.proofs.lemmas.Bool.Decides.{nat_tests}
use Rattle.std.proofs.lemmas.Int.{ints}
use Rattle.frame_ways.specs.declared.arrivals.Arrival.{Arrival}
use Rattle.frame_ways.specs.Network.{is_to_du, key_cmp, arrival_cmp, is_after}
use Rattle.fh_base.proofs.Orders.{nat_less, int_less}

key_total : IsTotalOrder key_cmp
key_total = then_total (on_total (λ k. k.injected) bool_cmp_total) (then_total (on_total (λ k. k.place) nat_cmp_total) (on_total (λ k. k.copy) nat_cmp_total))

pub arrival_total : IsTotalOrder arrival_cmp
arrival_total = then_total (on_total (λ a. a.at.0) int_cmp_total) (then_total (on_total (λ a. is_to_du a.side) bool_cmp_total) (on_total (λ a. a.key) key_total))

-- ---- one is after another, or it is not

less_is : (o : Ordering) → is_lt o ≡ true → o ≡ Less
less_is Less h = refl
less_is Equal h = cc
less_is Greater h = cc

less_turned : (o p : Ordering) → p ≡ ordering_reverse o → is_lt o ≡ true → is_lt p ≡ false
less_turned Less p e h = rw e refl
less_turned Equal p e h = cc
less_turned Greater p e h = cc

greater_turned : (o p : Ordering) → p ≡ ordering_reverse o → is_lt p ≡ is_gt o
greater_turned Less p e = rw e refl
greater_turned Equal p e = rw e refl
greater_turned Greater p e = rw e refl

-- read the other way round
pub after_turned : (a b : Arrival) → is_after a b ≡ is_gt (arrival_cmp a b)
after_turned a b = greater_turned (arrival_cmp a b) (arrival_cmp b a) (arrival_total.antisymm b a)

-- of two arrivals, one at most is after the other
pub not_after : (a b : Arrival) → is_after b a ≡ true → is_after a b ≡ false
not_after a b h = less_turned (arrival_cmp a b) (arrival_cmp b a) (arrival_total.antisymm b a) h

pub after_chain : (a b c : Arrival) → is_after b a ≡ true → is_after c b ≡ true → is_after c a ≡ true
after_chain a b c h k = ap is_lt (arrival_total.trans a b c (less_is (arrival_cmp a b) h) (less_is (arrival_cmp b c) k))

pub not_after_chain : (a b c : Arrival) → is_after a b ≡ false → is_after b c ≡ false → is_after a c ≡ false
not_after_chain a b c h k = after_turned a c ∙ upto arrival_total a b c (sym (after_turned a b) ∙ h) (sym (after_turned b c) ∙ k)

-- what is not after one that is before a third is before the third
pub after_not_after_chain : (a b c : Arrival) → is_after b a ≡ true → is_after b c ≡ false → is_after c a ≡ true
after_not_after_chain a b c h k = go (is_after c a) refl
  where
    go : (t : Bool) → is_after c a ≡ t → is_after c a ≡ true
    go true e = e
    go false e = let back = not_after_chain b c a k e in cc

-- ---- times and places

pub int_le : (x y : ℤ) → is_gt (int_cmp x y) ≡ false → x ≤ℤ y
int_le x y h = grind (arith, ints, nat_tests)

-- what is not after by both is not after by the first
pub first_le : (o q : Ordering) → is_gt (ordering_then o q) ≡ false → is_gt o ≡ false
first_le Less q h = refl
first_le Equal q h = refl
first_le Greater q h = h

-- one of a later time is after
pub later_is_after : (a b : Arrival) → a.at.0 <ℤ b.at.0 → is_after b a ≡ true
later_is_after a b h = rw (int_less a.at.0 b.at.0 h) refl

-- one of an earlier time is not
pub earlier_is_not_after : (a b : Arrival) → a.at.0 <ℤ b.at.0 → is_after a b ≡ false
earlier_is_not_after a b h = not_after a b (later_is_after a b h)

-- at one time and unit, and both injected or both sent, the one of the later place is after
pub later_place_is_after : (a b : Arrival) → a.at ≡ b.at → a.side ≡ b.side → a.key.injected ≡ b.key.injected → a.key.place < b.key.place → is_after b a ≡ true
later_place_is_after a b time unit way later =
    rw (time, unit, way) (rw (tied_itself int_cmp_total b.at.0, tied_itself bool_cmp_total (is_to_du b.side), tied_itself bool_cmp_total b.key.injected, nat_less a.key.place b.key.place later) refl)

-- and the one of the earlier place is not
pub earlier_place_is_not_after : (a b : Arrival) → a.at ≡ b.at → a.side ≡ b.side → a.key.injected ≡ b.key.injected → a.key.place < b.key.place → is_after a b ≡ false
earlier_place_is_not_after a b time unit way later = not_after a b (later_place_is_after a b time unit way later)
