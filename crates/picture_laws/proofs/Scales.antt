-- Where times are, and how wide and how high rectangles are.
use Rattle.std.proofs.Common.{◌≡◌, ℕ, ◌+◌, ◌-◌, ◌*◌, ◌<◌, ◌≤◌, ◌&&◌, not, true, false, Bool, ℤ, pos, negsuc, ◌-ℤ◌, int_lt, nat_lt, min, max, refl, sym, subst, arith, div-lt_iff_lt-mul, mul-le-mul_left, mul-add, mul_comm, mul-le-mul}
use Rattle.std.specs.Prelude.{if◌then◌else◌}
use Rattle.std.proofs.lemmas.Bool.Decides.{nat_tests}
use Rattle.std.proofs.lemmas.Int.{ints}
use Rattle.pictures.specs.Scales.{or_zero, scaled}
use Rattle.pictures.proofs.Scaling.{part_most}
use Rattle.pictures.specs.Areas.{width_of}

-- a number under the whole is before the end
pub before_end : (n w p : ℕ) → n < w → 0 < p → scaled n w p < p
unfolding scaled
before_end n w p lt some =
    let same : min n w ≡ n = omega arith in
    let less : min n w * p < p * w = mul_less (min n w) w p (omega arith) some in
    (div-lt_iff_lt-mul {k = w} {x = min n w * p} {y = p} (omega arith)).1 less
  where
    mul_less : (a b p : ℕ) → a < b → 0 < p → a * p < p * b
    mul_less a b p lt some =
        let more : p * (a + 1) ≤ p * b = mul-le-mul_left p (omega arith) in
        let spread : p * (a + 1) ≡ p * a + p * 1 = mul-add p a 1 in
        let same : a * p ≡ p * a = mul_comm a p in
        omega (arith, more, spread, same)

pub at_most : (n w p : ℕ) → 0 < w → scaled n w p ≤ p
unfolding scaled
at_most n w p some = part_most (min n w) p w some (omega arith)

-- a time in a range is less than its length after its start
pub past_in : (at : ℤ) (b l : ℕ) → (not (int_lt at (pos b)) && int_lt at (pos (b + l))) ≡ true → or_zero (at -ℤ pos b) < l
past_in (pos n) b l e = go (nat_lt n b) (nat_lt n (b + l)) refl refl e
  where
    go : (x y : Bool) → nat_lt n b ≡ x → nat_lt n (b + l) ≡ y → (not x && y) ≡ true → or_zero (pos n -ℤ pos b) < l
    go false true low high e =
        let least : b ≤ n = grind (arith, nat_tests) in
        let most : n < b + l = grind (arith, nat_tests) in
        let same : pos n -ℤ pos b ≡ pos (n - b) = omega (arith, ints) in
        subst (λ (z : ℤ). or_zero z < l) (sym same) (omega arith)
    go false false low high e = cc
    go true y low high e = cc
past_in (negsuc n) b l e = cc

-- from a place before the end on
pub width_in : (from to end : ℕ) → from < end → to ≤ end → from + width_of from to ≤ end
width_in from to end lt le = go (nat_lt 3 (to - from))
  where
    go : (t : Bool) → from + (if t then to - from - 1 else max (to - from) 1) ≤ end
    go true = omega arith
    go false = omega arith

pub width_some : (from to : ℕ) → 1 ≤ width_of from to
width_some from to = go (nat_lt 3 (to - from)) refl
  where
    go : (t : Bool) → nat_lt 3 (to - from) ≡ t → 1 ≤ (if t then to - from - 1 else max (to - from) 1)
    go true more = let above : 3 < to - from = grind (arith, nat_tests) in omega arith
    go false more = omega arith

-- some PRBs and those above them are not higher than the carrier
pub rows_in : (p prb num all : ℕ) → prb + num ≤ all → p * (all - (prb + num)) + p * num ≤ p * all
rows_in p prb num all within =
    let both : p * (all - (prb + num) + num) ≡ p * (all - (prb + num)) + p * num = mul-add p (all - (prb + num)) num in
    let most : p * (all - (prb + num) + num) ≤ p * all = mul-le-mul_left p (omega arith) in
    omega (arith, both, most)

pub some_rows : (p num : ℕ) → 1 ≤ p → 1 ≤ num → 1 ≤ p * num
some_rows p num high some = mul-le-mul high some
