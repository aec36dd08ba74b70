-- How high bars are.
use Rattle.std.proofs.Common.{◌≡◌, ℕ, zero, suc, ◌+◌, ◌*◌, ◌/◌, ◌<◌, ◌≤◌, List, [], ◌∷◌, length, Bool, true, false, ◌==◌, max, min, get_or, inl, inr, refl, arith, mul-add, mul-le-mul_left}
use Rattle.std.specs.Prelude.{if◌then◌else◌}
use Rattle.std.specs.List.{fold}
use Rattle.std.proofs.lemmas.Bool.{cases_lt}
use Rattle.pictures.specs.Scales.{scaled}
use Rattle.pictures.specs.Counts.{no_counts}
use Rattle.pictures.specs.declared.tallies.Counts.{Counts}
use Rattle.pictures.specs.Bars.{height_of, most_of, sum_of}

-- ---- no column has more than the most

grows : (a : ℕ) (xs : List Counts) → a ≤ fold (λ most c. max most (sum_of c)) a xs
grows a [] = omega arith
grows a (x ∷ xs) = omega (arith, grows (max a (sum_of x)) xs)

among : (a : ℕ) (xs : List Counts) (k : ℕ) → k < length xs → sum_of (get_or xs k no_counts) ≤ fold (λ most c. max most (sum_of c)) a xs
among a [] k lt = absurd (omega arith)
among a (x ∷ xs) zero lt = omega (arith, grows (max a (sum_of x)) xs)
among a (x ∷ xs) (suc k) lt = among (max a (sum_of x)) xs k (omega arith)

pub sum_most : (columns : List Counts) (k : ℕ) → k < length columns → sum_of (get_or columns k no_counts) ≤ most_of columns
sum_most columns k lt = among 0 columns k lt

-- ---- three parts of a scale are no more than it

three_parts : (a b c w : ℕ) → 0 < w → a + b + c ≤ w → a * 48 / w + b * 48 / w + c * 48 / w ≤ 48
three_parts a b c w some within =
    elim (cases_lt 48 (a * 48 / w + b * 48 / w + c * 48 / w)) [
      | inl lt ↦
          let above : w * 49 ≤ w * (a * 48 / w + b * 48 / w + c * 48 / w) = mul-le-mul_left w (omega arith) in
          let two : w * (a * 48 / w + b * 48 / w + c * 48 / w) ≡ w * (a * 48 / w + b * 48 / w) + w * (c * 48 / w) = mul-add w (a * 48 / w + b * 48 / w) (c * 48 / w) in
          let one : w * (a * 48 / w + b * 48 / w) ≡ w * (a * 48 / w) + w * (b * 48 / w) = mul-add w (a * 48 / w) (b * 48 / w) in
          absurd (omega arith)
      | inr ge ↦ ge
    ]

scaled_less : (n w : ℕ) → n ≤ w → scaled n w 48 ≡ n * 48 / w
unfolding scaled
scaled_less n w within = let same : min n w ≡ n = omega arith in rw same refl

height_least : (n most : ℕ) → height_of n most ≤ scaled n (max most 1) 48 + 4
height_least n most = go (n == 0)
  where
    go : (t : Bool) → (if t then 0 else max (scaled n (max most 1) 48) 4) ≤ scaled n (max most 1) 48 + 4
    go true = omega arith
    go false = omega arith

-- the bars of a column are together at most 60 pixels high
pub heights_most : (a b c most : ℕ) → a + b + c ≤ most → height_of a most + height_of b most + height_of c most ≤ 60
heights_most a b c most within =
    let w = max most 1 in
    let parts : a * 48 / w + b * 48 / w + c * 48 / w ≤ 48 = three_parts a b c w (omega arith) (omega arith) in
    let p : height_of a most ≤ scaled a w 48 + 4 = height_least a most in
    let q : height_of b most ≤ scaled b w 48 + 4 = height_least b most in
    let r : height_of c most ≤ scaled c w 48 + 4 = height_least c most in
    let x : scaled a w 48 ≡ a * 48 / w = scaled_less a w (omega arith) in
    let y : scaled b w 48 ≡ b * 48 / w = scaled_less b w (omega arith) in
    let z : scaled c w 48 ≡ c * 48 / w = scaled_less c w (omega arith) in
    omega (arith, parts, p, q, r, x, y, z)
