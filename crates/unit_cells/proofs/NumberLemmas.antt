-- Numbers that are near each other and have one rest.
use Rattle.std.proofs.Common.{◌≡◌, ℕ, ℤ, pos, negsuc, zero, suc, ◌+◌, ◌-◌, ◌*◌, ◌/◌, ◌%◌, ◌<◌, ◌≤◌, ◌+ℤ◌, ◌<ℤ◌, inl, inr, refl, ap, sym, ◌∙◌, arith}
use Rattle.std.specs.Int.{int_gap, int_rem_euclid}
use Rattle.std.proofs.Math.Nat.{mul-le-mul_right, div-add-mod'}
use Rattle.std.proofs.lemmas.Bool.{cases_lt}
use Rattle.std.proofs.lemmas.Int.{ints, int_rem_euclid_is}

near_below : (a b n : ℕ) → a % n ≡ b % n → b < a + n → a / n < b / n → ⊥
near_below a b n rest near below =
    let whole_a : a / n * n + a % n ≡ a = div-add-mod' a n in
    let whole_b : b / n * n + b % n ≡ b = div-add-mod' b n in
    let next : a / n + 1 ≤ b / n = omega arith in
    let more : (a / n + 1) * n ≤ b / n * n = mul-le-mul_right n next in
    omega (arith, whole_a, whole_b, more)

-- natural numbers less than n apart with one rest by n are one
pub near_natural : (a b n : ℕ) → a % n ≡ b % n → a < b + n → b < a + n → a ≡ b
near_natural a b n rest above below =
    let whole_a : a / n * n + a % n ≡ a = div-add-mod' a n in
    let whole_b : b / n * n + b % n ≡ b = div-add-mod' b n in
    elim (cases_lt (a / n) (b / n)) [
      | inl under ↦ absurd (near_below a b n rest below under)
      | inr over ↦ elim (cases_lt (b / n) (a / n)) [
        | inl under ↦ absurd (near_below b a n (sym rest) above under)
        | inr not_over ↦
            let same : a / n ≡ b / n = omega arith in
            let product : a / n * n ≡ b / n * n = ap (λ (q : ℕ). q * n) same in
            omega (arith, whole_a, whole_b, product)
      ]
    ]

-- a number and enough of n are a natural number
pub record Raised (z : ℤ) (k : ℕ) : Type 0 where
  pub number : ℕ
  pub is : z +ℤ pos k ≡ pos number

size_of : ℤ → ℕ
size_of (pos a) = a
size_of (negsuc a) = a + 1

enough : (k m n : ℕ) → 0 < n → k ≤ m → k ≤ m * n
enough k m zero some le = absurd (omega arith)
enough k m (suc n) some le =
    let e : m * suc n ≡ m * n + m = grind arith in
    omega (arith, e)

raised : (z : ℤ) (k : ℕ) → size_of z ≤ k → Raised z k
unfolding size_of
raised (pos a) k le = record { number = a + k; is = omega (arith, ints) }
raised (negsuc a) k le = record { number = k - (a + 1); is = omega (arith, ints) }

above : (x y : ℤ) (k a b n : ℕ) → x +ℤ pos k ≡ pos a → y +ℤ pos k ≡ pos b → x <ℤ (y +ℤ pos n) → a < b + n
above x y k a b n p q h = omega (arith, ints)

back : (x y : ℤ) (k a b : ℕ) → x +ℤ pos k ≡ pos a → y +ℤ pos k ≡ pos b → a ≡ b → x ≡ y
back x y k a b p q h = omega (arith, ints)

gap_from_zero : (m : ℕ) → int_gap (pos 0) (pos m) ≡ m
gap_from_zero m = omega arith

-- and so are signed ones
pub near_signed : (x y : ℤ) (n : ℕ) → 0 < n → int_gap (pos 0) (int_rem_euclid x (pos n)) ≡ int_gap (pos 0) (int_rem_euclid y (pos n))
    → x <ℤ (y +ℤ pos n) → y <ℤ (x +ℤ pos n) → x ≡ y
near_signed x y n some rest over under =
    let k = size_of x + size_of y in
    let p = raised x (k * n) (enough (size_of x) k n some (omega arith)) in
    let q = raised y (k * n) (enough (size_of y) k n some (omega arith)) in
    let rest_x : int_gap (pos 0) (int_rem_euclid x (pos n)) ≡ p.number % n =
    ap (int_gap (pos 0)) (int_rem_euclid_is x (pos n) n k p.number some refl p.is) ∙ gap_from_zero (p.number % n) in
    let rest_y : int_gap (pos 0) (int_rem_euclid y (pos n)) ≡ q.number % n =
    ap (int_gap (pos 0)) (int_rem_euclid_is y (pos n) n k q.number some refl q.is) ∙ gap_from_zero (q.number % n) in
    let same : p.number ≡ q.number =
    near_natural p.number q.number n (sym rest_x ∙ rest ∙ rest_y) (above x y (k * n) p.number q.number n p.is q.is over) (above y x (k * n) q.number p.number n q.is p.is under) in
    back x y (k * n) p.number q.number p.is q.is same
