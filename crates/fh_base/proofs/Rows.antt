-- The table of the texts of the numbers below 1,000.
use Rattle.std.proofs.Common.{◌≡◌, ℕ, zero, suc, ◌+◌, ◌-◌, ◌*◌, ◌/◌, ◌%◌, ◌<◌, ◌≤◌, nat_lt, Bool, true, false, ◌&&◌, T, eqb, List, [], ◌∷◌, length, take, get_or, refl, arith, eqb→eq}
use Rattle.std.specs.Fmt.{decimal}
use Rattle.std.proofs.lemmas.Bool.{leb-true, leb-false}
use lib.Ieee.Fits.{and_l, and_r}
use Rattle.fh_base.specs.declared.small_numbers.TheConstants.{ROWS}
use Rattle.fh_base.proofs.Ladder.{decimal_one, decimal_two, decimal_three}

-- what is in a row, by whether the number is below 10 and below 100
abbrev row_by : Bool → Bool → ℕ → ℕ → ℕ → ℕ → ℕ → Bool
row_by true few n a b c d = eqb d 49 && eqb a (48 + n % 10)
row_by false true n a b c d = eqb d 50 && (eqb a (48 + n / 10 % 10) && eqb b (48 + n % 10))
row_by false false n a b c d = eqb d 51 && (eqb a (48 + n / 100 % 10) && (eqb b (48 + n / 10 % 10) && eqb c (48 + n % 10)))

abbrev are_rows : ℕ → List ℕ → Bool
are_rows n [] = true
are_rows n (a ∷ []) = false
are_rows n (a ∷ b ∷ []) = false
are_rows n (a ∷ b ∷ c ∷ []) = false
are_rows n (a ∷ b ∷ c ∷ d ∷ rest) = row_by (nat_lt n 10) (nat_lt n 100) n a b c d && are_rows (suc n) rest

-- the row of a number
pub record Row (n : ℕ) (row : List ℕ) (count : ℕ) : Type 0 where
  pub text : take (count - 48) row ≡ decimal n
  pub low : 49 ≤ count
  pub high : count ≤ 51

one : (p q : Bool) (n a b c d : ℕ) → n < 1000 → nat_lt n 10 ≡ p → nat_lt n 100 ≡ q → T (row_by p q n a b c d) → Row n (a ∷ b ∷ c ∷ d ∷ []) d
one true q n a b c d most x y t =
    let count : d ≡ 49 = eqb→eq d 49 (and_l _ _ t) in
    let first : a ≡ 48 + n % 10 = eqb→eq _ _ (and_r (eqb d 49) _ t) in
    let few = leb-true (suc n) 10 x in
    record { text = rw (count, first, decimal_one n (omega arith)) refl; low = omega arith; high = omega arith }
one false true n a b c d most x y t =
    let count : d ≡ 50 = eqb→eq d 50 (and_l _ _ t) in
    let more = and_r (eqb d 50) _ t in
    let first : a ≡ 48 + n / 10 % 10 = eqb→eq _ _ (and_l _ _ more) in
    let second : b ≡ 48 + n % 10 = eqb→eq _ _ (and_r (eqb a (48 + n / 10 % 10)) _ more) in
    let some = leb-false (suc n) 10 x in
    let few = leb-true (suc n) 100 y in
    record { text = rw (count, first, second, decimal_two n (omega arith) (omega arith)) refl; low = omega arith; high = omega arith }
one false false n a b c d most x y t =
    let count : d ≡ 51 = eqb→eq d 51 (and_l _ _ t) in
    let more = and_r (eqb d 51) _ t in
    let first : a ≡ 48 + n / 100 % 10 = eqb→eq _ _ (and_l _ _ more) in
    let others = and_r (eqb a (48 + n / 100 % 10)) _ more in
    let second : b ≡ 48 + n / 10 % 10 = eqb→eq _ _ (and_l _ _ others) in
    let third : c ≡ 48 + n % 10 = eqb→eq _ _ (and_r (eqb b (48 + n / 10 % 10)) _ others) in
    let some = leb-false (suc n) 100 y in
    record { text = rw (count, first, second, third, decimal_three n (omega arith) most) refl; low = omega arith; high = omega arith }

abbrev row_of : List ℕ → ℕ → ℕ → ℕ → ℕ → List ℕ
row_of xs o p q r = get_or xs o 0 ∷ get_or xs p 0 ∷ get_or xs q 0 ∷ get_or xs r 0 ∷ []

rows_tell : (n k m o p q r : ℕ) (xs : List ℕ) → m ≡ k + n → o ≡ n * 4 → p ≡ n * 4 + 1 → q ≡ n * 4 + 2 → r ≡ n * 4 + 3 → m < 1000 → T (are_rows k xs) → o < length xs → Row m (row_of xs o p q r) (get_or xs r 0)
rows_tell n k m o p q r [] is first second third last most t below = absurd (omega (arith, below))
rows_tell n k m o p q r (a ∷ []) is first second third last most t below = absurd t
rows_tell n k m o p q r (a ∷ b ∷ []) is first second third last most t below = absurd t
rows_tell n k m o p q r (a ∷ b ∷ c ∷ []) is first second third last most t below = absurd t
rows_tell zero k m o p q r (a ∷ b ∷ c ∷ d ∷ rest) is first second third last most t below =
    let same : m ≡ k = omega arith in
    let o0 : o ≡ 0 = omega arith in
    let p1 : p ≡ 1 = omega arith in
    let q2 : q ≡ 2 = omega arith in
    let r3 : r ≡ 3 = omega arith in
    rw (same, o0, p1, q2, r3) (one (nat_lt k 10) (nat_lt k 100) k a b c d (omega arith) refl refl (and_l _ (are_rows (suc k) rest) t))
rows_tell (suc n) k m o p q r (a ∷ b ∷ c ∷ d ∷ rest) is first second third last most t below =
    let o4 : o ≡ suc (suc (suc (suc (n * 4)))) = omega arith in
    let p4 : p ≡ suc (suc (suc (suc (n * 4 + 1)))) = omega arith in
    let q4 : q ≡ suc (suc (suc (suc (n * 4 + 2)))) = omega arith in
    let r4 : r ≡ suc (suc (suc (suc (n * 4 + 3)))) = omega arith in
    rw (o4, p4, q4, r4)
    (rows_tell n (suc k) m (n * 4) (n * 4 + 1) (n * 4 + 2) (n * 4 + 3) rest (omega arith) refl refl refl refl most (and_r (row_by (nat_lt k 10) (nat_lt k 100) k a b c d) _ t) (omega (arith, below)))

row_at : (n : ℕ) → n < 1000 → Row n (row_of ROWS (n * 4) (n * 4 + 1) (n * 4 + 2) (n * 4 + 3)) (get_or ROWS (n * 4 + 3) 0)
row_at n most = rows_tell n 0 n (n * 4) (n * 4 + 1) (n * 4 + 2) (n * 4 + 3) ROWS (omega arith) refl refl refl refl most tt (omega arith)

pub row_in : (n : ℕ) (table : List ℕ) → table ≡ ROWS → n < 1000 → Row n (row_of table (n * 4) (n * 4 + 1) (n * 4 + 2) (n * 4 + 3)) (get_or table (n * 4 + 3) 0)
row_in n table is most = rw is (row_at n most)
