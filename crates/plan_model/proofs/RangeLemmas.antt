-- Tests over a range of numbers by a witness, and intervals that meet.
use Rattle.std.proofs.Common.{◌≡◌, ℕ, zero, suc, ◌+◌, ◌<◌, ◌≤◌, max, inl, inr, Bool, true, nat_lt, arith}
use Rattle.std.proofs.lemmas.Bool.{or_cases, and_parts, and_from, ltb-true, lt-ltb}
use Rattle.fh_base.specs.Lists.{some}
use Rattle.unit_model.specs.Claims.{is_from}
use Rattle.plan_model.specs.Validity.{ranges_meet}
use Rattle.unit_model.proofs.ClaimLemmas.{starts_before as from_low, is_in as is_from_in, from_within as from_high}

-- a number that passes
pub record Found (from n : ℕ) (p : ℕ → Bool) : Type 0 where
  pub k : ℕ
  pub low : from ≤ k
  pub high : k < from + n
  pub is : p k ≡ true

pub found : (from n : ℕ) (p : ℕ → Bool) → some from n p ≡ true → Found from n p
unfolding some
found from zero p h = absurd (cc)
found from (suc n) p h = elim (or_cases (p from) _ h) [
  | inl now ↦ record { k = from; low = omega arith; high = omega arith; is = now }
  | inr later ↦ let f = found (from + 1) n p later in record { k = f.k; low = (let l = f.low in omega arith); high = (let l = f.high in omega arith); is = f.is }
]

-- ---- intervals

-- a common number, and its converse
pub meet_from : (a m b n k : ℕ) → is_from a m k ≡ true → is_from b n k ≡ true → ranges_meet a m b n ≡ true
meet_from a m b n k p q =
    let al = from_low a m k p in
    let ah = from_high a m k p in
    let bl = from_low b n k q in
    let bh = from_high b n k q in
    and_from _ _ (lt-ltb a (b + n) (omega arith)) (lt-ltb b (a + m) (omega arith))

pub meet_swap : (a m b n : ℕ) → ranges_meet a m b n ≡ true → ranges_meet b n a m ≡ true
meet_swap a m b n h = let p = and_parts (nat_lt a (b + n)) (nat_lt b (a + m)) h in and_from (nat_lt b (a + m)) (nat_lt a (b + n)) p.1 p.0

pub record Common (a m b n : ℕ) : Type 0 where
  pub k : ℕ
  pub low : a ≤ k
  pub high : k < a + m
  pub other : is_from b n k ≡ true

pub common : (a m b n : ℕ) → 0 < m → 0 < n → ranges_meet a m b n ≡ true → Common a m b n
common a m b n some_m some_n h =
    let x : a < b + n = ltb-true a (b + n) (and_parts (nat_lt a (b + n)) (nat_lt b (a + m)) h).0 in
    let y : b < a + m = ltb-true b (a + m) (and_parts (nat_lt a (b + n)) (nat_lt b (a + m)) h).1 in
    record { k = max a b; low = omega arith; high = omega arith; other = is_from_in b n (max a b) (omega arith) (omega arith) }
