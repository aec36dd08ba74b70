-- A place on a scale lies on it.
use Rattle.std.proofs.Common.{◌≡◌, ℕ, ◌+◌, ◌*◌, ◌/◌, ◌%◌, ◌<◌, ◌≤◌, inl, inr, arith}
use Rattle.std.proofs.Math.Nat.{mul-le-mul_left, mul-le-mul_right}
use Rattle.std.proofs.lemmas.Bool.{cases_lt}

pub part_most : (m p w : ℕ) → 0 < w → m ≤ w → m * p / w ≤ p
part_most m p w some within =
    elim (cases_lt p (m * p / w)) [
      | inl lt ↦
          let above : w * (p + 1) ≤ w * (m * p / w) = mul-le-mul_left w (omega arith) in
          let below : m * p ≤ w * p = mul-le-mul_right p within in
          absurd (omega arith)
      | inr ge ↦ ge
    ]
