-- When a block fits a width at an exponent, and its exponent: the least (O-RAN.WG4.CUS, Annex A, block floating point).
use Rattle.std.specs.Prelude.{ℕ, zero, suc, ℤ, pos, negsuc, neg_ℤ, ◌-◌, ◌^◌, ◌<◌, ◌≤◌, ◌≤ℤ◌, ◌<ℤ◌, nat_lt, Bool, true, ◌&&◌, List, if◌then◌else◌}
use Rattle.std.specs.Int.{int_div_euclid}
use Rattle.bfp_codec.specs.declared.samples.Iq.{Iq}
use Rattle.bfp_codec.specs.Samples.{component}

-- the whole number at or below z / 2 ^ e
abbrev pub floor_of : ℤ → ℕ → ℤ
floor_of z e = int_div_euclid z (pos (2 ^ e))

-- a signed number of w bits
pub record Within (w : ℕ) (z : ℤ) : Type 0 where
  pub low : neg_ℤ (pos (2 ^ (w - 1))) ≤ℤ z
  pub high : z <ℤ pos (2 ^ (w - 1))

-- each number over 2 ^ e, rounded down, is a signed number of w bits
abbrev pub BlockFits : ℕ → ℕ → List Iq → Type 0
BlockFits w e block = (k : ℕ) → k < 24 → Within w (floor_of (component block k) e)

-- e is the least exponent at which the block fits
pub record IsExponent (w : ℕ) (block : List Iq) (e : ℕ) : Type 0 where
  pub small : e ≤ 15
  pub fits : BlockFits w e block
  pub least : (d : ℕ) → d < e → BlockFits w d block → ⊥

-- whether a number is a signed number of w bits: `negsuc n` is -(n + 1)
abbrev pub within : ℕ → ℤ → Bool
within w (pos n) = nat_lt n (2 ^ (w - 1))
within w (negsuc n) = nat_lt n (2 ^ (w - 1))

-- whether the first n numbers fit
abbrev pub fit : ℕ → ℕ → List Iq → ℕ → Bool
fit w e block zero = true
fit w e block (suc n) = within w (floor_of (component block n) e) && fit w e block n

-- the least number from e on that passes a test, or the last of n more
abbrev pub least_from : (ℕ → Bool) → ℕ → ℕ → ℕ
least_from p e zero = e
least_from p e (suc n) = if p e then e else least_from p (suc e) n

-- the exponent of a block, at most 15 as udCompParam has 4 bits for it
unfoldable pub exponent_of : ℕ → List Iq → ℕ
exponent_of w block = least_from (λ e. fit w e block 24) 0 15

-- number k over 2 ^ e, rounded down
abbrev pub mantissa : ℕ → List Iq → ℕ → ℤ
mantissa w block k = floor_of (component block k) (exponent_of w block)
