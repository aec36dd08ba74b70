-- Sums of symbols at each of the five exponents.
use Rattle.std.proofs.Common.{◌≡◌, ℕ, zero, suc, ◌+◌, ◌-◌, ◌*◌, ◌/◌, ◌^◌, ◌≤◌, arith}
use Rattle.fh_base.specs.Symbols.{ticks_of_ts}
use Rattle.fh_base.specs.declared.symbols.TheConstants.{SLOT_SYMBOLS, SUBFRAME}

-- the symbols from one to another, each of one length
pub between : (u from to x y p q r s : ℕ) → u ≤ 4 → from ≤ to → p + x ≡ q → r + y ≡ s
    → ticks_of_ts (from * 2192) / 2 ^ u + p + r + ((to - from) * (109600000 / 2 ^ u) + x + y) ≡ ticks_of_ts (to * 2192) / 2 ^ u + q + s
between zero from to x y p q r s h o e f = omega arith
between (suc zero) from to x y p q r s h o e f = omega arith
between (suc (suc zero)) from to x y p q r s h o e f = omega arith
between (suc (suc (suc zero))) from to x y p q r s h o e f = omega arith
between (suc (suc (suc (suc zero)))) from to x y p q r s h o e f = omega arith
between (suc (suc (suc (suc (suc u))))) from to x y p q r s h o e f = absurd (omega arith)

-- no more than the whole subframe
pub within_subframe : (u from to x y : ℕ) → u ≤ 4 → from ≤ to → to ≤ SLOT_SYMBOLS * 2 ^ u → x ≤ 800000 → y ≤ 800000
    → (to - from) * (109600000 / 2 ^ u) + x + y ≤ SUBFRAME
within_subframe zero from to x y h o w a b = omega arith
within_subframe (suc zero) from to x y h o w a b = omega arith
within_subframe (suc (suc zero)) from to x y h o w a b = omega arith
within_subframe (suc (suc (suc zero))) from to x y h o w a b = omega arith
within_subframe (suc (suc (suc (suc zero)))) from to x y h o w a b = omega arith
within_subframe (suc (suc (suc (suc (suc u))))) from to x y h o w a b = absurd (omega arith)
