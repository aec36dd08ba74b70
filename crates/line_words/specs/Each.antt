-- Texts of numbers, one after another.
use Rattle.std.specs.Prelude.{ℕ, zero, suc, List, [], ◌++◌}

-- the texts of the numbers below n, in their order
unfoldable pub each : (ℕ → List ℕ) → ℕ → List ℕ
each text zero = []
each text (suc n) = each text n ++ text n
