-- A history of results, by the list of all that were pushed.
use Rattle.std.specs.Prelude.{◌≡◌, ℕ, ℤ, ◌≤◌, ◌≤ℤ◌, List, All, Contains}
use Rattle.circular_buffer.specs.Buffer.{Buffer, keep_last}

-- the history keeps the last n of the pushes, the newest at the end
pub record Keeps (h : Buffer ℤ) (n : ℕ) (pushes : List ℤ) : Type 0 where
  pub some : 1 ≤ n
  pub items : h.items ≡ keep_last n pushes
  pub bound : h.capacity ≡ n

-- x is in the list, and no item is below it
pub record IsLeast (xs : List ℤ) (x : ℤ) : Type 0 where
  pub inside : Contains xs x
  pub below : All (λ y. x ≤ℤ y) xs

-- x is in the list, and no item is above it
pub record IsGreatest (xs : List ℤ) (x : ℤ) : Type 0 where
  pub inside : Contains xs x
  pub above : All (λ y. y ≤ℤ x) xs
