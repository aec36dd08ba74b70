-- Things in chains (this project's means to find those of one symbol).
use Rattle.std.specs.Prelude.{◌≡◌, ℕ, zero, suc, ◌<◌, ◌==◌, if◌then◌else◌, List, length, slice_index_or}

-- how many chains there are, and each thing and its chain
pub record InChains (T : Type 0) : Type 0 where
  pub count : ℕ
  pub chains : List ℕ
  pub items : List T

abbrev pub chain_at : List ℕ → ℕ → ℕ
chain_at chains k = slice_index_or chains k 0

-- of the first n, how many there are up to the last one of a chain; 0 where it has none
unfoldable pub last_in : List ℕ → ℕ → ℕ → ℕ
last_in chains chain zero = 0
last_in chains chain (suc n) = if chain_at chains n == chain then suc n else last_in chains chain n

-- each is linked to the one before it in its chain, and each chain to its last one
pub record AreLinked (chains befores ends : List ℕ) : Type 0 where
  pub before : (k : ℕ) → k < length chains → slice_index_or befores k 0 ≡ last_in chains (chain_at chains k) k
  pub last : (chain : ℕ) → chain < length ends → slice_index_or ends chain 0 ≡ last_in chains chain (length chains)
