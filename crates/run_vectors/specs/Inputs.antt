-- Inputs that are made of pieces.
use Rattle.std.specs.Prelude.{ℕ, zero, suc, List, [], ◌++◌, Bool, if◌then◌else◌}

-- a piece so many times, one after the other
unfoldable pub repeated : ℕ → List ℕ → List ℕ
repeated zero piece = []
repeated (suc n) piece = repeated n piece ++ piece

-- what the next piece follows: nothing of an input that a run had
abbrev pub standing : Bool → List ℕ → List ℕ
standing is_used input = if is_used then [] else input
