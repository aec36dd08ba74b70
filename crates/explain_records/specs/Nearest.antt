-- The nearest of records that are given one after the other.
use Rattle.std.specs.Prelude.{ℕ, nat_le, if◌then◌else◌, List, filter, Option, Some, None}
use Rattle.explain_model.specs.Commanded.{nearest}
use Rattle.explain_model.specs.SilentReasons.{misses_prb}
use Rattle.explain_model.specs.declared.data.DataRecord.{DataRecord}
use Rattle.explain_model.specs.declared.keys.SymbolKey.{SymbolKey}

-- the nearer of the nearest so far and a later one
abbrev pub nearer_of : {A : Type 0} → (A → ℕ) → Option A → A → A
nearer_of distance None y = y
nearer_of distance (Some x) y = if nat_le (distance x) (distance y) then x else y

-- the nearest of those that cover a PRB late or early
abbrev pub nearest_missing : List DataRecord → SymbolKey → ℕ → Option DataRecord
nearest_missing rs k prb = nearest (λ r. r.distance) (filter (misses_prb k prb) rs)
