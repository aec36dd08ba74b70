-- Text on its way to a sink (this project's profile): some of it was written, and the rest is owed.
use Rattle.std.specs.Prelude.{◌≡◌, ℕ, List, ◌++◌, Option}
use Rattle.std.specs.Io.KnownBytes.{append_known}

-- What was owed and the text after it went on: a front of them was pushed out to the sink, and the rest is owed.
-- `written` and `now` are the bytes of the sink before and after, where it tells them.
pub record Carried (written : Option (List ℕ)) (owed text : List ℕ) (now : Option (List ℕ)) (owed_now : List ℕ) : Type 0 where
  pub pushed : List ℕ
  pub writes : now ≡ append_known written pushed
  pub splits : pushed ++ owed_now ≡ owed ++ text
