-- What an air that keeps records does with bytes (this project's profile).
use Rattle.std.specs.Prelude.{◌≢◌, ℕ, List, [], Option}
use Rattle.fh_base.specs.Owed.{Carried}

-- What was owed and the bytes after it went on, and not to the last byte: where something was owed, something is.
pub record Recorded (written : Option (List ℕ)) (owed bytes : List ℕ) (now : Option (List ℕ)) (owed_now : List ℕ) : Type 0 where
  pub carried : Carried written owed bytes now owed_now
  pub owing : owed ≢ [] → owed_now ≢ []
