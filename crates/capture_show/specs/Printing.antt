-- How far lines were printed (this project's profile).
use Rattle.std.specs.Prelude.{◌≡◌, ℕ, Bool, true, List, [], ◌∷◌, ◌++◌, Option}
use Rattle.fh_base.specs.Owed.{Carried}
use Rattle.fh_base.specs.Told.{WritesPart}
use Rattle.capture_show.specs.declared.printing.Printer.{Printer}
use Rattle.capture_show.specs.Lines.{ShownLine}
use Rattle.capture_show.specs.Texts.{pieces}

-- a printer and its sink: whether it prints JSON, whether a line precedes, what the sink holds and what is owed to it
pub record State : Type 0 where
  pub json : Bool
  pub later : Bool
  pub written : Option (List ℕ)
  pub owed : List ℕ

abbrev pub state_of : Printer → Option (List ℕ) → State
state_of p written = record { json = p.json; later = p.later; written = written; owed = p.owed }

-- whether a line precedes, once these lines were told
abbrev pub later_behind : Bool → List ShownLine → Bool
later_behind later [] = later
later_behind later (l ∷ ls) = true

-- these lines were told
pub record Told (s t : State) (lines : List ShownLine) : Type 0 where
  pub carried : Carried s.written s.owed (pieces s.json s.later lines) t.written t.owed
  pub json : t.json ≡ s.json
  pub later : t.later ≡ later_behind s.later lines

-- a part of what is owed and of these lines was written, not all of it
abbrev pub Stopped : State → Option (List ℕ) → List ShownLine → Type 0
Stopped s written lines = WritesPart s.written written (s.owed ++ pieces s.json s.later lines)
