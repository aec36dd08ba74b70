-- What a contract sees of what takes lines to a sink (this project's profile).
use Rattle.std.specs.Prelude.{◌≡◌, ℕ, Bool, List, Option}
use Rattle.std.specs.Borrow.{GName}
use Rattle.explain_air.specs.declared.out.LineOut.{LineOut}
use Rattle.explain_model.specs.Lines.{lines_text}
use Rattle.explain_model.specs.declared.values.ExplainLine.{ExplainLine}
use Rattle.explain_model.specs.Text.{kept}
use Rattle.fh_base.specs.Owed.{Carried}

-- of these lines the ones that are kept, as a text
abbrev pub kept_text : Bool → List ExplainLine → List ℕ
kept_text faults ls = lines_text (kept faults ls)

module _ {K : Type 0} where
  abbrev pub sink_of : LineOut K → K
  sink_of o = o.sink.now

  abbrev pub owed_of : LineOut K → List ℕ
  owed_of o = o.owed.now

-- the text of these lines went on after what was owed
pub record Took (before : Bool) (written : Option (List ℕ)) (owed : List ℕ) (lines : List ExplainLine) (after : Bool) (now : Option (List ℕ)) (owed_now : List ℕ) : Type 0 where
  pub which : after ≡ before
  pub carried : Carried written owed (kept_text before lines) now owed_now

-- it holds the same references
pub record AreSame (s o l t p m : GName) : Type 0 where
  pub sink : t ≡ s
  pub owed : p ≡ o
  pub line : m ≡ l
