-- What a contract sees of the air that writes an explanation (this project's profile).
use Rattle.std.specs.Prelude.{◌≡◌, ◌<◌, ◌^◌, ℕ, Bool, true, false, List, [], ◌∷◌, ◌++◌, ◌⊎◌, Option, Some, None}
use Rattle.std.specs.Borrow.{GName}
use Rattle.air_source.specs.declared.events.Event.{Event}
use Rattle.explain_air.specs.Heard.{HasHeard, HasPending}
use Rattle.explain_air.specs.Outs.{Took, kept_text}
use Rattle.explain_air.specs.declared.air.ExplainAir.{ExplainAir}
use Rattle.explain_air.specs.declared.kept.Kept.{Kept}
use Rattle.explain_model.specs.Subjects.{Subject, counted_lines, counts_last, ending, has_count, open_lines, reasons_of}
use Rattle.explain_model.specs.Lines.{line_text}
use Rattle.explain_model.specs.declared.values.ExplainLine.{ExplainLine}
use Rattle.explain_model.specs.declared.values.ExplainLine.TheVariants as line
use Rattle.explain_model.specs.Stories.{arrival_count}
use Rattle.explain_model.specs.Text.{explain_of}
use Rattle.fh_base.specs.Told.{WritesFront, WritesPart}
use Rattle.fh_base.specs.Owed.{Carried}
use Rattle.window_config.specs.declared.config.Config.{Config}

module _ {K : Type 0} where
  abbrev pub sink_name : ExplainAir K → GName
  sink_name a = a.sink.ghost_name

  abbrev pub sink_of : ExplainAir K → K
  sink_of a = a.sink.now

  abbrev pub owed_of : ExplainAir K → List ℕ
  owed_of a = a.owed

-- ---- the text so far

-- the first line, and of these lines the ones that are kept
abbrev pub text_of : Bool → List ExplainLine → List ℕ
text_of faults lines = line_text (line.Head faults) ++ kept_text faults lines

-- ---- how an air is after events, by what it keeps, and what its sink holds and is owed

pub record IsOpen (s : Subject) (faults : Bool) (base : Option (List ℕ)) (events : List Event) (which : Bool) (kept : Option Kept) (written : Option (List ℕ)) (owed : List ℕ) : Type 0 where
  pub which_is : which ≡ faults
  pub kept_one : Kept
  pub kept_is : kept ≡ Some kept_one
  pub heard : HasHeard s events kept_one
  pub plain : has_count events ≡ false
  pub carried : Carried base [] (text_of faults (open_lines s events)) written owed

pub record IsClosed (s : Subject) (faults : Bool) (base : Option (List ℕ)) (events : List Event) (which : Bool) (kept : Option Kept) (written : Option (List ℕ)) (owed : List ℕ) : Type 0 where
  pub which_is : which ≡ faults
  pub kept_is : kept ≡ None
  pub counted : has_count events ≡ true
  pub few : arrival_count events < 2 ^ 32
  pub carried : Carried base [] (text_of faults (counted_lines s events)) written owed

-- all its lines are told but that of an open run
abbrev pub IsTold : Subject → Bool → Option (List ℕ) → List Event → Bool → Option Kept → Option (List ℕ) → List ℕ → Type 0
IsTold s faults base events which kept written owed = IsOpen s faults base events which kept written owed ⊎ IsClosed s faults base events which kept written owed

-- the last event is a frame whose lines are not told yet
pub record IsPending (s : Subject) (faults : Bool) (base : Option (List ℕ)) (events : List Event) (which : Bool) (kept : Option Kept) (written : Option (List ℕ)) (owed : List ℕ) : Type 0 where
  pub which_is : which ≡ faults
  pub before : List Event
  pub last : Event
  pub events_are : events ≡ before ++ last ∷ []
  pub kept_one : Kept
  pub kept_is : kept ≡ Some kept_one
  pub pending : HasPending s before last kept_one
  pub plain : has_count before ≡ false
  pub carried : Carried base [] (text_of faults (open_lines s before)) written owed

abbrev pub IsAfter : Subject → Bool → Option (List ℕ) → List Event → Bool → Option Kept → Option (List ℕ) → List ℕ → Type 0
IsAfter s faults base events which kept written owed = IsTold s faults base events which kept written owed ⊎ IsPending s faults base events which kept written owed

-- ---- what an air does

-- where it heard these earlier events of this configuration, it heard these events after them
pub record Grew (c : Config) (earlier : List Event) (which : Bool) (kept : Option Kept) (written : Option (List ℕ)) (owed : List ℕ) (events : List Event) (which_now : Bool) (kept_now : Option Kept) (now : Option (List ℕ)) (owed_now : List ℕ) : Type 0 where
  pub after : (s : Subject) (faults : Bool) (base : Option (List ℕ)) → s.config ≡ c → IsAfter s faults base earlier which kept written owed
      → IsAfter s faults base (earlier ++ events) which_now kept_now now owed_now

-- whatever it heard before and whatever follows, a front of the whole text was written, and not all
pub record Stopped (which : Bool) (kept : Option Kept) (written : Option (List ℕ)) (owed : List ℕ) (e : Event) (now : Option (List ℕ)) : Type 0 where
  pub part : (s : Subject) (faults : Bool) (base : Option (List ℕ)) (earlier later : List Event) → IsAfter s faults base earlier which kept written owed
      → counts_last (earlier ++ e ∷ later) ≡ true
      → WritesPart base now (explain_of faults s.config (reasons_of s (earlier ++ e ∷ later)) (earlier ++ e ∷ later))

-- ---- the lines of the last frame

-- whatever it heard before, all lines of that are told
pub record TellsLast (which : Bool) (kept : Option Kept) (written : Option (List ℕ)) (owed : List ℕ) (which_now : Bool) (kept_now : Option Kept) (now : Option (List ℕ)) (owed_now : List ℕ) : Type 0 where
  pub told : (s : Subject) (faults : Bool) (base : Option (List ℕ)) (events : List Event) → IsAfter s faults base events which kept written owed
      → IsTold s faults base events which_now kept_now now owed_now

-- or whatever follows, a front of the whole text was written, and not all
pub record TellsLastPart (which : Bool) (kept : Option Kept) (written : Option (List ℕ)) (owed : List ℕ) (now : Option (List ℕ)) : Type 0 where
  pub part : (s : Subject) (faults : Bool) (base : Option (List ℕ)) (events later : List Event) → IsAfter s faults base events which kept written owed
      → WritesPart base now (explain_of faults s.config (reasons_of s (events ++ later)) (events ++ later))

-- ---- a further event, where all lines of those before it are told

pub record Tells (which : Bool) (kept : Option Kept) (written : Option (List ℕ)) (owed : List ℕ) (e : Event) (which_now : Bool) (kept_now : Option Kept) (now : Option (List ℕ)) (owed_now : List ℕ) : Type 0 where
  pub told : (s : Subject) (faults : Bool) (base : Option (List ℕ)) (events : List Event) → IsTold s faults base events which kept written owed
      → IsTold s faults base (events ++ e ∷ []) which_now kept_now now owed_now

pub record TellsPart (which : Bool) (kept : Option Kept) (written : Option (List ℕ)) (owed : List ℕ) (e : Event) (now : Option (List ℕ)) : Type 0 where
  pub part : (s : Subject) (faults : Bool) (base : Option (List ℕ)) (events later : List Event) → IsTold s faults base events which kept written owed
      → counts_last (events ++ e ∷ later) ≡ true
      → WritesPart base now (explain_of faults s.config (reasons_of s (events ++ e ∷ later)) (events ++ e ∷ later))

-- ---- the end of what is kept

-- what was kept of some events is told in the lines before the counters; where nothing is kept, nothing is told
pub record Closes (written : Option (List ℕ)) (owed : List ℕ) (which : Bool) (kept : Option Kept) (now : Option (List ℕ)) (owed_now : List ℕ) (which_now : Bool) : Type 0 where
  pub some : (k : Kept) (s : Subject) (events : List Event) → kept ≡ Some k → HasHeard s events k → Took which written owed (ending s events) which_now now owed_now
  pub none : kept ≡ None → Took which written owed [] which_now now owed_now

-- or in part
pub record ClosesPart (written : Option (List ℕ)) (owed : List ℕ) (which : Bool) (kept : Option Kept) (now : Option (List ℕ)) : Type 0 where
  pub some : (k : Kept) (s : Subject) (events : List Event) → kept ≡ Some k → HasHeard s events k → WritesFront written now (owed ++ kept_text which (ending s events))
  pub none : kept ≡ None → WritesFront written now owed
