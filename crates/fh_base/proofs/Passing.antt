-- Two writes in a row: what is owed, and a text after it.
use Rattle.std.proofs.Common.{◌≡◌, ℕ, List, [], ◌++◌, Option, Result, Ok, Err, OnErr, ◌∙◌, ap, append-nil}
use Rattle.std.specs.Io.KnownBytes.{append_known}
use Rattle.fh_base.specs.Told.{WritesFront, WritesPart}
use Rattle.fh_base.specs.KnownLaws.{append_twice}
use Rattle.fh_base.proofs.Progress.{front_second}
use Rattle.fh_base.specs.Owed.{Carried}
use Rattle.fh_base.proofs.Parts.{part_second}

-- after what was owed the text was written
pub passed : (old middle new : Option (List ℕ)) (owed text owed_now : List ℕ) → owed_now ≡ [] → middle ≡ append_known old owed → new ≡ append_known middle text
    → Carried old owed text new owed_now
passed old middle new owed text owed_now none first second = record {
  pushed = owed ++ text;
  writes = second ∙ ap (λ o. append_known o text) first ∙ append_twice old owed text;
  splits = ap (λ o. (owed ++ text) ++ o) none ∙ append-nil (owed ++ text);
}

-- after what was owed a front of the text was written
pub cut : {T E : Type 0} (old middle new : Option (List ℕ)) (owed text : List ℕ) (r : Result T E) → middle ≡ append_known old owed → WritesFront middle new text
    → OnErr r (WritesFront old new (owed ++ text))
cut old middle new owed text (Ok x) first front = tt
cut old middle new owed text (Err e) first front = front_second old middle new owed text first front

-- after what was owed a part of the text was written
pub cut_part : {T E : Type 0} (old middle new : Option (List ℕ)) (owed text : List ℕ) (r : Result T E) → middle ≡ append_known old owed → WritesPart middle new text
    → OnErr r (WritesPart old new (owed ++ text))
cut_part old middle new owed text (Ok x) first part = tt
cut_part old middle new owed text (Err e) first part = part_second old middle new owed text first part
