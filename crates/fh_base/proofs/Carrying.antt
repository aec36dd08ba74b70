-- What was written of text that is carried to a sink.
use Rattle.std.proofs.Common.{◌≡◌, ℕ, List, ◌++◌, Option, sym, ap, subst, append_assoc, ◌∙◌}
use Rattle.std.specs.Io.KnownBytes.{append_known}
use Rattle.fh_base.specs.Told.{WritesFront}
use Rattle.fh_base.specs.KnownLaws.{append_twice}
use Rattle.fh_base.proofs.Progress.{front_first, front_second, front_whole}
use Rattle.fh_base.specs.Owed.{Carried}

-- where the sink tells its bytes, what is written and owed moved on by the text
pub carried_known : (written : Option (List ℕ)) (owed text : List ℕ) (now : Option (List ℕ)) (owed_now : List ℕ)
    → Carried written owed text now owed_now → append_known now owed_now ≡ append_known written (owed ++ text)
carried_known written owed text now owed_now h =
    ap (λ o. append_known o owed_now) h.writes ∙ append_twice written h.pushed owed_now ∙ ap (append_known written) h.splits

-- what was written since is a front of what was owed and of the text
pub carried_front : (written : Option (List ℕ)) (owed text : List ℕ) (now : Option (List ℕ)) (owed_now : List ℕ)
    → Carried written owed text now owed_now → WritesFront written now (owed ++ text)
carried_front written owed text now owed_now h =
    subst (λ (t : List ℕ). WritesFront written now t) h.splits (front_first written now h.pushed owed_now (front_whole written now h.pushed h.writes))

-- a front of what is owed, after what was written, is one of what was owed and the text
pub front_pushed : (written : Option (List ℕ)) (owed text : List ℕ) (middle : Option (List ℕ)) (owed_now : List ℕ) (now : Option (List ℕ))
    → Carried written owed text middle owed_now → WritesFront middle now owed_now → WritesFront written now (owed ++ text)
front_pushed written owed text middle owed_now now h front =
    subst (λ (t : List ℕ). WritesFront written now t) h.splits (front_second written middle now h.pushed owed_now h.writes front)

-- a front of what is owed and more, after what was written, is one of the text and more
pub front_behind : (written : Option (List ℕ)) (owed text : List ℕ) (middle : Option (List ℕ)) (owed_now more : List ℕ) (now : Option (List ℕ))
    → Carried written owed text middle owed_now → WritesFront middle now (owed_now ++ more) → WritesFront written now (owed ++ (text ++ more))
front_behind written owed text middle owed_now more now h front =
    subst (λ (t : List ℕ). WritesFront written now t) (behind_splits written owed text middle owed_now more h)
    (front_second written middle now h.pushed (owed_now ++ more) h.writes front)
  where
    behind_splits : (written : Option (List ℕ)) (owed text : List ℕ) (middle : Option (List ℕ)) (owed_now more : List ℕ)
        (h : Carried written owed text middle owed_now) → h.pushed ++ (owed_now ++ more) ≡ owed ++ (text ++ more)
    behind_splits written owed text middle owed_now more h =
        sym (append_assoc h.pushed owed_now more) ∙ ap (λ x. x ++ more) h.splits ∙ append_assoc owed text more

-- all of what is owed and more, after what was written, is the text and more
pub all_behind : (written : Option (List ℕ)) (owed text : List ℕ) (middle : Option (List ℕ)) (owed_now more : List ℕ) (now : Option (List ℕ))
    → Carried written owed text middle owed_now → now ≡ append_known middle (owed_now ++ more) → now ≡ append_known written (owed ++ (text ++ more))
all_behind written owed text middle owed_now more now h whole =
    whole
    ∙ sym (append_twice middle owed_now more)
    ∙ ap (λ o. append_known o more) (carried_known written owed text middle owed_now h)
    ∙ append_twice written (owed ++ text) more
    ∙ ap (append_known written) (append_assoc owed text more)
