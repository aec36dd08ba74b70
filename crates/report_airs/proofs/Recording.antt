-- Two texts that are recorded in turn.
use Rattle.std.proofs.Common.{◌≡◌, ◌≢◌, ◌≤◌, ℕ, List, [], ◌++◌, Option, Result, Ok, Err, OnOk, sym, subst}
use Rattle.air_source.specs.declared.airs.AirFault.{AirFault}
use Rattle.fh_base.specs.Owed.{Carried}
use Rattle.fh_base.specs.CarriedLaws.{carried_more}
use Rattle.air_source.specs.Stopping.{Halted}
use Rattle.air_source.proofs.Turns.{halted_first, halted_second}
use Rattle.report_airs.specs.CaptureLaws.{recorded_more}
use Rattle.report_airs.specs.Recorded.{Recorded}

-- two facts of an answer give a third
pub ok_both : {T E P Q R : Type 0} (r : Result T E) → (P → Q → R) → OnOk r P → OnOk r Q → OnOk r R
ok_both (Ok x) f p q = f p q
ok_both (Err e) f p q = tt

-- the air stopped in the first text, so in both
pub in_first : (first second text : List ℕ) (f : AirFault) (w : Option (List ℕ)) (a b : ℕ) (o : List ℕ) (n : Option (List ℕ)) (c d : ℕ)
    → text ≡ first ++ second → Halted f w a b o first n c d → Halted f w a b o text n c d
in_first first second text f w a b o n c d is h = subst (λ (t : List ℕ). Halted f w a b o t n c d) (sym is) (halted_first f w a b o first second n c d h)

-- it stopped in the second
pub in_second : (first second text : List ℕ) (f : AirFault) (w : Option (List ℕ)) (a b : ℕ) (o : List ℕ) (m : Option (List ℕ)) (k l : ℕ) (p : List ℕ) (n : Option (List ℕ)) (c d : ℕ)
    → text ≡ first ++ second → Carried w o first m p → a ≤ k → b ≤ l → Halted f m k l p second n c d → Halted f w a b o text n c d
in_second first second text f w a b o m k l p n c d is carried h g halted =
    subst (λ (t : List ℕ). Halted f w a b o t n c d) (sym is) (halted_second f w a b o first second m k l p n c d carried h g halted)

-- both were recorded, and the first stayed owed
pub both_recorded : (first second text : List ℕ) (w m n : Option (List ℕ)) (o p q : List ℕ)
    → text ≡ first ++ second → Carried w o first m p → p ≢ [] → Recorded m p second n q → Recorded w o text n q
both_recorded first second text w m n o p q is h some k =
    subst (λ (t : List ℕ). Recorded w o t n q) (sym is) (recorded_more w m n o p q first second (record { carried = h; owing = λ _. some }) k)

-- both went on, and the second stayed owed
pub last_recorded : (first second text : List ℕ) (w m n : Option (List ℕ)) (o p q : List ℕ)
    → text ≡ first ++ second → Carried w o first m p → Carried m p second n q → q ≢ [] → Recorded w o text n q
last_recorded first second text w m n o p q is h k some = record {
  carried = subst (λ (t : List ℕ). Carried w o t n q) (sym is) (carried_more w m n o p q first second h k);
  owing = λ _. some;
}
