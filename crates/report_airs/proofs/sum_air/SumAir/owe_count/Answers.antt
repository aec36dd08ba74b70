use Rattle.std.proofs.Common.{rules, ◌≡◌, ◌++◌, ◌≤◌, List, ℕ, Option, subst, sym}
use Rattle.std.proofs.lemmas.Result.{IfErr-weaker, on_ok_weaker}
use Rattle.fh_base.proofs.Causes.{counts_later}
use Rattle.air_source.specs.declared.airs.AirFault.{AirFault}
use Rattle.fh_base.specs.Owed.{Carried}
use Rattle.fh_base.specs.CarriedLaws.{carried_more}
use Rattle.air_source.specs.UnitLines.{count_text}
use Rattle.air_source.specs.Stopping.{Halted}
use Rattle.air_source.proofs.Turns.{halted_first, halted_second}
use Rattle.report_airs.specs.SumAirs.{sums_of}
use Rattle.report_airs.specs.States.{closing_text}
use Rattle.report_airs.proofs.sum_air.SumAir.owe_count.Goals as goal

-- the air stopped in the line of the counter
in_line : (first line text : List ℕ) (f : AirFault) (w : Option (List ℕ)) (a b : ℕ) (o : List ℕ) (m : Option (List ℕ)) (k l : ℕ) (p : List ℕ) (n : Option (List ℕ)) (c d : ℕ)
    → line ≡ text → Carried w o first m p → a ≤ k → b ≤ l → Halted f m k l p line n c d → Halted f w a b o (first ++ text) n c d
in_line first line text f w a b o m k l p n c d is carried h g halted =
    halted_second f w a b o first text m k l p n c d carried h g (subst (λ (t : List ℕ). Halted f m k l p t n c d) is halted)

-- both went on
both : (first line text : List ℕ) (w m n : Option (List ℕ)) (o p q : List ℕ) → line ≡ text → Carried w o first m p → Carried m p line n q → Carried w o (first ++ text) n q
both first line text w m n o p q is h k = carried_more w m n o p q first text h (subst (λ (t : List ℕ). Carried m p t n q) is k)

pub returns-in_err-close-clause-stop : goal.returns-in_err-close-clause-stop
returns-in_err-close-clause-stop g c =
    let same : c.close.result ≡ c.from_residual.result = search rules in
    rw (sym same) (IfErr-weaker c.close.result _ _ (λ f stop.
    halted_first f _ _ _ _ (closing_text (sums_of c.args.self.now)) (count_text c.args.side c.args.counter c.args.value) _ _ _ stop) c.close.ensures.stop)

pub returns-clause-carried : goal.returns-clause-carried
returns-clause-carried g c =
    on_ok_weaker c.owe.result (λ second.
    both (closing_text (sums_of c.args.self.now)) _ (count_text c.args.side c.args.counter c.args.value) _ _ _ _ _ _ c.put_count.ensures c.in_ok-close.ensures.carried second) c.owe.ensures.carried

pub returns-clause-stop : goal.returns-clause-stop
returns-clause-stop g c =
    IfErr-weaker c.owe.result _ _ (λ f stop.
    in_line (closing_text (sums_of c.args.self.now)) _ (count_text c.args.side c.args.counter c.args.value) f _ _ _ _ _ _ _ _ _ _ _ c.put_count.ensures c.in_ok-close.ensures.carried
    (counts_later _ _ _ c.close.ensures.cause) (counts_later _ _ _ c.close.ensures.refusal) stop) c.owe.ensures.stop
