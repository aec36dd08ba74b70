use Rattle.std.proofs.Common.{◌≡◌, ◌++◌, List, ℕ, Option, ap, subst, ◌∙◌}
use Rattle.fh_base.specs.Told.{WritesFront, WritesPart}
use Rattle.fh_base.specs.Owed.{Carried}
use Rattle.std.proofs.lemmas.Result.{on_err_weaker}
use Rattle.fh_base.proofs.Carrying.{front_pushed}
use Rattle.fh_base.proofs.Parts.{part_pushed}
use Rattle.report_airs.specs.Summary.{end_text}
use Rattle.report_airs.specs.SumAirs.{sums_of}
use Rattle.report_airs.specs.States.{sum_ends}
use Rattle.report_airs.proofs.sum_air.SumAir.finish.Goals as goal

-- where a text went on, and a front of what is owed was written after it
front : (line text : List ℕ) (w m n : Option (List ℕ)) (o p : List ℕ) → line ≡ text → Carried w o line m p → WritesFront m n p → WritesFront w n (o ++ text)
front line text w m n o p is carried pushed = front_pushed w o text m p n (subst (λ (t : List ℕ). Carried w o t m p) is carried) pushed

-- where a text went on, and a part of what is owed was written after it
part : (line text : List ℕ) (w m n : Option (List ℕ)) (o p : List ℕ) → line ≡ text → Carried w o line m p → WritesPart m n p → WritesPart w n (o ++ text)
part line text w m n o p is carried pushed = part_pushed w o text m p n (subst (λ (t : List ℕ). Carried w o t m p) is carried) pushed

pub returns-clause-front : goal.returns-clause-front
returns-clause-front g c =
    front _ (sum_ends (sums_of c.args.self.now)) _ _ _ _ _ (c.text.ensures ∙ ap (λ x. x ++ end_text) c.put_closing.ensures.text) c.in_ok-owe.ensures.carried c.push_out.ensures.front

pub returns-clause-part : goal.returns-clause-part
returns-clause-part g c =
    on_err_weaker c.push_out.result (λ h.
    part _ (sum_ends (sums_of c.args.self.now)) _ _ _ _ _ (c.text.ensures ∙ ap (λ x. x ++ end_text) c.put_closing.ensures.text) c.in_ok-owe.ensures.carried h) c.push_out.ensures.part
