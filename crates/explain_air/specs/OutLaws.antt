-- The laws of what takes lines to a sink.
use Rattle.std.specs.Prelude.{◌≡◌, ℕ, Bool, true, false, List, [], ◌++◌, Option}
use Rattle.std.specs.Borrow.{GName}
use Rattle.std.proofs.Common.{refl, sym, ap, subst, ◌∙◌}
use Rattle.std.proofs.lemmas.List.Elements.{filter-append}
use Rattle.std.proofs.lemmas.List.Concat.{flat_map-append}
use Rattle.explain_air.specs.Outs.{AreSame, Took, kept_text}
use Rattle.explain_model.specs.Faults.{is_fault}
use Rattle.explain_model.specs.Lines.{line_text, lines_text}
use Rattle.explain_model.specs.declared.values.ExplainLine.{ExplainLine}
use Rattle.explain_model.specs.Text.{kept}
use Rattle.fh_base.specs.CarriedLaws.{carried_none, carried_more}
use Rattle.fh_base.specs.Owed.{Carried}

pub kept_both : (faults : Bool) (xs ys : List ExplainLine) → kept faults (xs ++ ys) ≡ kept faults xs ++ kept faults ys
kept_both true xs ys = filter-append is_fault xs ys
kept_both false xs ys = refl

pub text_both : (faults : Bool) (xs ys : List ExplainLine) → kept_text faults (xs ++ ys) ≡ kept_text faults xs ++ kept_text faults ys
text_both faults xs ys = ap lines_text (kept_both faults xs ys) ∙ flat_map-append line_text (kept faults xs) (kept faults ys)

none_kept : (faults : Bool) → kept_text faults [] ≡ []
none_kept true = refl
none_kept false = refl

-- nothing was taken where nothing changed
pub took_none : (faults : Bool) (written : Option (List ℕ)) (owed : List ℕ) → Took faults written owed [] faults written owed
took_none faults written owed = record {
  which = refl;
  carried = subst (λ (text : List ℕ). Carried written owed text written owed) (sym (none_kept faults)) (carried_none written owed);
}

pub took_more : (f g h : Bool) (a b c : Option (List ℕ)) (o p q : List ℕ) (first second : List ExplainLine)
    → Took f a o first g b p → Took g b p second h c q → Took f a o (first ++ second) h c q
took_more f g h a b c o p q first second s t = record {
  which = t.which ∙ s.which;
  carried = subst (λ (text : List ℕ). Carried a o text c q) (sym (text_both f first second))
      (carried_more a b c o p q (kept_text f first) (kept_text f second) s.carried
      (subst (λ (x : Bool). Carried b p (kept_text x second) c q) s.which t.carried));
}

pub same_none : (s o l : GName) → AreSame s o l s o l
same_none s o l = record { sink = refl; owed = refl; line = refl }

pub same_more : (s o l t p m u q n : GName) → AreSame s o l t p m → AreSame t p m u q n → AreSame s o l u q n
same_more s o l t p m u q n h k = record { sink = k.sink ∙ h.sink; owed = k.owed ∙ h.owed; line = k.line ∙ h.line }
