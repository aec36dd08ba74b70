-- What is before the events.
use Rattle.std.proofs.Common.{◌≡◌, ℕ, Bool, true, false, List, [], ◌∷◌, ◌++◌, inl, Option, Some, refl, sym, ap, subst, ◌∙◌, append-nil}
use Rattle.air_source.specs.declared.events.Event.{Event}
use Rattle.explain_air.proofs.Fronts.{text_part}
use Rattle.explain_air.specs.Airs.{IsAfter, text_of}
use Rattle.explain_air.specs.Heard.{HasHeard}
use Rattle.explain_air.specs.Outs.{Took, kept_text}
use Rattle.explain_air.specs.declared.kept.Kept.{Kept}
use Rattle.explain_model.proofs.Fronts.{lines_grow}
use Rattle.explain_model.proofs.Steps.{none_closed}
use Rattle.explain_model.specs.Subjects.{StandsBefore, Subject, open_lines, reasons_of}
use Rattle.explain_model.specs.Faults.{is_fault}
use Rattle.explain_model.specs.Lines.{line_text}
use Rattle.explain_model.specs.declared.values.ExplainLine.{ExplainLine}
use Rattle.explain_model.specs.declared.values.ExplainLine.TheVariants as line
use Rattle.explain_model.specs.Text.{explain_of, first_lines, lines_of}
use Rattle.fh_base.proofs.Progress.{front_first}
use Rattle.fh_base.specs.Told.{WritesFront, WritesPart}
use Rattle.fh_base.proofs.Carrying.{front_behind}
use Rattle.fh_base.proofs.Parts.{part_front}
use Rattle.fh_base.specs.CarriedLaws.{carried_more}
use Rattle.fh_base.specs.Owed.{Carried}
use Rattle.window_config.specs.declared.config.Config.{Config}

-- the first line is kept
head_text : (f : Bool) → kept_text f (line.Head f ∷ []) ≡ line_text (line.Head f)
unfolding is_fault
head_text true = append-nil (line_text (line.Head true))
head_text false = append-nil (line_text (line.Head false))

first_open : (s : Subject) → open_lines s [] ≡ first_lines s.config
first_open s = ap (λ (ls : List ExplainLine). first_lines s.config ++ ls) (none_closed s.config) ∙ append-nil (first_lines s.config)

module _ (f : Bool) (w : Option (List ℕ)) (o : List ℕ) (none : o ≡ []) where
  first_part : (s : Subject) (events : List Event) (v : Option (List ℕ)) → WritesFront w v (text_of f (first_lines s.config)) → WritesPart w v (explain_of f s.config (reasons_of s events) events)
  first_part s events v front =
      text_part f w v s.config (reasons_of s events) events (first_lines s.config)
      (subst (λ (ls : List ExplainLine). StandsBefore ls (lines_of s.config (reasons_of s events) events)) (first_open s) (lines_grow.going_on s [] events)) front

  -- stopped in the first line
  pub head_part : (v : Option (List ℕ)) → WritesPart w v (o ++ kept_text f (line.Head f ∷ [])) → (s : Subject) (events : List Event)
      → WritesPart w v (explain_of f s.config (reasons_of s events) events)
  head_part v part s events =
      first_part s events v
      (front_first w v (line_text (line.Head f)) (kept_text f (first_lines s.config))
      (subst (λ (text : List ℕ). WritesFront w v text) (ap (λ (x : List ℕ). x ++ kept_text f (line.Head f ∷ [])) none ∙ head_text f) (part_front w v _ part)))

  module _ (g : Bool) (v : Option (List ℕ)) (p : List ℕ) (took : Took f w o (line.Head f ∷ []) g v p) where
    head_carried : Carried w [] (line_text (line.Head f)) v p
    head_carried =
        subst (λ (text : List ℕ). Carried w [] text v p) (head_text f)
        (subst (λ (x : List ℕ). Carried w x (kept_text f (line.Head f ∷ [])) v p) none took.carried)

    -- or in those of the configuration
    pub config_part : (c : Config) (u : Option (List ℕ)) → WritesFront v u (p ++ kept_text g (first_lines c)) → (s : Subject) (events : List Event) → s.config ≡ c
        → WritesPart w u (explain_of f s.config (reasons_of s events) events)
    config_part c u front s events is =
        first_part s events u
        (subst (λ (x : Config). WritesFront w u (text_of f (first_lines x))) (sym is)
        (front_behind w [] (line_text (line.Head f)) v p (kept_text f (first_lines c)) u head_carried
        (subst (λ (x : Bool). WritesFront v u (p ++ kept_text x (first_lines c))) took.which front)))

    pub begun : (c : Config) (h : Bool) (u : Option (List ℕ)) (q : List ℕ) (kept kept_now : Option Kept) → Took g v p (first_lines c) h u q → kept_now ≡ kept
        → (s : Subject) (k : Kept) → s.config ≡ c → kept ≡ Some k → HasHeard s [] k → IsAfter s f w [] h kept_now u q
    begun c h u q kept kept_now first still s k is some heard =
        let lines = subst (λ (x : Bool). Carried v p (kept_text x (first_lines c)) u q) took.which first.carried in
        let all = carried_more w v u [] p q (line_text (line.Head f)) (kept_text f (first_lines c)) head_carried lines in
        let mine = subst (λ (x : Config). Carried w [] (text_of f (first_lines x)) u q) (sym is) all in
        inl (inl (record {
          which_is = first.which ∙ took.which;
          kept_one = k;
          kept_is = still ∙ some;
          heard = heard;
          plain = refl;
          carried = subst (λ (ls : List ExplainLine). Carried w [] (text_of f ls) u q) (sym (first_open s)) mine;
        }))
