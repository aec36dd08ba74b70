-- Texts that are told in a row.
use Rattle.std.proofs.Common.{◌≡◌, ℕ, List, [], ◌++◌, Option, sym, ap, subst, append_assoc, append-nil, ◌∙◌}
use Rattle.fh_base.specs.Told.{WritesPart}
use Rattle.fh_base.specs.Owed.{Carried}
use Rattle.fh_base.specs.CarriedLaws.{carried_none, carried_more}
use Rattle.fh_base.proofs.Parts.{part_first, part_before, part_behind}

-- of a text a front was told, and the rest is left
pub record SoFar (w : Option (List ℕ)) (o : List ℕ) (v : Option (List ℕ)) (p all rest : List ℕ) : Type 0 where
  pub done : List ℕ
  pub carried : Carried w o done v p
  pub are : done ++ rest ≡ all

pub so_far_none : (w : Option (List ℕ)) (o all rest : List ℕ) → rest ≡ all → SoFar w o w o all rest
so_far_none w o all rest is = record { done = []; carried = carried_none w o; are = is }

pub so_far_more : (w v u : Option (List ℕ)) (o p q all left next rest : List ℕ) → left ≡ next ++ rest → SoFar w o v p all left → Carried v p next u q → SoFar w o u q all rest
so_far_more w v u o p q all left next rest is h k = record {
  done = h.done ++ next;
  carried = carried_more w v u o p q h.done next h.carried k;
  are = append_assoc h.done next rest ∙ ap (λ r. h.done ++ r) (sym is) ∙ h.are;
}

pub so_far_all : (w v : Option (List ℕ)) (o p all left : List ℕ) → left ≡ [] → SoFar w o v p all left → Carried w o all v p
so_far_all w v o p all left none h =
    subst (λ (t : List ℕ). Carried w o t v p) (sym (append-nil h.done) ∙ ap (λ r. h.done ++ r) (sym none) ∙ h.are) h.carried

pub so_far_stopped : (w v u : Option (List ℕ)) (o p all left next rest : List ℕ) → left ≡ next ++ rest → SoFar w o v p all left → WritesPart v u (p ++ next) → WritesPart w u (o ++ all)
so_far_stopped w v u o p all left next rest is h part =
    let told = part_first w u (o ++ (h.done ++ next)) rest (part_behind w o h.done v p next u h.carried part) in
    subst (λ (t : List ℕ). WritesPart w u t)
    (append_assoc o (h.done ++ next) rest ∙ ap (λ t. o ++ t) (append_assoc h.done next rest ∙ ap (λ r. h.done ++ r) (sym is) ∙ h.are)) told

-- two texts, by what they are
pub carried_pair : (w v u : Option (List ℕ)) (o p q a first second : List ℕ) → a ≡ first → Carried w o a v p → Carried v p second u q → Carried w o (first ++ second) u q
carried_pair w v u o p q a first second e h k = subst (λ (t : List ℕ). Carried w o (t ++ second) u q) e (carried_more w v u o p q a second h k)

pub part_pair : (w v u : Option (List ℕ)) (o p a first second : List ℕ) → a ≡ first → Carried w o a v p → WritesPart v u (p ++ second) → WritesPart w u (o ++ (first ++ second))
part_pair w v u o p a first second e h part = subst (λ (t : List ℕ). WritesPart w u (o ++ (t ++ second))) e (part_behind w o a v p second u h part)

-- the first of two, by what it is
pub part_named : (w v : Option (List ℕ)) (o a first rest : List ℕ) → a ≡ first → WritesPart w v (o ++ a) → WritesPart w v (o ++ (first ++ rest))
part_named w v o a first rest e part = part_before w v o first rest (subst (λ (t : List ℕ). WritesPart w v (o ++ t)) e part)
