-- A combined cell's line, told as its two halves.
use Rattle.std.proofs.Common.{◌≡◌, ℕ, List, ◌++◌, Option, ap₂, subst, sym, ◌∙◌}
use Rattle.fh_base.specs.Told.{WritesPart}
use Rattle.fh_base.specs.Owed.{Carried}
use Rattle.fh_base.specs.CarriedLaws.{carried_more}
use Rattle.fh_base.proofs.Parts.{part_before, part_behind}
use Rattle.shared_cell.specs.declared.values.Mixed.{Mixed}
use Rattle.document_texts.specs.Lines.{mix_back_text, mix_front_text, mixed_text}
use Rattle.document_texts.proofs.Halves.{two_halves}

both_are : (m : Mixed) (a b : List ℕ) → a ≡ mix_front_text m → b ≡ mix_back_text m → a ++ b ≡ mixed_text m
both_are m a b e f = ap₂ (λ (x y : List ℕ). x ++ y) e f ∙ sym (two_halves m)

pub part_half : (m : Mixed) (w v : Option (List ℕ)) (o a : List ℕ) → a ≡ mix_front_text m → WritesPart w v (o ++ a) → WritesPart w v (o ++ mixed_text m)
part_half m w v o a e part =
    subst (λ (t : List ℕ). WritesPart w v (o ++ t)) (both_are m a (mix_back_text m) e (λ t. mix_back_text m)) (part_before w v o a (mix_back_text m) part)

pub part_both : (m : Mixed) (w v u : Option (List ℕ)) (o p a b : List ℕ) → a ≡ mix_front_text m → b ≡ mix_back_text m → Carried w o a v p → WritesPart v u (p ++ b) → WritesPart w u (o ++ mixed_text m)
part_both m w v u o p a b e f h part = subst (λ (t : List ℕ). WritesPart w u (o ++ t)) (both_are m a b e f) (part_behind w o a v p b u h part)

pub carried_both : (m : Mixed) (w v u : Option (List ℕ)) (o p q a b : List ℕ) → a ≡ mix_front_text m → b ≡ mix_back_text m → Carried w o a v p → Carried v p b u q → Carried w o (mixed_text m) u q
carried_both m w v u o p q a b e f h k = subst (λ (t : List ℕ). Carried w o t u q) (both_are m a b e f) (carried_more w v u o p q a b h k)
