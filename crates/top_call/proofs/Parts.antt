-- A part of a text that is not empty.
use Rattle.std.proofs.Common.{◌≡◌, ◌∷◌, ℕ, List, [], Option, sym, refl, arith}
use Rattle.fh_base.specs.Told.{WritesPart}
use Rattle.fh_base.specs.KnownLaws.{append_nothing}

-- nothing is a part
pub part_none : (old : Option (List ℕ)) (text : List ℕ) → (text ≡ [] → ⊥) → WritesPart old old text
part_none old [] some = absurd (some refl)
part_none old (x ∷ xs) some = record { count = 0; within = omega arith; is = sym (append_nothing old) }
