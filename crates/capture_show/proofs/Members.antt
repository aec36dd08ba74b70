-- The texts of members that are told one after the other.
use Rattle.std.proofs.Common.{◌≡◌, ℕ, ◌+◌, List, ◌++◌, Option, ap₂, subst}
use Rattle.fh_base.specs.Told.{WritesPart}
use Rattle.fh_base.specs.Owed.{Carried}
use Rattle.fh_base.specs.CarriedLaws.{carried_more}
use Rattle.fh_base.proofs.Parts.{part_behind}

-- one text and then another, by what they are
pub carried_pair : (w v u : Option (List ℕ)) (o p q a b first second : List ℕ) → a ≡ first → b ≡ second → Carried w o a v p → Carried v p b u q
    → Carried w o (first ++ second) u q
carried_pair w v u o p q a b first second e f h k =
    subst (λ (t : List ℕ). Carried w o t u q) (ap₂ (λ x y. x ++ y) e f) (carried_more w v u o p q a b h k)

pub part_pair : (w v u : Option (List ℕ)) (o p a b first second : List ℕ) → a ≡ first → b ≡ second → Carried w o a v p → WritesPart v u (p ++ b)
    → WritesPart w u (o ++ (first ++ second))
part_pair w v u o p a b first second e f h part =
    subst (λ (t : List ℕ). WritesPart w u (o ++ t)) (ap₂ (λ x y. x ++ y) e f) (part_behind w o a v p b u h part)
