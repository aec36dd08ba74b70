-- Lines that are told one after the other, each of an element.
use Rattle.std.proofs.Common.{◌≡◌, List, [], ◌∷◌, map, refl, ap}
use Rattle.std.specs.List.{flat_map}
use Rattle.explain_model.specs.declared.values.ExplainLine.{ExplainLine}

module _ {X : Type 0} (f : X → ExplainLine) where
  abbrev pub one_of : X → List ExplainLine
  one_of x = f x ∷ []

  pub ones_are : (xs : List X) → flat_map one_of xs ≡ map f xs
  ones_are [] = refl
  ones_are (x ∷ xs) = ap (λ (ls : List ExplainLine). f x ∷ ls) (ones_are xs)

abbrev pub itself : ExplainLine → ExplainLine
itself l = l

pub all_itself : (ls : List ExplainLine) → flat_map (one_of itself) ls ≡ ls
all_itself [] = refl
all_itself (l ∷ ls) = ap (λ (rest : List ExplainLine). l ∷ rest) (all_itself ls)
