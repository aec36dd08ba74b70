-- What holds of each element of lists that are put together.
use Rattle.std.proofs.Common.{Bool, true, false, List, [], ◌∷◌, ◌++◌}
use Rattle.std.specs.Prelude.{if◌then◌else◌}
use Rattle.std.specs.List.{AllByRecursion}
use Rattle.fh_base.specs.Lists.{onto}

module _ {A : Type 0} (P : A → Type 0) where
  pub all_both : (xs ys : List A) → AllByRecursion P xs → AllByRecursion P ys → AllByRecursion P (xs ++ ys)
  all_both [] ys h k = k
  all_both (x ∷ xs) ys h k = (h.0, all_both xs ys h.1 k)

  pub all_onto : (earlier xs : List A) → AllByRecursion P earlier → AllByRecursion P xs → AllByRecursion P (onto earlier xs)
  unfolding onto
  all_onto earlier [] h k = h
  all_onto earlier (x ∷ xs) h k = all_onto (x ∷ earlier) xs (k.0, h) k.1

  pub all_chosen : (b : Bool) (xs ys : List A) → AllByRecursion P xs → AllByRecursion P ys → AllByRecursion P (if b then xs else ys)
  all_chosen true xs ys h k = h
  all_chosen false xs ys h k = k
