-- Lists that are made of lists.
use Rattle.std.proofs.Common.{◌≡◌, ℕ, zero, suc, ◌+◌, List, ◌++◌, map, refl, ap, ◌∙◌}
use Rattle.std.specs.List.{AllByRecursion}
use Rattle.fh_base.specs.Lists.{each}
use Rattle.explain_records.proofs.MissingLemmas.{map_append}
use Rattle.fh_base.proofs.MemberLemmas.{all_join as all_append}

pub all_each : {A : Type 0} (P : A → Type 0) (first n : ℕ) (f : ℕ → List A) → ((k : ℕ) → AllByRecursion P (f k)) → AllByRecursion P (each first n f)
unfolding each
all_each P first zero f h = tt
all_each P first (suc n) f h = all_append P (f first) (each (first + 1) n f) (h first) (all_each P (first + 1) n f h)

pub map_each : {A B : Type 0} (f : A → B) (first n : ℕ) (g : ℕ → List A) → map f (each first n g) ≡ each first n (λ k. map f (g k))
unfolding each
map_each f first zero g = refl
map_each f first (suc n) g = map_append f (g first) (each (first + 1) n g) ∙ ap (λ l. map f (g first) ++ l) (map_each f (first + 1) n g)
