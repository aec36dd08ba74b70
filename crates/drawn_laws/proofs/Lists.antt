-- What holds of each element of lists that are put together or taken apart.
use Rattle.std.proofs.Common.{◌≡◌, ℕ, zero, suc, ◌+◌, ◌<◌, ◌≤◌, Bool, true, false, List, [], ◌∷◌, ◌++◌, map, Some, arith, subst}
use Rattle.std.specs.Prelude.{filter, slice_get, slice_index, if◌then◌else◌}
use Rattle.std.specs.List.{AllByRecursion, flat_map}
use Rattle.fh_base.specs.Lists.{each}

module _ {A : Type 0} (P : A → Type 0) where
  pub all_both : (xs ys : List A) → AllByRecursion P xs → AllByRecursion P ys → AllByRecursion P (xs ++ ys)
  all_both [] ys h k = k
  all_both (x ∷ xs) ys h k = (h.0, all_both xs ys h.1 k)

  pub all_front : (xs ys : List A) → AllByRecursion P (xs ++ ys) → AllByRecursion P xs
  all_front [] ys h = tt
  all_front (x ∷ xs) ys h = (h.0, all_front xs ys h.1)

  pub all_back : (xs ys : List A) → AllByRecursion P (xs ++ ys) → AllByRecursion P ys
  all_back [] ys h = h
  all_back (x ∷ xs) ys h = all_back xs ys h.1

  pub all_chosen : (b : Bool) (xs ys : List A) → AllByRecursion P xs → AllByRecursion P ys → AllByRecursion P (if b then xs else ys)
  all_chosen true xs ys h k = h
  all_chosen false xs ys h k = k

  pub all_kept : (p : A → Bool) (xs : List A) → AllByRecursion P xs → AllByRecursion P (filter p xs)
  all_kept p [] h = tt
  all_kept p (x ∷ xs) h = all_chosen (p x) (x ∷ filter p xs) (filter p xs) (h.0, all_kept p xs h.1) (all_kept p xs h.1)

  pub all_at : (xs : List A) (k : ℕ) (x : A) → slice_get xs k ≡ Some x → AllByRecursion P xs → P x
  all_at [] k x e h = absurd cc
  all_at (y ∷ ys) zero x e h = let same : y ≡ x = cc in subst P same h.0
  all_at (y ∷ ys) (suc k) x e h = all_at ys k x e h.1

  pub all_flat : {B : Type 0} (Q : B → Type 0) (f : B → List A) → ((b : B) → Q b → AllByRecursion P (f b)) → (bs : List B) → AllByRecursion Q bs → AllByRecursion P (flat_map f bs)
  all_flat Q f h [] k = tt
  all_flat Q f h (b ∷ bs) k = all_both (f b) (flat_map f bs) (h b k.0) (all_flat Q f h bs k.1)

  pub all_each : (from count : ℕ) (f : ℕ → List A) → ((k : ℕ) → from ≤ k → k < from + count → AllByRecursion P (f k)) → AllByRecursion P (each from count f)
  unfolding each
  all_each from zero f h = tt
  all_each from (suc count) f h =
      all_both (f from) (each (from + 1) count f) (h from (omega arith) (omega arith)) (all_each (from + 1) count f (λ k low high. h k (omega (arith, low)) (omega (arith, high))))

pub all_map : {A B : Type 0} (P : A → Type 0) (f : B → A) (bs : List B) → AllByRecursion (λ b. P (f b)) bs → AllByRecursion P (map f bs)
all_map P f [] h = tt
all_map P f (b ∷ bs) h = (h.0, all_map P f bs h.1)

-- a number of a list, and 0 past its end
pub index_all : (P : ℕ → Type 0) → P 0 → (ns : List ℕ) (k : ℕ) → AllByRecursion P ns → P (slice_index ns k)
index_all P none [] k h = none
index_all P none (n ∷ ns) zero h = h.0
index_all P none (n ∷ ns) (suc k) h = index_all P none ns k h.1
