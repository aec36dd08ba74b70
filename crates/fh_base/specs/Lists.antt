-- Going over numbers and lists in order.
use Rattle.std.specs.Prelude.{ℕ, zero, suc, ℤ, pos, ◌+◌, ◌+ℤ◌, Bool, true, false, ◌&&◌, ◌||◌, if◌then◌else◌, List, [], ◌∷◌, ◌++◌, Option, Some, None, ⊤}
use Rattle.std.specs.List.{AllByRecursion}

-- the lists of number `from` to from + count - 1, one after the other
unfoldable pub each : {A : Type 0} → ℕ → ℕ → (ℕ → List A) → List A
each from zero f = []
each from (suc count) f = f from ++ each (from + 1) count f

-- the lists of `count` ticks from one on, one after the other
unfoldable pub each_tick : {A : Type 0} → ℤ → ℕ → (ℤ → List A) → List A
each_tick from zero f = []
each_tick from (suc count) f = f from ++ each_tick (from +ℤ pos 1) count f

-- it holds of each number
unfoldable pub every : ℕ → ℕ → (ℕ → Bool) → Bool
every from zero p = true
every from (suc count) p = p from && every (from + 1) count p

-- it holds of one of them
unfoldable pub some : ℕ → ℕ → (ℕ → Bool) → Bool
some from zero p = false
some from (suc count) p = p from || some (from + 1) count p

-- the first that is there
abbrev pub or_else : {A : Type 0} → Option A → Option A → Option A
or_else None y = y
or_else (Some x) y = Some x

-- a list of which the newest is first, after these were added in their order
unfoldable pub onto : {A : Type 0} → List A → List A → List A
onto earlier [] = earlier
onto earlier (x ∷ xs) = onto (x ∷ earlier) xs

-- x, which was before these, is put after those that are below it
unfoldable pub put_in : {A : Type 0} → (A → A → Bool) → A → List A → List A
put_in below x [] = x ∷ []
put_in below x (y ∷ ys) = if below y x then y ∷ put_in below x ys else x ∷ y ∷ ys

-- in an order, in which those that tie stay as they were
unfoldable pub in_order : {A : Type 0} → (A → A → Bool) → List A → List A
in_order below [] = []
in_order below (x ∷ xs) = put_in below x (in_order below xs)

-- any two, in their order
abbrev pub AreRelated : {X : Type 0} → (X → X → Type 0) → List X → Type 0
AreRelated R [] = ⊤
AreRelated R (x ∷ xs) = AllByRecursion (R x) xs × AreRelated R xs
