-- Two lists that are told tick by tick together: at each tick those of the one and after them those of the other.
use Rattle.std.proofs.Common.{◌≡◌, ℕ, ℤ, pos, suc, ◌+ℤ◌, ◌≤ℤ◌, ◌<ℤ◌, inl, inr, List, [], ◌∷◌, ◌++◌, map, ap, ap₂, sym, ◌∙◌, arith}
use Rattle.std.proofs.lemmas.Bool.Decides.{Decides-int_eq}
use Rattle.std.proofs.lemmas.Int.{ints}
use Rattle.fh_base.specs.Lists.{each_tick}
use Rattle.plan_model.proofs.TickLemmas.{ticks_same}
use Rattle.document_traffic.proofs.ListLemmas.{at_key, none_then, with_first, without}
use Rattle.fh_base.specs.Members.{IsIn}
use Rattle.fh_base.proofs.RisingLemmas.{IsRising}

-- ---- ticks that are gone over

ahead : (a b t : ℤ) → a ≡ b → (b +ℤ pos 1) ≤ℤ t → a ≡ t → ⊥
ahead a b t here low e = omega (arith, ints, here, low, e)

-- ---- in the order of time, from a tick on

pub record AreFrom {X : Type 0} (key : X → ℤ) (from : ℤ) (xs : List X) : Type 0 where
  pub rising : IsRising key xs
  pub begun : (x : X) → IsIn x xs → from ≤ℤ key x

pub rest_from : {X : Type 0} (key : X → ℤ) (from : ℤ) (x : X) (xs : List X) → AreFrom key from (x ∷ xs) → AreFrom key from xs
rest_from key from x xs h = record { rising = h.rising.1; begun = λ y m. h.begun y (inr m) }

-- where the first is later all are
pub later_from : {X : Type 0} (key : X → ℤ) (from : ℤ) (x : X) (xs : List X) → (from +ℤ pos 1) ≤ℤ key x → AreFrom key from (x ∷ xs) → AreFrom key (from +ℤ pos 1) (x ∷ xs)
later_from key from x xs later h = record { rising = h.rising; begun = λ y m. elim m [ inl e ↦ own y e | inr t ↦ behind (key y) (h.rising.0 y t) ] }
  where
    own : (y : _) → y ≡ x → (from +ℤ pos 1) ≤ℤ key y
    own y e = let same : key y ≡ key x = ap key e in omega (arith, ints, later, same)

    behind : (k : ℤ) → key x ≤ℤ k → (from +ℤ pos 1) ≤ℤ k
    behind k low = omega (arith, ints, later, low)

pub none_from : {X : Type 0} (key : X → ℤ) (from : ℤ) (xs : List X) → AreFrom key (from +ℤ pos 1) xs → at_key key xs from ≡ []
none_from key from xs h = none_then key from xs (λ y m. up (key y) (h.begun y m))
  where
    up : (k : ℤ) → (from +ℤ pos 1) ≤ℤ k → from <ℤ k
    up k low = omega (arith, ints, low)

-- ---- both lists together

module _ {X Y : Type 0} (first : X → ℤ) (second : Y → ℤ) (as_first : Y → X) where
  abbrev pub merged : List X → List Y → ℤ → List X
  merged xs ys t = at_key first xs t ++ map as_first (at_key second ys t)

  -- the first of the one is at the tick
  pub first_merged : (from : ℤ) (n : ℕ) (x : X) (xs : List X) (ys : List Y) → first x ≡ from → each_tick from (suc n) (merged (x ∷ xs) ys) ≡ x ∷ each_tick from (suc n) (merged xs ys)
  unfolding each_tick
  first_merged from n x xs ys here =
      ap₂ (λ (zs more : List X). (zs ++ map as_first (at_key second ys from)) ++ more)
      (with_first first from x xs ((Decides-int_eq (first x) from).1 here))
      (ticks_same (from +ℤ pos 1) n (merged (x ∷ xs) ys) (merged xs ys) (λ t low.
      ap (λ (zs : List X). zs ++ map as_first (at_key second ys t)) (without first t x xs (ahead (first x) from t here low))))

  -- the first of the other is, and none of the one
  pub second_merged : (from : ℤ) (n : ℕ) (xs : List X) (y : Y) (ys : List Y) → at_key first xs from ≡ [] → second y ≡ from
      → each_tick from (suc n) (merged xs (y ∷ ys)) ≡ as_first y ∷ each_tick from (suc n) (merged xs ys)
  unfolding each_tick
  second_merged from n xs y ys none here =
      let more = each_tick (from +ℤ pos 1) n (merged xs ys) in
      ap₂ (λ (zs : List Y) (rest : List X). (at_key first xs from ++ map as_first zs) ++ rest)
      (with_first second from y ys ((Decides-int_eq (second y) from).1 here))
      (ticks_same (from +ℤ pos 1) n (merged xs (y ∷ ys)) (merged xs ys) (λ t low.
      ap (λ (zs : List Y). at_key first xs t ++ map as_first zs) (without second t y ys (ahead (second y) from t here low))))
      ∙ ap (λ (zs : List X). (zs ++ (as_first y ∷ map as_first (at_key second ys from))) ++ more) none
      ∙ ap (λ (zs : List X). as_first y ∷ ((zs ++ map as_first (at_key second ys from)) ++ more)) (sym none)

  -- none is at the tick
  pub none_merged : (from : ℤ) (n : ℕ) (xs : List X) (ys : List Y) → at_key first xs from ≡ [] → at_key second ys from ≡ []
      → each_tick from (suc n) (merged xs ys) ≡ each_tick (from +ℤ pos 1) n (merged xs ys)
  unfolding each_tick
  none_merged from n xs ys none others =
      ap₂ (λ (zs : List X) (ws : List Y). (zs ++ map as_first ws) ++ each_tick (from +ℤ pos 1) n (merged xs ys)) none others
