-- The last of a chain, and what one more changes.
use Rattle.std.proofs.Common.{◌≡◌, arith, Bool, true, false, List, [], ◌∷◌, ◌++◌, refl, sym, ap, ◌∙◌}
use Rattle.std.specs.Prelude.{ℕ, zero, suc, ◌<◌, ◌≤◌, ◌==◌, if◌then◌else◌, length}
use Rattle.std.proofs.Math.ListN.{get_or-append}
use Rattle.std.proofs.lemmas.Bool.{eqb-true}
use Rattle.explain_units.specs.Chains.{chain_at, last_in}

pub step_by : (cs : List ℕ) (chain n : ℕ) → last_in cs chain (suc n) ≡ (if chain_at cs n == chain then suc n else last_in cs chain n)
unfolding last_in
step_by cs chain n = refl

-- what is after the first n changes nothing in them
pub last_in_front : (cs : List ℕ) (c chain n : ℕ) → n ≤ length cs → last_in (cs ++ c ∷ []) chain n ≡ last_in cs chain n
unfolding last_in
last_in_front cs c chain zero within = refl
last_in_front cs c chain (suc n) within =
    ap (λ (x : ℕ). if x == chain then suc n else last_in (cs ++ c ∷ []) chain n) (get_or-append cs (c ∷ []) 0 n within)
    ∙ ap (λ (x : ℕ). if chain_at cs n == chain then suc n else x) (last_in_front cs c chain n (omega (arith)))

-- it is no more than n
pub last_in_most : (cs : List ℕ) (chain n : ℕ) → last_in cs chain n ≤ n
unfolding last_in
last_in_most cs chain zero = omega (arith)
last_in_most cs chain (suc n) = most (chain_at cs n == chain) (last_in_most cs chain n)
  where
    most : (b : Bool) → last_in cs chain n ≤ n → (if b then suc n else last_in cs chain n) ≤ suc n
    most true before = omega (arith)
    most false before = omega (arith, before)

-- the last of those up to it is itself
pub last_in_itself : (cs : List ℕ) (chain n : ℕ) → last_in cs chain (last_in cs chain n) ≡ last_in cs chain n
unfolding last_in
last_in_itself cs chain zero = refl
last_in_itself cs chain (suc n) = itself (chain_at cs n == chain) refl (last_in_itself cs chain n)
  where
    itself : (b : Bool) → (chain_at cs n == chain) ≡ b → last_in cs chain (last_in cs chain n) ≡ last_in cs chain n
        → last_in cs chain (if b then suc n else last_in cs chain n) ≡ (if b then suc n else last_in cs chain n)
    itself true is before = ap (λ (b : Bool). if b then suc n else last_in cs chain n) is
    itself false is before = before

-- what each thing of another chain leaves as it was is the same at the last one of the chain
pub skip_others : {X : Type 0} (f : ℕ → X) (cs : List ℕ) (chain n : ℕ) → ((k : ℕ) → k < n → (chain_at cs k == chain) ≡ false → f (suc k) ≡ f k)
    → f n ≡ f (last_in cs chain n)
unfolding last_in
skip_others f cs chain zero same = refl
skip_others f cs chain (suc n) same = skip_by (chain_at cs n == chain) refl (skip_others f cs chain n (λ k below apart. same k (omega (arith, below)) apart))
  where
    skip_by : (b : Bool) → (chain_at cs n == chain) ≡ b → f n ≡ f (last_in cs chain n) → f (suc n) ≡ f (if b then suc n else last_in cs chain n)
    skip_by true is before = refl
    skip_by false is before = same n (omega (arith)) is ∙ before

-- the last of these is in the chain
pub stands_in : (cs : List ℕ) (chain k : ℕ) → last_in cs chain (suc k) ≡ suc k → chain_at cs k ≡ chain
unfolding last_in
stands_in cs chain k is = by (chain_at cs k == chain) refl
  where
    by : (b : Bool) → (chain_at cs k == chain) ≡ b → chain_at cs k ≡ chain
    by true at = eqb-true (chain_at cs k) chain at
    by false at = absurd (omega (arith, last_in_most cs chain k, sym (ap (λ (b : Bool). if b then suc k else last_in cs chain k) at) ∙ is))
