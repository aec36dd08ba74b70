-- Tests over a range of numbers.
use Rattle.std.proofs.Common.{◌≡◌, ℕ, zero, suc, ◌+◌, ◌<◌, ◌≤◌, Bool, true, false, not, ◌&&◌, ◌||◌, refl, ap, sym, ◌∙◌, arith}
use Rattle.fh_base.specs.Lists.{every, some}
use Rattle.unit_model.proofs.ClaimLemmas.{every_at}

-- two tests that follow from one another
pub same_tests : (a b : Bool) → (a ≡ true → b ≡ true) → (b ≡ true → a ≡ true) → a ≡ b
same_tests true b f g = sym (f refl)
same_tests false true f g = g refl
same_tests false false f g = refl

pub every_not : (from n : ℕ) (p : ℕ → Bool) (k : ℕ) → from ≤ k → k < from + n → p k ≡ false → every from n p ≡ false
every_not from n p k low high is = go (every from n p) refl
  where
    go : (b : Bool) → every from n p ≡ b → b ≡ false
    go true e = sym (every_at from n p k e low high) ∙ is
    go false e = refl

pub not_every : (from n : ℕ) (p : ℕ → Bool) → not (every from n (λ k. not (p k))) ≡ some from n p
unfolding every some
not_every from zero p = refl
not_every from (suc n) p = parts (p from) (every (from + 1) n (λ k. not (p k))) ∙ ap (λ b. p from || b) (not_every (from + 1) n p)
  where
    parts : (a b : Bool) → not (not a && b) ≡ (a || not b)
    parts true b = refl
    parts false b = refl

pub some_from : (from n : ℕ) (p : ℕ → Bool) → ((k : ℕ) → from ≤ k → k < from + n → p k ≡ false) → some from n p ≡ false
unfolding some
some_from from zero p all = refl
some_from from (suc n) p all =
    let a = all from (omega arith) (omega arith) in
    let b = some_from (from + 1) n p (λ k low high. all k (omega arith) (omega arith)) in rw (a, b) refl
