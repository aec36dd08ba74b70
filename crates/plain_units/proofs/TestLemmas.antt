-- Loops over numbers that test each of them, or look for one.
use Rattle.std.proofs.Common.{◌≡◌, ℕ, suc, ◌+◌, ◌-◌, ◌<◌, ◌≤◌, Bool, true, false, ◌&&◌, ◌||◌, ap, ◌∙◌, arith}
use Rattle.fh_base.specs.Lists.{every, some}

-- as it begins
pub every_begins : (from n : ℕ) (p : ℕ → Bool) → every from n p ≡ every from (from + n - from) p
every_begins from n p = let e : n ≡ from + n - from = omega arith in ap (λ k. every from k p) e

-- the number k fails the test, or passes it
pub every_fails : (k end : ℕ) (p : ℕ → Bool) → k < end → p k ≡ false → every k (end - k) p ≡ false
unfolding every
every_fails k end p inside h =
    let e : end - k ≡ suc (end - (k + 1)) = omega arith in
    ap (λ n. every k n p) e ∙ ap (λ b. b && every (k + 1) (end - (k + 1)) p) h

pub every_goes : (k end : ℕ) (p : ℕ → Bool) → k < end → p k ≡ true → every k (end - k) p ≡ every (k + 1) (end - (k + 1)) p
unfolding every
every_goes k end p inside h =
    let e : end - k ≡ suc (end - (k + 1)) = omega arith in
    ap (λ n. every k n p) e ∙ ap (λ b. b && every (k + 1) (end - (k + 1)) p) h

-- none is left
pub every_ends : (k end : ℕ) (p : ℕ → Bool) → end ≤ k → every k (end - k) p ≡ true
unfolding every
every_ends k end p past = let e : end - k ≡ 0 = omega arith in ap (λ n. every k n p) e

pub some_begins : (from n : ℕ) (p : ℕ → Bool) → some from n p ≡ some from (from + n - from) p
some_begins from n p = let e : n ≡ from + n - from = omega arith in ap (λ k. some from k p) e

pub some_found : (k end : ℕ) (p : ℕ → Bool) → k < end → p k ≡ true → some k (end - k) p ≡ true
unfolding some
some_found k end p inside h =
    let e : end - k ≡ suc (end - (k + 1)) = omega arith in
    ap (λ n. some k n p) e ∙ ap (λ b. b || some (k + 1) (end - (k + 1)) p) h

pub some_goes : (k end : ℕ) (p : ℕ → Bool) → k < end → p k ≡ false → some k (end - k) p ≡ some (k + 1) (end - (k + 1)) p
unfolding some
some_goes k end p inside h =
    let e : end - k ≡ suc (end - (k + 1)) = omega arith in
    ap (λ n. some k n p) e ∙ ap (λ b. b || some (k + 1) (end - (k + 1)) p) h

pub some_ends : (k end : ℕ) (p : ℕ → Bool) → end ≤ k → some k (end - k) p ≡ false
unfolding some
some_ends k end p past = let e : end - k ≡ 0 = omega arith in ap (λ n. some k n p) e
