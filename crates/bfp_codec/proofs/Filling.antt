-- Samples that are written one after the other.
use Rattle.std.proofs.Common.{◌≡◌, ℕ, ℤ, ◌+◌, ◌<◌, List, length, get_or, set, refl, sym, ap, ◌∙◌, arith, below_more, get_or-set_same, get_or-set_other}
use Rattle.bfp_codec.specs.declared.samples.Wide.{Wide}
use Rattle.bfp_codec.specs.Samples.{no_wide}

-- one more element of a list that is filled from a place on
pub filled : (xs : List Wide) (from k : ℕ) (x : Wide) (value : ℕ → Wide) → from + k < length xs → ((j : ℕ) → j < k → get_or xs (from + j) no_wide ≡ value j) → x ≡ value k
    → (j : ℕ) → j < k + 1 → get_or (set xs (from + k) x) (from + j) no_wide ≡ value j
filled xs from k x value room before here =
    below_more (λ j. get_or (set xs (from + k) x) (from + j) no_wide ≡ value j) k
    (λ j h. get_or-set_other xs (from + k) (from + j) x no_wide (omega arith) ∙ before j h)
    (get_or-set_same xs (from + k) x no_wide room ∙ here)

-- the same from the front on
pub filled_next : (xs : List Wide) (k : ℕ) (x : Wide) (value : ℕ → Wide) → k < length xs → ((j : ℕ) → j < k → get_or xs (0 + j) no_wide ≡ value j) → x ≡ value k
    → (j : ℕ) → j < k + 1 → get_or (set xs k x) (0 + j) no_wide ≡ value j
filled_next xs k x value room before here j lt =
    let same : 0 + k ≡ k = omega arith in
    ap (λ i. get_or (set xs i x) (0 + j) no_wide) (sym same) ∙ filled xs 0 k x value (omega arith) before here j lt

pub pair : (a b c d : ℤ) → a ≡ c → b ≡ d → (let p : Wide = record { i = a; q = b } in p) ≡ record { i = c; q = d }
pair a b c d e f = rw (e, f) refl
