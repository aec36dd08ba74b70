-- Looking for messages that leave too near, place by place.
use Rattle.std.proofs.Common.{◌≡◌, ℕ, suc, ℤ, ◌+◌, ◌-◌, ◌<◌, ◌≤◌, true, false, if◌then◌else◌, List, [], ◌∷◌, length, get_or, drop, drop-cons, length-drop, Option, Some, None, refl, ap₂, ◌∙◌, arith}
use Rattle.plan_model.specs.Dense.{is_near, first_near}
use Rattle.plan_model.specs.declared.dense.Dense.{Dense}
use Rattle.plan_model.specs.declared.dense.Sending.{Sending}

pub step : (d : ℤ) (k : ℕ) (xs : List Sending) (n : Sending) → 256 ≤ k → k < length xs
    → first_near d k (drop (k - 256) xs) (drop k xs)
    ≡ (if is_near d (get_or xs (k - 256) n).at.0 (get_or xs k n).at.0 then Some (record { number = k; line = (get_or xs k n).line })
    else first_near d (k + 1) (drop (k + 1 - 256) xs) (drop (k + 1) xs))
unfolding first_near
step d k xs n low high =
    let first : suc (k - 256) ≡ k + 1 - 256 = omega arith in
    let second : suc k ≡ k + 1 = omega arith in
    ap₂ (first_near d k) (drop-cons xs (k - 256) n (omega arith)) (drop-cons xs k n high)
    ∙ ap₂ (λ (i j : ℕ). let o : Option Dense = if is_near d (get_or xs (k - 256) n).at.0 (get_or xs k n).at.0 then Some (record { number = k; line = (get_or xs k n).line })
    else first_near d (k + 1) (drop i xs) (drop j xs) in o) first second

pub found : (d : ℤ) (k : ℕ) (xs : List Sending) (n : Sending) → 256 ≤ k → k < length xs → is_near d (get_or xs (k - 256) n).at.0 (get_or xs k n).at.0 ≡ true
    → first_near d k (drop (k - 256) xs) (drop k xs) ≡ Some (record { number = k; line = (get_or xs k n).line })
found d k xs n low high is = step d k xs n low high ∙ rw is refl

pub passed : (d : ℤ) (k : ℕ) (xs : List Sending) (n : Sending) → 256 ≤ k → k < length xs → is_near d (get_or xs (k - 256) n).at.0 (get_or xs k n).at.0 ≡ false
    → first_near d k (drop (k - 256) xs) (drop k xs) ≡ first_near d (k + 1) (drop (k + 1 - 256) xs) (drop (k + 1) xs)
passed d k xs n low high is = step d k xs n low high ∙ rw is refl

none_left : (d : ℤ) (k : ℕ) (xs ys : List Sending) → length ys ≡ 0 → first_near d k xs ys ≡ None
unfolding first_near
none_left d k [] ys e = refl
none_left d k (x ∷ xs) [] e = refl
none_left d k (x ∷ xs) (y ∷ ys) e = absurd (omega (arith, e))

pub ended : (d : ℤ) (k : ℕ) (xs : List Sending) → length xs ≤ k → first_near d k (drop (k - 256) xs) (drop k xs) ≡ None
ended d k xs h = none_left d k (drop (k - 256) xs) (drop k xs) (omega (arith, length-drop k xs))
