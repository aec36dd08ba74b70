-- The last results of a unit, one after the other and as a whole.
use Rattle.std.proofs.Common.{◌≡◌, ◌+◌, ◌-◌, ◌≤◌, ℤ, List, [], ◌∷◌, ◌++◌, length, drop, sym, ap, ◌∙◌, arith, append_assoc, append-nil, length-append, length-drop}
use Rattle.std.proofs.lemmas.List.{drop-append-le, drop-drop}
use Rattle.std.specs.List.{fold}
use Rattle.circular_buffer.specs.Buffer.{keep_last}
use Rattle.report_airs.specs.States.{one_more}

-- what was kept and more, kept again
kept_again : (xs ys : List ℤ) → keep_last 16 (keep_last 16 xs ++ ys) ≡ keep_last 16 (xs ++ ys)
kept_again xs ys =
    let k = length xs - 16 in
    let le : k ≤ length xs = omega arith in
    let front : drop k xs ++ ys ≡ drop k (xs ++ ys) = sym (drop-append-le k xs ys le) in
    let long : length (drop k (xs ++ ys)) ≡ length xs + length ys - k = length-drop k (xs ++ ys) ∙ ap (λ n. n - k) (length-append xs ys) in
    let all : length (xs ++ ys) ≡ length xs + length ys = length-append xs ys in
    let sum : k + (length (drop k (xs ++ ys)) - 16) ≡ length (xs ++ ys) - 16 = omega (arith, long, all) in
    ap (keep_last 16) front ∙ drop-drop (length (drop k (xs ++ ys)) - 16) k (xs ++ ys) ∙ ap (λ n. drop n (xs ++ ys)) sum

-- results that are given one by one
kept_on : (xs zs : List ℤ) → fold one_more (keep_last 16 xs) zs ≡ keep_last 16 (xs ++ zs)
kept_on xs [] = ap (keep_last 16) (sym (append-nil xs))
kept_on xs (z ∷ zs) =
    ap (λ ys. fold one_more ys zs) (kept_again xs (z ∷ []))
    ∙ kept_on (xs ++ z ∷ []) zs
    ∙ ap (keep_last 16) (append_assoc xs (z ∷ []) zs)

pub kept : (zs : List ℤ) → fold one_more [] zs ≡ keep_last 16 zs
kept zs = kept_on [] zs
