-- One word more of a title.
use Rattle.std.proofs.Common.{◌≡◌, ℕ, ◌+◌, ◌-◌, ◌<◌, ◌≤◌, List, [], ◌∷◌, ◌++◌, length, take, drop, get_or, sym, ap, ◌∙◌, arith, append_assoc, append-nil, length-drop}
use Rattle.std.specs.List.{flat_map}
use Rattle.std.proofs.lemmas.Grind.{flat_map-append}
use Rattle.std.proofs.lemmas.List.{get_or-drop, take_more}
use Rattle.fh_base.specs.Numbers.{word_at}

abbrev behind : List ℕ → List ℕ
behind w = 32 ∷ w

pub title_more : (ws : List (List ℕ)) (i : ℕ) (a w t space new : List ℕ) → 2 ≤ i → i < length ws → w ≡ word_at ws i → t ≡ a ++ flat_map behind (take (i - 2) (drop 2 ws))
    → space ≡ t ++ 32 ∷ [] → new ≡ space ++ w → new ≡ a ++ flat_map behind (take (i + 1 - 2) (drop 2 ws))
title_more ws i a w t space new low lt is so first more =
    let next : i + 1 - 2 ≡ i - 2 + 1 = omega arith in
    let within : i - 2 < length (drop 2 ws) = omega (arith, length-drop 2 ws) in
    let word : get_or (drop 2 ws) (i - 2) [] ≡ w = get_or-drop 2 ws (i - 2) [] ∙ ap (λ (n : ℕ). get_or ws n []) (omega arith) ∙ sym is in
    let last : flat_map behind (take (i - 2 + 1) (drop 2 ws)) ≡ flat_map behind (take (i - 2) (drop 2 ws)) ++ behind w =
    ap (flat_map behind) (take_more (drop 2 ws) (i - 2) [] within ∙ ap (λ (v : List ℕ). take (i - 2) (drop 2 ws) ++ v ∷ []) word)
    ∙ flat_map-append behind (take (i - 2) (drop 2 ws)) (w ∷ [])
    ∙ ap (λ (v : List ℕ). flat_map behind (take (i - 2) (drop 2 ws)) ++ v) (append-nil (behind w)) in
    more
    ∙ ap (λ (v : List ℕ). v ++ w) first
    ∙ append_assoc t (32 ∷ []) w
    ∙ ap (λ (v : List ℕ). v ++ behind w) so
    ∙ append_assoc a (flat_map behind (take (i - 2) (drop 2 ws))) (behind w)
    ∙ ap (λ (v : List ℕ). a ++ v) (sym last)
    ∙ ap (λ (n : ℕ). a ++ flat_map behind (take n (drop 2 ws))) (sym next)
