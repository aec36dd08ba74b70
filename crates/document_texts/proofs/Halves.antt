-- A combined cell's line is its two halves.
use Rattle.std.proofs.Common.{◌≡◌, ◌==◌, ℕ, zero, suc, ◌+◌, Bool, true, false, cond, List, [], ◌++◌, codes, ap, ap₂, sym, ◌∙◌, append_assoc, append-nil, arith, subst}
use Rattle.shared_cell.specs.declared.values.Mixed.{Mixed}
use Rattle.document_texts.specs.Lines.{element_text, elements_text, mix_back_text, mix_front_text, mix_head_text, mixed_text}

-- the words of more than six elements are those of six and then of the others
behind_six : (m : Mixed) (n : ℕ) → elements_text m 0 (n + 6) ≡ elements_text m 0 6 ++ elements_text m 6 n
unfolding elements_text
behind_six m zero = sym (append-nil (elements_text m 0 6))
behind_six m (suc n) =
    let at : 0 + (n + 6) ≡ 6 + n = omega arith in
    let next : suc (n + 6) ≡ suc n + 6 = omega arith in
    subst (λ (k : ℕ). elements_text m 0 k ≡ elements_text m 0 6 ++ elements_text m 6 (suc n)) next
    (ap₂ (λ (xs : List ℕ) (k : ℕ). xs ++ element_text m k) (behind_six m n) at
    ∙ append_assoc (elements_text m 0 6) (elements_text m 6 n) (element_text m (6 + n)))

-- whether there are words or the one, the line feed is after them
parted : (b : Bool) (head one all front back feed : List ℕ) → all ≡ front ++ back → head ++ (cond b one all ++ feed) ≡ (head ++ cond b one front) ++ (cond b [] back ++ feed)
parted true head one all front back feed is = sym (append_assoc head one feed)
parted false head one all front back feed is =
    ap (λ (xs : List ℕ). head ++ (xs ++ feed)) is
    ∙ ap (λ (xs : List ℕ). head ++ xs) (append_assoc front back feed)
    ∙ sym (append_assoc head front (back ++ feed))

pub two_halves : (m : Mixed) → mixed_text m ≡ mix_front_text m ++ mix_back_text m
unfolding mixed_text mix_front_text mix_back_text
two_halves m =
    parted (m.units == 0) (mix_head_text m) (codes " missing") (elements_text m 0 12) (elements_text m 0 6) (elements_text m 6 6) (codes "\n") (behind_six m 6)
