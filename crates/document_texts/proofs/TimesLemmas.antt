-- The times of copies, one after the other.
use Rattle.std.proofs.Common.{◌≡◌, ℕ, ◌+◌, List, [], ◌++◌, ap, ◌∙◌}

-- ---- a line of six texts

pub six_texts : (l0 l1 l2 l3 l4 l5 l6 a b d e f g : List ℕ) → l0 ≡ [] → l1 ≡ l0 ++ a → l2 ≡ l1 ++ b → l3 ≡ l2 ++ d → l4 ≡ l3 ++ e → l5 ≡ l4 ++ f → l6 ≡ l5 ++ g
    → l6 ≡ ((((a ++ b) ++ d) ++ e) ++ f) ++ g
six_texts l0 l1 l2 l3 l4 l5 l6 a b d e f g h0 h1 h2 h3 h4 h5 h6 =
    let one : l1 ≡ a = h1 ∙ ap (λ (t : List ℕ). t ++ a) h0 in
    let two : l2 ≡ a ++ b = h2 ∙ ap (λ (t : List ℕ). t ++ b) one in
    let three : l3 ≡ (a ++ b) ++ d = h3 ∙ ap (λ (t : List ℕ). t ++ d) two in
    let four : l4 ≡ ((a ++ b) ++ d) ++ e = h4 ∙ ap (λ (t : List ℕ). t ++ e) three in
    let five : l5 ≡ (((a ++ b) ++ d) ++ e) ++ f = h5 ∙ ap (λ (t : List ℕ). t ++ f) four in
    h6 ∙ ap (λ (t : List ℕ). t ++ g) five
