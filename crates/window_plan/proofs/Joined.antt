-- Texts that were appended one after the other.
use Rattle.std.proofs.Common.{◌≡◌, ℕ, List, ◌++◌, ap, append_assoc, ◌∙◌}

pub three : (before a b after x y z : List ℕ) → a ≡ before ++ x → b ≡ a ++ y → after ≡ b ++ z → after ≡ before ++ ((x ++ y) ++ z)
three before a b after x y z p q r =
    r
    ∙ ap (λ t. t ++ z) (q ∙ ap (λ t. t ++ y) p ∙ append_assoc before x y)
    ∙ append_assoc before (x ++ y) z
