-- Ids of four characters.
use Rattle.std.proofs.Common.{◌≡◌, ℕ, List, [], ◌∷◌, length, get_or, refl, arith}

-- four bytes are a text of four bytes
pub four_bytes : (w : List ℕ) → length w ≡ 4 → get_or w 0 0 ∷ get_or w 1 0 ∷ get_or w 2 0 ∷ get_or w 3 0 ∷ [] ≡ w
four_bytes [] e = absurd (cc e)
four_bytes (p ∷ []) e = absurd (omega (arith, e))
four_bytes (p ∷ q ∷ []) e = absurd (omega (arith, e))
four_bytes (p ∷ q ∷ r ∷ []) e = absurd (omega (arith, e))
four_bytes (p ∷ q ∷ r ∷ s ∷ []) e = refl
four_bytes (p ∷ q ∷ r ∷ s ∷ x ∷ rest) e = absurd (omega (arith, e))
