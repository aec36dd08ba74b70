-- Tests of slots, ways and numbers: one is itself, and what passes is the same.
use Rattle.std.proofs.Common.{◌≡◌, ℕ, ◌==◌, sym}
use Rattle.std.specs.Cmp.{both_ways}
use Rattle.std.proofs.lemmas.Bool.{eq-eqb, eqb-true}

pub eqb_swap : (a b : ℕ) → (a == b) ≡ (b == a)
eqb_swap a b = both_ways _ _ (λ h. eq-eqb b a (sym (eqb-true a b h))) (λ h. eq-eqb a b (sym (eqb-true b a h)))
