-- The PRBs of a symbol that may have claims.
use Rattle.std.proofs.Common.{◌≡◌, ℕ, ◌+◌, ◌<◌, not, ◌&&◌, true, false, refl, List, get_or, ap, ap₂, ◌∙◌, arith, Bool, None}
use Rattle.slot_rings.specs.Places.{cell_number, claim_in, is_due, is_in_use, no_claims}
use Rattle.slot_rings.specs.declared.claims.CellClaims.{CellClaims}
use Rattle.slot_rings.proofs.PendingLemmas.{no_due}
use Rattle.slot_rings.proofs.PlaceLemmas.{no_claim}

-- none is due of cells without claims
pub none_due : (prbs symbol base n : ℕ) (claims seen : List CellClaims) (d : Bool) → base ≡ cell_number prbs symbol 0 → claims ≡ seen
    → ((re : ℕ) → re < 12 → claim_in (get_or seen (cell_number prbs symbol n) no_claims) re ≡ None)
    → is_due (claim_in (get_or claims (base + n) no_claims)) d ≡ false
none_due prbs symbol base n claims seen d at same none = no_due _ d (λ re below.
    let here : base + n ≡ cell_number prbs symbol n = omega (arith, at) in
    ap₂ (λ (l : List CellClaims) (k : ℕ). claim_in (get_or l k no_claims) re) same here ∙ none re below)

not_in_use : (u : Bool) → (u && not false) ≡ false → u ≡ false
not_in_use false e = refl
not_in_use true e = cc

-- nor in use
pub never_used : is_in_use (claim_in no_claims) ≡ false
never_used = not_in_use (is_in_use (claim_in no_claims)) (no_due (claim_in no_claims) false (λ re below. no_claim re))

pub none_used : (prbs symbol from n : ℕ) (claims : List CellClaims) → from ≡ cell_number prbs symbol 0
    → ((re : ℕ) → re < 12 → claim_in (get_or claims (cell_number prbs symbol n) no_claims) re ≡ None)
    → is_in_use (claim_in (get_or claims (from + n) no_claims)) ≡ false
none_used prbs symbol from n claims at none =
    not_in_use (is_in_use (claim_in (get_or claims (from + n) no_claims))) (none_due prbs symbol from n claims claims false at refl none)

-- nor of cells that are lent from the first of the symbol on
pub none_lent : (prbs symbol base n : ℕ) (lent claims seen : List CellClaims) → base ≡ cell_number prbs symbol 0 → claims ≡ seen
    → get_or lent n no_claims ≡ get_or claims (base + n) no_claims
    → ((re : ℕ) → re < 12 → claim_in (get_or seen (cell_number prbs symbol n) no_claims) re ≡ None)
    → is_in_use (claim_in (get_or lent n no_claims)) ≡ false
none_lent prbs symbol base n lent claims seen at same is none =
    ap (λ (m : CellClaims). is_in_use (claim_in m)) is
    ∙ not_in_use (is_in_use (claim_in (get_or claims (base + n) no_claims))) (none_due prbs symbol base n claims seen false at same none)
