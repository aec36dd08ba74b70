-- One row of claims: what the lines of a symbol claim, PRB by PRB (this project's profile; reMask and sectionId are those of
-- O-RAN.WG4.CUS).
use Rattle.std.specs.Prelude.{◌≡◌, ℕ, ◌+◌, ◌≤◌, ◌<◌, ◌^◌, false, if◌then◌else◌, List, get_or, slice_get, Option, Some, None}
use Rattle.std.specs.Int.Bits.{bit_or}
use Rattle.unit_model.specs.Claims.{in_mask}
use Rattle.unit_model.specs.declared.cells.Claim.{Claim}
use Rattle.du_intake.specs.Lines.{claim_in_slot}
use Rattle.du_intake.specs.declared.lines.UplinkLine.{UplinkLine}
use Rattle.du_intake.specs.declared.claims.PlannedClaim.{PlannedClaim}

abbrev pub no_claim : PlannedClaim
no_claim = record { section = 0; mask = 0 }

-- the claims of its elements, all under its section id
abbrev pub claim_of_planned : PlannedClaim → ℕ → Option Claim
claim_of_planned m re = if in_mask m.mask re then Some (record { id = m.section; idle = false }) else None

-- a claim with the elements of a line
abbrev pub claim_with_line : UplinkLine → PlannedClaim → PlannedClaim
claim_with_line l m = record { section = l.section; mask = bit_or m.mask l.mask }

-- the row has what these lines claim of a symbol
pub record IsRowOf (ls : List UplinkLine) (symbol : ℕ) (row : List PlannedClaim) : Type 0 where
  pub few : (prb : ℕ) → (get_or row prb no_claim).mask < 2 ^ 12
  pub claims : (prb re : ℕ) → claim_of_planned (get_or row prb no_claim) re ≡ claim_in_slot ls symbol prb re

-- the PRBs of a line end within a row
abbrev pub AreInside : List UplinkLine → ℕ → Type 0
AreInside ls most = (k : ℕ) (l : UplinkLine) → slice_get ls k ≡ Some l → l.first_prb + l.prbs ≤ most

abbrev pub HaveTwelve : List UplinkLine → Type 0
HaveTwelve ls = (k : ℕ) (l : UplinkLine) → slice_get ls k ≡ Some l → l.mask < 2 ^ 12
