-- What is known of the claims of a symbol, so that an allocation is judged by one test for each symbol: this project's means.
use Rattle.std.specs.Prelude.{◌≡◌, ℕ, ◌<◌, ◌≤◌, ◌&&◌, false, nat_lt, if◌then◌else◌, List, get_or, Option, Some, None}
use Rattle.unit_model.specs.Claims.{first_prb, in_mask, is_from, prb_count}
use Rattle.unit_model.specs.declared.allocations.Allocation.{Allocation}
use Rattle.unit_model.specs.declared.cells.Claim.{Claim}
use Rattle.slot_rings.specs.Places.{cell_number, claim_in, no_claims}
use Rattle.slot_rings.specs.declared.claims.CellClaims.{CellClaims}
use Rattle.slot_rings.specs.declared.rows.Row.{Row}
use Rattle.slot_rings.specs.declared.rows.Row.TheVariants.{Known, Mixed}
use Rattle.slot_rings.specs.declared.rows.Run.{Run}
use Rattle.fh_base.specs.declared.symbols.TheConstants.{SLOT_SYMBOLS}

-- the id of a claim, idle or not
abbrev pub claim_id : Option Claim → Option ℕ
claim_id None = None
claim_id (Some c) = Some c.id

abbrev pub run_claims : Run → CellClaims
run_claims r = record { id = r.id; claimed = r.claimed; idle = 0; reported = false }

-- the claims of a cell of the symbol, but for what is idle
abbrev pub row_claims : Run → ℕ → CellClaims
row_claims r n = if is_from r.first r.count n then run_claims r else no_claims

-- what an allocation claims in each of its symbols
abbrev pub claimed_run : Allocation → Run
claimed_run a = record { first = first_prb a; count = prb_count a; id = a.section; claimed = a.mask }

-- the claims of a symbol's cells are those of a run
pub record IsRun (prbs : ℕ) (claims : List CellClaims) (symbol : ℕ) (r : Run) : Type 0 where
  pub each : (n re : ℕ) → n < prbs → re < 12 → claim_id (claim_in (get_or claims (cell_number prbs symbol n) no_claims) re) ≡ claim_id (claim_in (row_claims r n) re)

abbrev pub IsRow : ℕ → List CellClaims → ℕ → Row → Type 0
IsRow prbs claims symbol (Known r) = IsRun prbs claims symbol r
IsRow prbs claims symbol Mixed = Unit {0}

-- no cell of a symbol outside of these PRBs has a claim
abbrev pub HasNoneOutside : ℕ → Row → ℕ → ℕ → Type 0
HasNoneOutside prbs row first end = (claims : List CellClaims) (symbol n re : ℕ) → IsRow prbs claims symbol row → n < prbs → (first ≤ n → end ≤ n) → re < 12
    → claim_in (get_or claims (cell_number prbs symbol n) no_claims) re ≡ None

abbrev pub empty_row : Row
empty_row = Known (record { first = 0; count = 0; id = 0; claimed = 0 })

-- what is known of a symbol: one that is not in the list has no claims
abbrev pub row_at : List Row → ℕ → Row
row_at rows symbol = if nat_lt symbol SLOT_SYMBOLS then get_or rows symbol empty_row else Mixed

pub record AreRows (prbs : ℕ) (claims : List CellClaims) (rows : List Row) : Type 0 where
  pub each : (symbol : ℕ) → IsRow prbs claims symbol (row_at rows symbol)

-- the ids of a cell, where those of a run were added to what was there
abbrev pub id_with : Run → ℕ → ℕ → Option ℕ → Option ℕ
id_with more n re old = if is_from more.first more.count n && in_mask more.claimed re then Some more.id else old

-- what is known of a symbol after the claims of a run were added to it
abbrev pub Grows : Run → Row → Row → Type 0
Grows more (Known old) (Known new) = (n re : ℕ) → re < 12 → claim_id (claim_in (row_claims new n) re) ≡ id_with more n re (claim_id (claim_in (row_claims old n) re))
Grows more Mixed (Known new) = ⊥
Grows more _ Mixed = Unit {0}
