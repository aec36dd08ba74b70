-- What one more section changes: only what it names, and nothing that is there.
use Rattle.std.specs.Prelude.{◌≡◌, ℕ, ◌<◌, true, List, ◌∷◌, ◌++◌, Some, ◌⊎◌}
use Rattle.unit_model.specs.Terms.{Side}
use Rattle.window_config.specs.declared.delays.Delays.{Delays}
use Rattle.window_config.specs.declared.verdicts.Class.TheVariants.{OnTime}
use Rattle.unit_model.specs.Blocks.{block_at, data_class, data_covers, timely}
use Rattle.unit_model.specs.Claims.{claim_at, names}
use Rattle.unit_model.specs.Commands.{accepted, allocation_of, command_verdict}
use Rattle.unit_model.specs.declared.cells.Cell.{Cell}
use Rattle.unit_model.specs.declared.cells.Claim.{Claim}
use Rattle.unit_model.specs.declared.decoded.ControlSection.{ControlSection}
use Rattle.unit_model.specs.declared.decoded.UserSection.{UserSection}
use Rattle.unit_model.specs.declared.verdicts.CommandVerdict.TheVariants.{Accepted}

-- one more command leaves the claim on an element as it is, unless it is accepted and names the element
abbrev pub OnlyAcceptedClaims : Type 0
OnlyAcceptedClaims =
    (d : Delays) (c : ControlSection) (earlier : List ControlSection) (cell : Cell) (re : ℕ)
    → (claim_at (accepted d (c ∷ earlier)) cell re ≡ claim_at (accepted d earlier) cell re)
    ⊎ ((command_verdict d (accepted d earlier) c ≡ Accepted) × (names (allocation_of c) cell re ≡ true))

-- a claim that is there stays as it is, whatever commands are received later
abbrev pub ClaimsStay : Type 0
ClaimsStay =
    (d : Delays) (later earlier : List ControlSection) (cell : Cell) (re : ℕ) (claim : Claim) → re < 12
    → claim_at (accepted d earlier) cell re ≡ Some claim → claim_at (accepted d (later ++ earlier)) cell re ≡ Some claim

-- one more section of data leaves the block of a cell as it is, unless it is on time and covers the cell
abbrev pub OnlyTimelyGives : Type 0
OnlyTimelyGives =
    (side : Side) (d : Delays) (x : UserSection) (earlier : List UserSection) (cell : Cell)
    → (block_at (timely side d (x ∷ earlier)) cell ≡ block_at (timely side d earlier) cell)
    ⊎ ((data_class side d x ≡ OnTime) × (data_covers x cell ≡ true))
