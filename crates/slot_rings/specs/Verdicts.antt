-- The verdict on an allocation that is on time, over what is looked up, and what it leaves.
use Rattle.std.specs.Prelude.{ℕ, Bool, ◌&&◌, nat_le, if◌then◌else◌, List, ◌∷◌, Option, Some}
use Rattle.fh_base.specs.Carrier.{is_outside}
use Rattle.unit_model.specs.Claims.{names, claim_of, every_cell, some_cell, is_claimed, is_overlapped}
use Rattle.unit_model.specs.Commands.{is_uplink}
use Rattle.unit_model.specs.declared.allocations.Allocation.{Allocation}
use Rattle.unit_model.specs.declared.cells.Cell.{Cell}
use Rattle.unit_model.specs.declared.cells.Claim.{Claim}
use Rattle.unit_model.specs.declared.verdicts.CommandVerdict.{CommandVerdict}
use Rattle.unit_model.specs.declared.verdicts.CommandVerdict.TheVariants.{Range, Repeat, Overlap, Full, Accepted}
use Rattle.unit_model.specs.declared.uplink.TheConstants.{SLOT_SECTIONS}

abbrev pub repeats_by : (Cell → ℕ → Option Claim) → Allocation → Bool
repeats_by claims a = every_cell a (λ cell. is_claimed a.section a.mask (claims cell))

abbrev pub overlaps_by : (Cell → ℕ → Option Claim) → Allocation → Bool
overlaps_by claims a = some_cell a (λ cell. is_overlapped a.section a.mask (claims cell))

-- where these claims are looked up, and so many uplink sections of the slot were accepted
abbrev pub verdict_by : (Cell → ℕ → Option Claim) → ℕ → Allocation → CommandVerdict
verdict_by claims uplinks a =
    if is_outside a.endpoint.prbs a.start_prb a.num_prb then Range
    else (if repeats_by claims a then Repeat
    else (if overlaps_by claims a then Overlap
    else (if is_uplink a && nat_le SLOT_SECTIONS uplinks then Full
    else Accepted)))

-- the claim on an element after an allocation of this verdict
abbrev pub claim_after : CommandVerdict → Allocation → Cell → ℕ → Option Claim → Option Claim
claim_after Accepted a cell re claim = if names a cell re then Some (claim_of a) else claim
claim_after v a cell re claim = claim

-- the uplink sections of its slot after it, the newest first
abbrev pub uplink_after : CommandVerdict → Allocation → List Allocation → List Allocation
uplink_after Accepted a uplink = if is_uplink a then a ∷ uplink else uplink
uplink_after v a uplink = uplink
