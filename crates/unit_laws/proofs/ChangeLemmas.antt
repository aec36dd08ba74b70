-- What one more section changes.
use Rattle.std.proofs.Common.{◌≡◌, ℕ, ◌<◌, Bool, true, false, List, [], ◌∷◌, ◌++◌, ◌⊎◌, inl, inr, refl, ap, ◌∙◌}
use Rattle.std.specs.Prelude.{Option, Some, None, if◌then◌else◌, is_some}
use Rattle.unit_model.specs.Terms.{Side}
use Rattle.window_config.specs.declared.delays.Delays.{Delays}
use Rattle.window_config.specs.declared.verdicts.Class.{Class}
use Rattle.window_config.specs.declared.verdicts.Class.TheVariants as class
use Rattle.unit_model.specs.Blocks.{block_at, block_in, block_of, data_class, data_covers, timely, with_timely}
use Rattle.unit_model.specs.Claims.{claim_at, claim_of, names}
use Rattle.unit_model.specs.Commands.{accepted, allocation_of, command_verdict, with_accepted}
use Rattle.fh_base.specs.Lists.{or_else}
use Rattle.unit_model.specs.declared.allocations.Allocation.{Allocation}
use Rattle.unit_model.specs.declared.cells.Block.{Block}
use Rattle.unit_model.specs.declared.cells.Cell.{Cell}
use Rattle.unit_model.specs.declared.cells.Claim.{Claim}
use Rattle.unit_model.specs.declared.decoded.ControlSection.{ControlSection}
use Rattle.unit_model.specs.declared.decoded.UserSection.{UserSection}
use Rattle.unit_model.specs.declared.verdicts.CommandVerdict.{CommandVerdict}
use Rattle.unit_model.specs.declared.verdicts.CommandVerdict.TheVariants.{Mismatch, Late, Early, Range, Repeat, Overlap, Full, Accepted}
use Rattle.unit_laws.specs.Changes.{OnlyAcceptedClaims, ClaimsStay, OnlyTimelyGives}
use Rattle.unit_laws.proofs.AcceptanceLemmas.{accepted_is_acceptable}
use Rattle.unit_laws.proofs.CellLemmas.{unclaimed}

-- one more command, or allocation, or section
pub accepted-cons : (d : Delays) (c : ControlSection) (earlier : List ControlSection)
    → accepted d (c ∷ earlier) ≡ with_accepted (command_verdict d (accepted d earlier) c) (allocation_of c) (accepted d earlier)
unfolding accepted
accepted-cons d c earlier = refl

pub claim-cons : (a : Allocation) (earlier : List Allocation) (cell : Cell) (re : ℕ)
    → claim_at (a ∷ earlier) cell re ≡ (if names a cell re then Some (claim_of a) else claim_at earlier cell re)
unfolding claim_at
claim-cons a earlier cell re = refl

pub timely-cons : (side : Side) (d : Delays) (x : UserSection) (earlier : List UserSection) → timely side d (x ∷ earlier) ≡ with_timely (data_class side d x) x (timely side d earlier)
unfolding timely
timely-cons side d x earlier = refl

pub block-cons : (x : UserSection) (earlier : List UserSection) (cell : Cell) → block_at (x ∷ earlier) cell ≡ or_else (block_at earlier cell) (block_in x cell)
unfolding block_at
block-cons x earlier cell = refl

-- what is accepted of one more command: it changes nothing, or it is accepted and is first
pub accepted_more : (d : Delays) (c : ControlSection) (earlier : List ControlSection)
    → (accepted d (c ∷ earlier) ≡ accepted d earlier)
    ⊎ ((command_verdict d (accepted d earlier) c ≡ Accepted) × (accepted d (c ∷ earlier) ≡ allocation_of c ∷ accepted d earlier))
accepted_more d c earlier = go (command_verdict d (accepted d earlier) c) refl
  where
    from : (v : CommandVerdict) → command_verdict d (accepted d earlier) c ≡ v → accepted d (c ∷ earlier) ≡ with_accepted v (allocation_of c) (accepted d earlier)
    from v is = accepted-cons d c earlier ∙ ap (λ (x : CommandVerdict). with_accepted x (allocation_of c) (accepted d earlier)) is

    go : (v : CommandVerdict) → command_verdict d (accepted d earlier) c ≡ v
        → (accepted d (c ∷ earlier) ≡ accepted d earlier)
        ⊎ ((command_verdict d (accepted d earlier) c ≡ Accepted) × (accepted d (c ∷ earlier) ≡ allocation_of c ∷ accepted d earlier))
    go Mismatch is = inl (from Mismatch is)
    go Late is = inl (from Late is)
    go Early is = inl (from Early is)
    go Range is = inl (from Range is)
    go Repeat is = inl (from Repeat is)
    go Overlap is = inl (from Overlap is)
    go Full is = inl (from Full is)
    go Accepted is = inr (is, from Accepted is)

pub timely_more : (side : Side) (d : Delays) (x : UserSection) (earlier : List UserSection)
    → (timely side d (x ∷ earlier) ≡ timely side d earlier)
    ⊎ ((data_class side d x ≡ class.OnTime) × (timely side d (x ∷ earlier) ≡ x ∷ timely side d earlier))
timely_more side d x earlier = go (data_class side d x) refl
  where
    from : (k : Class) → data_class side d x ≡ k → timely side d (x ∷ earlier) ≡ with_timely k x (timely side d earlier)
    from k is = timely-cons side d x earlier ∙ ap (λ (y : Class). with_timely y x (timely side d earlier)) is

    go : (k : Class) → data_class side d x ≡ k
        → (timely side d (x ∷ earlier) ≡ timely side d earlier)
        ⊎ ((data_class side d x ≡ class.OnTime) × (timely side d (x ∷ earlier) ≡ x ∷ timely side d earlier))
    go class.Late is = inl (from class.Late is)
    go class.Early is = inl (from class.Early is)
    go class.OnTime is = inr (is, from class.OnTime is)

-- ---- claims

pub claim_same : (a : Allocation) (earlier : List Allocation) (cell : Cell) (re : ℕ) → names a cell re ≡ false → claim_at (a ∷ earlier) cell re ≡ claim_at earlier cell re
claim_same a earlier cell re h = claim-cons a earlier cell re ∙ ap (λ b. if b then Some (claim_of a) else claim_at earlier cell re) h

pub either_way : (b : Bool) → (b ≡ false) ⊎ (b ≡ true)
either_way true = inr refl
either_way false = inl refl

pub only_accepted : OnlyAcceptedClaims
only_accepted d c earlier cell re = elim (accepted_more d c earlier) [
  | inl e ↦ inl (ap (λ (xs : List Allocation). claim_at xs cell re) e)
  | inr is ↦ elim (either_way (names (allocation_of c) cell re)) [
    | inl not_named ↦ inl (ap (λ (xs : List Allocation). claim_at xs cell re) is.1 ∙ claim_same (allocation_of c) (accepted d earlier) cell re not_named)
    | inr named ↦ inr (is.0, named)
  ]
]

is_there : (o : Option Claim) (k : Claim) → o ≡ Some k → is_some o ≡ false → ⊥
is_there None k e h = cc
is_there (Some x) k e h = cc

-- one more command
claim_stays_one : (d : Delays) (c : ControlSection) (earlier : List ControlSection) (cell : Cell) (re : ℕ) (claim : Claim) → re < 12
    → claim_at (accepted d earlier) cell re ≡ Some claim → claim_at (accepted d (c ∷ earlier)) cell re ≡ Some claim
claim_stays_one d c earlier cell re claim below there = elim (only_accepted d c earlier cell re) [
  | inl e ↦ e ∙ there
  | inr is ↦
      let apart = (accepted_is_acceptable d (accepted d earlier) c is.0).apart in
      absurd (is_there (claim_at (accepted d earlier) cell re) claim there (unclaimed (accepted d earlier) (allocation_of c) cell re apart is.1 below))
]

pub claim_stays : ClaimsStay
claim_stays d [] earlier cell re claim below there = there
claim_stays d (c ∷ later) earlier cell re claim below there =
    claim_stays_one d c (later ++ earlier) cell re claim below (claim_stays d later earlier cell re claim below there)

-- ---- blocks

pub or_else_none : (o : Option Block) → or_else o None ≡ o
or_else_none None = refl
or_else_none (Some b) = refl

pub block_same : (x : UserSection) (earlier : List UserSection) (cell : Cell) → data_covers x cell ≡ false → block_at (x ∷ earlier) cell ≡ block_at earlier cell
block_same x earlier cell h =
    block-cons x earlier cell
    ∙ ap (λ b. or_else (block_at earlier cell) (if b then Some (block_of x cell) else None)) h ∙ or_else_none (block_at earlier cell)

pub only_timely : OnlyTimelyGives
only_timely side d x earlier cell = elim (timely_more side d x earlier) [
  | inl e ↦ inl (ap (λ (xs : List UserSection). block_at xs cell) e)
  | inr is ↦ elim (either_way (data_covers x cell)) [
    | inl not_covered ↦ inl (ap (λ (xs : List UserSection). block_at xs cell) is.1 ∙ block_same x (timely side d earlier) cell not_covered)
    | inr covered ↦ inr (is.0, covered)
  ]
]
