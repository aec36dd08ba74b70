-- What a unit judged before, the newest first, and what that says of a further section (this project's profile).
use Rattle.std.specs.Prelude.{ℕ, zero, suc, ◌+◌, ◌==◌, Bool, true, false, not, ◌&&◌, ◌||◌, if◌then◌else◌, List, [], ◌∷◌, Option, Some, None}
use Rattle.fh_base.specs.Carrier.{count_of, first_of}
use Rattle.fh_base.specs.declared.values.Slot.{Slot}
use Rattle.air_source.specs.Units.{same_side}
use Rattle.air_source.specs.declared.events.Side.{Side}
use Rattle.unit_model.specs.Claims.{cell_of, claim_at, first_prb, is_from, is_overlapped, prb_count, same_slot}
use Rattle.unit_model.specs.Commands.{allocation_of, with_accepted}
use Rattle.fh_base.specs.Lists.{onto, or_else}
use Rattle.unit_model.specs.Radiated.{cell_id}
use Rattle.unit_model.specs.declared.allocations.Allocation.{Allocation}
use Rattle.unit_model.specs.declared.verdicts.DataVerdict.{DataVerdict}
use Rattle.unit_model.specs.declared.verdicts.DataVerdict.TheVariants as user
use Rattle.unit_model.specs.declared.heading.DataHeading.{DataHeading}
use Rattle.unit_model.specs.Judgements.{Judgement, Met, Commanded, Fragmented, Unread, Turned, Given}
use Rattle.explain_model.specs.declared.places.Clash.{Clash}
use Rattle.explain_model.specs.Stories.{Told, Came, Cell, Delay, Count}
use Rattle.explain_model.specs.Timings.{heading_slot}

-- what a unit judged of these events, after what it judged before
unfoldable pub judged_after : Side → List Judgement → List Told → List Judgement
judged_after side before [] = before
judged_after side before (Came s ∷ rest) = judged_after side (if same_side s.side side then onto before s.judged else before) rest
judged_after side before (Cell a ∷ rest) = judged_after side before rest
judged_after side before (Delay at at_side id value ∷ rest) = judged_after side before rest
judged_after side before (Count at_side counter value ∷ rest) = judged_after side before rest

abbrev pub judged_before : Side → List Told → List Judgement
judged_before side told = judged_after side [] told

-- ---- the message that is last

-- where its header begins in the frame
unfoldable pub last_place : List Judgement → ℕ
last_place [] = 0
last_place (Met m ∷ before) = m.place
last_place (Commanded s v ∷ before) = last_place before
last_place (Fragmented e f v ∷ before) = last_place before
last_place (Unread ep e m why ∷ before) = last_place before
last_place (Turned ep e m ∷ before) = last_place before
last_place (Given h v ∷ before) = last_place before

-- ---- claims

-- what was accepted
unfoldable pub accepted_in : List Judgement → List Allocation
accepted_in [] = []
accepted_in (Met m ∷ before) = accepted_in before
accepted_in (Commanded s v ∷ before) = with_accepted v (allocation_of s) (accepted_in before)
accepted_in (Fragmented e f v ∷ before) = accepted_in before
accepted_in (Unread ep e m why ∷ before) = accepted_in before
accepted_in (Turned ep e m ∷ before) = accepted_in before
accepted_in (Given h v ∷ before) = accepted_in before

-- the first that is there of number `from` to from + count - 1
unfoldable pub first_at : {A : Type 0} → ℕ → ℕ → (ℕ → Option A) → Option A
first_at from zero f = None
first_at from (suc count) f = or_else (f from) (first_at (from + 1) count f)

-- under which id a cell is claimed that an allocation cannot have
abbrev pub clash_at : List Allocation → Allocation → ℕ → ℕ → Option Clash
clash_at accepted a symbol prb =
    if is_overlapped a.section a.mask (claim_at accepted (cell_of a symbol prb))
    then Some (record { section = cell_id (claim_at accepted (cell_of a symbol prb)); symbol = symbol; prb = prb })
    else None

-- the first of those cells, by symbol and then by PRB
unfoldable pub clash_in : List Allocation → Allocation → Option Clash
clash_in accepted a = first_at a.symbol a.num_symbol (λ y. first_at (first_prb a) (prb_count a) (λ n. clash_at accepted a y n))

-- ---- blocks

abbrev pub first_given : DataHeading → ℕ
first_given h = first_of h.section.start_prb h.section.num_prb

abbrev pub given_count : DataHeading → ℕ
given_count h = count_of h.endpoint.prbs h.section.num_prb

-- a section of data covers this PRB of a symbol of the endpoint with this id
unfoldable pub gives : DataHeading → ℕ → Slot → ℕ → ℕ → Bool
gives h id slot symbol prb =
    (h.endpoint.id == id) && (same_slot (heading_slot h) slot && ((h.section.symbol == symbol) && is_from (first_given h) (given_count h) prb))

-- it was on time
abbrev pub is_timely : DataVerdict → Bool
is_timely user.Late = false
is_timely user.Early = false
is_timely user.Repeat = true
is_timely user.Taken = true

-- a judgement is on such a section, that was on time
abbrev pub gives_block : Judgement → ℕ → Slot → ℕ → ℕ → Bool
gives_block (Met m) id slot symbol prb = false
gives_block (Commanded s v) id slot symbol prb = false
gives_block (Fragmented e f v) id slot symbol prb = false
gives_block (Unread ep e m why) id slot symbol prb = false
gives_block (Turned ep e m) id slot symbol prb = false
gives_block (Given h v) id slot symbol prb = is_timely v && gives h id slot symbol prb

-- the PRB has a block
unfoldable pub has_block : List Judgement → ℕ → Slot → ℕ → ℕ → Bool
has_block [] id slot symbol prb = false
has_block (j ∷ before) id slot symbol prb = gives_block j id slot symbol prb || has_block before id slot symbol prb

-- how many of number `from` to from + count - 1 pass
unfoldable pub passing : ℕ → ℕ → (ℕ → Bool) → ℕ
passing from zero p = 0
passing from (suc count) p = (if p from then 1 else 0) + passing (from + 1) count p

-- how many of its PRBs have no block
unfoldable pub fresh_count : List Judgement → DataHeading → ℕ
fresh_count before h =
    passing (first_given h) (given_count h) (λ n. not (has_block before h.endpoint.id (heading_slot h) h.section.symbol n))
