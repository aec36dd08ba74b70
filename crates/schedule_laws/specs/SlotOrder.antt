-- Lines of one endpoint in the order of their slots (this project's means).
use Rattle.std.specs.Prelude.{◌≡◌, Bool, false, List, [], ◌∷◌, ℕ, ◌<◌, ◌≤◌, length, slice_index_or}
use Rattle.std.specs.Ordering.{nat_cmp, int_cmp, on, then_cmp, is_lt}
use Rattle.std.specs.declared.cmp.Ordering.{Ordering}
use Rattle.fh_base.specs.declared.values.Slot.{Slot}
use Rattle.plan_model.specs.declared.lines.PlannedLine.{PlannedLine}
use Rattle.window_config.specs.Plans.{IsPlanLine}
use Rattle.window_config.specs.declared.endpoints.EndpointConfig.{EndpointConfig}
use Rattle.plan_model.specs.Validity.{is_out_of_range}
use Rattle.fh_base.specs.Ordered.{AreOrderedBy}

-- by frame, subframe and number
abbrev pub slot_cmp : Slot → Slot → Ordering
slot_cmp = then_cmp (on (λ s. s.frame) int_cmp) (then_cmp (on (λ s. s.subframe) nat_cmp) (on (λ s. s.slot) nat_cmp))

-- the line's slot is an earlier one
abbrev pub comes_first : PlannedLine → PlannedLine → Bool
comes_first p q = is_lt (slot_cmp p.line.slot q.line.slot)

-- none is after one of a later slot
abbrev pub ArePlannedInOrder : List PlannedLine → Type 0
ArePlannedInOrder = AreOrderedBy comes_first

-- ---- lines of one endpoint

-- a line of this endpoint, in its ranges
pub record IsEndpointLine (e : EndpointConfig) (ep : ℕ) (p : PlannedLine) : Type 0 where
  pub endpoint : p.endpoint ≡ e
  pub ep_is : p.ep ≡ ep
  pub ranges : IsPlanLine p.line
  pub inside : is_out_of_range p.endpoint p.line ≡ false

-- and of this slot
pub record IsSlotLine (e : EndpointConfig) (ep : ℕ) (slot : Slot) (p : PlannedLine) : Type 0 where
  pub of_endpoint : IsEndpointLine e ep p
  pub slot_is : p.line.slot ≡ slot

-- the index of the endpoint of lines that have one
abbrev pub ep_of : List PlannedLine → ℕ
ep_of [] = 0
ep_of (p ∷ ps) = p.ep

-- the first n lines are of one slot, and the next is of another
pub record IsFirstRun (lines : List PlannedLine) (n : ℕ) : Type 0 where
  pub some : 0 < n
  pub within : n ≤ length lines
  pub same : (k : ℕ) (d : PlannedLine) → k < n → (slice_index_or lines k d).line.slot ≡ (slice_index_or lines 0 d).line.slot
  pub next : (d : PlannedLine) → n < length lines → (slice_index_or lines n d).line.slot ≡ (slice_index_or lines 0 d).line.slot → ⊥
