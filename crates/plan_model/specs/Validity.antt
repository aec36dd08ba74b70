-- The tests of the lines of a plan, one after the other (this project's profile; numbers of slots, symbols and PRBs are those of
-- the endpoint, by 3GPP TS 38.211 and its configuration).
use Rattle.std.specs.Prelude.{ℕ, ◌+◌, ◌<◌, ◌^◌, Bool, not, ◌&&◌, ◌||◌, ◌==◌, nat_lt, nat_le, if◌then◌else◌, List, [], ◌∷◌, ◌++◌, Option, Some, None}
use Rattle.std.specs.List.{list_any}
use Rattle.std.specs.Option.{option_to_list, option_map}
use Rattle.fh_base.specs.Carrier.{is_outside}
use Rattle.fh_base.specs.Numbering.{slots_of, symbols_of}
use Rattle.window_config.specs.declared.endpoints.EndpointConfig.{EndpointConfig}
use Rattle.window_config.specs.declared.plan.PlanLine.{PlanLine}
use Rattle.unit_model.specs.Claims.{same_slot, same_way, first_prb, prb_count, in_mask}
use Rattle.unit_model.specs.Commands.{is_full}
use Rattle.fh_base.specs.Lists.{some}
use Rattle.unit_model.specs.declared.allocations.Allocation.{Allocation}
use Rattle.plan_model.specs.Lines.{line_allocation, planned_at}
use Rattle.plan_model.specs.declared.lines.PlannedLine.{PlannedLine}
use Rattle.plan_model.specs.declared.refusals.PlanWhy.{PlanWhy}
use Rattle.plan_model.specs.declared.refusals.PlanWhy.TheVariants.{UnknownEndpoint, Range, Overlap, TooManySections}

-- ---- Range

-- the endpoint's subframes have no such slot, the line names no symbol or one after the slot's last, PRBs after the carrier's
-- last, or no resource element
abbrev pub is_out_of_range : EndpointConfig → PlanLine → Bool
is_out_of_range e line =
    nat_le (slots_of e.numerology) line.slot.slot || (line.count == 0 || (nat_lt (symbols_of e.numerology) (line.symbol + line.count)
    || (is_outside e.prbs line.start_prb line.num_prb || (line.mask == 0))))

-- ---- Overlap, of two lines

-- m numbers from a on and n from b on, neither of them none, have one in common
abbrev pub ranges_meet : ℕ → ℕ → ℕ → ℕ → Bool
ranges_meet a m b n = nat_lt a (b + n) && nat_lt b (a + m)

-- it names a resource element
pub record IsProper (a : Allocation) : Type 0 where
  pub symbols : 0 < a.num_symbol
  pub prbs : 0 < prb_count a
  pub mask : 0 < a.mask
  pub twelve : a.mask < 2 ^ 12

-- they share a cell: a PRB in a symbol, of one endpoint and direction
abbrev pub share_cell : Allocation → Allocation → Bool
share_cell a b =
    (a.ep == b.ep) && (same_way a.down b.down && (same_slot a.slot b.slot
    && (ranges_meet a.symbol a.num_symbol b.symbol b.num_symbol && ranges_meet (first_prb a) (prb_count a) (first_prb b) (prb_count b))))

-- both masks have a resource element
abbrev pub share_bit : ℕ → ℕ → Bool
share_bit m n = some 0 12 (λ re. in_mask m re && in_mask n re)

-- they share a resource element, or a cell under two section ids
abbrev pub clash : Allocation → Allocation → Bool
clash a b = share_cell a b && (share_bit a.mask b.mask || not (a.section == b.section))

-- ---- one line after others, the newest of these first

abbrev pub why_claimed : List Allocation → Allocation → Option PlanWhy
why_claimed earlier a =
    if list_any (clash a) earlier then Some Overlap else (if is_full earlier a then Some TooManySections else None)

abbrev pub why_planned : List Allocation → PlannedLine → Option PlanWhy
why_planned earlier p = if is_out_of_range p.endpoint p.line then Some Range else why_claimed earlier (line_allocation p)

abbrev pub why_found : List Allocation → Option PlannedLine → Option PlanWhy
why_found earlier None = Some UnknownEndpoint
why_found earlier (Some p) = why_planned earlier p

-- ---- the first line that is refused

-- the line k is refused, or else what is refused later
abbrev pub refused_at : ℕ → Option PlanWhy → Option (ℕ × PlanWhy) → Option (ℕ × PlanWhy)
refused_at k None later = later
refused_at k (Some why) later = Some (k, why)

-- what this line and the earlier ones name, the newest first
abbrev pub with_line : Option PlannedLine → List Allocation → List Allocation
with_line p earlier = option_to_list (option_map line_allocation p) ++ earlier

-- the first of these lines that is refused, and why: the first of them is line k, and the earlier lines name these
unfoldable pub refused_from : List EndpointConfig → List Allocation → ℕ → List PlanLine → Option (ℕ × PlanWhy)
refused_from es earlier k [] = None
refused_from es earlier k (line ∷ lines) =
    refused_at k (why_found earlier (planned_at es k line)) (refused_from es (with_line (planned_at es k line) earlier) (k + 1) lines)

abbrev pub first_refused : List EndpointConfig → List PlanLine → Option (ℕ × PlanWhy)
first_refused es lines = refused_from es [] 0 lines
