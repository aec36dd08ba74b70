-- A line of a plan at its endpoint, and what it names (the fields are those of O-RAN.WG4.CUS, C-plane sections; the plan is this
-- project's profile).
use Rattle.std.specs.Prelude.{ℕ, ◌+◌, Bool, true, false, not, List, filter, map, [], ◌∷◌, ◌++◌, Option, Some, None}
use Rattle.std.specs.Option.{option_to_list}
use Rattle.window_config.specs.declared.endpoints.EndpointConfig.{EndpointConfig}
use Rattle.window_config.specs.declared.plan.PlanKind.{PlanKind}
use Rattle.window_config.specs.declared.plan.PlanKind.TheVariants.{Down, Up, Idle}
use Rattle.window_config.specs.declared.plan.PlanLine.{PlanLine}
use Rattle.unit_model.specs.Meetings.{find_endpoint}
use Rattle.unit_model.specs.declared.allocations.Allocation.{Allocation}
use Rattle.plan_model.specs.declared.lines.PlannedLine.{PlannedLine}

-- a line for the downlink; `idle` lines are for the downlink too (section type 0)
abbrev pub is_down_kind : PlanKind → Bool
is_down_kind Down = true
is_down_kind Up = false
is_down_kind Idle = true

abbrev pub is_idle_kind : PlanKind → Bool
is_idle_kind Down = false
is_idle_kind Up = false
is_idle_kind Idle = true

-- what a line names, as a section of a command does; filterIndex is 0 in all that a plan sends
abbrev pub line_allocation : PlannedLine → Allocation
line_allocation p = record {
  ep = p.ep;
  endpoint = p.endpoint;
  down = is_down_kind p.line.kind;
  idle = is_idle_kind p.line.kind;
  slot = p.line.slot;
  symbol = p.line.symbol;
  num_symbol = p.line.count;
  start_prb = p.line.start_prb;
  num_prb = p.line.num_prb;
  mask = p.line.mask;
  section = p.line.section;
  filter = 0;
}

-- a line for the uplink
abbrev pub is_up_line : PlannedLine → Bool
is_up_line p = not (is_down_kind p.line.kind)

-- what the uplink lines among these name, in the order of lines
abbrev pub uplink_allocations : List PlannedLine → List Allocation
uplink_allocations ps = map line_allocation (filter is_up_line ps)

-- the line with this place in the list, at the endpoint with its eAxC id, where there is one
abbrev pub planned_with : ℕ → PlanLine → Option (ℕ × EndpointConfig) → Option PlannedLine
planned_with k line None = None
planned_with k line (Some found) = Some (record { index = k; ep = found.0; endpoint = found.1; line = line })

abbrev pub planned_at : List EndpointConfig → ℕ → PlanLine → Option PlannedLine
planned_at es k line = planned_with k line (find_endpoint es line.id)

-- the lines whose endpoints are known, of which the first in the list has the place k
unfoldable pub planned_from : List EndpointConfig → ℕ → List PlanLine → List PlannedLine
planned_from es k [] = []
planned_from es k (line ∷ lines) = option_to_list (planned_at es k line) ++ planned_from es (k + 1) lines

abbrev pub planned : List EndpointConfig → List PlanLine → List PlannedLine
planned es lines = planned_from es 0 lines
