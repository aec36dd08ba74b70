-- The plan lines that are proposed for free slots (this project's profile).
use Rattle.std.specs.Prelude.{ℕ, List, map}
use Rattle.std.specs.List.{flat_map}
use Rattle.window_config.specs.declared.endpoints.EndpointConfig.{EndpointConfig}
use Rattle.window_config.specs.declared.plan.PlanLine.{PlanLine}
use Rattle.air_source.specs.declared.events.AirCell.{AirCell}
use Rattle.idle_text.specs.Lines.{idle_line}
use Rattle.idle_text.specs.Free.{free_slots}

-- the lines that are proposed for an endpoint, one for each free slot, and for all endpoints
abbrev pub proposed_at : ℕ → ℕ → List AirCell → ℕ → List PlanLine → EndpointConfig → List PlanLine
proposed_at first last cells min lines e = map (idle_line e) (free_slots e first last cells min lines)

abbrev pub proposed : List EndpointConfig → ℕ → ℕ → List AirCell → ℕ → List PlanLine → List PlanLine
proposed es first last cells min lines = flat_map (proposed_at first last cells min lines) es
