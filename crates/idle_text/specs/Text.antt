-- The text that tells when endpoints are idle (this project's profile).
use Rattle.std.specs.Prelude.{ℕ, Bool, false, if◌then◌else◌, List, [], ◌∷◌, ◌++◌, codes, get_or, map}
use Rattle.std.specs.List.{flat_map}
use Rattle.window_config.specs.declared.endpoints.EndpointConfig.{EndpointConfig}
use Rattle.window_config.specs.declared.plan.PlanLine.{PlanLine}
use Rattle.air_source.specs.declared.events.AirCell.{AirCell}
use Rattle.fh_base.specs.declared.values.Slot.{Slot}
use Rattle.fh_base.specs.Lists.{each}
use Rattle.idle_text.specs.Lines.{idle_line, plan_line_text, span_line_text}
use Rattle.idle_text.specs.Free.{slot_at}
use Rattle.idle_text.specs.Proposed.{proposed_at}
use Rattle.idle_text.specs.Listed.{spans_of}

-- the lines of an endpoint's listed spans
abbrev pub spans_text : ℕ → ℕ → List AirCell → ℕ → EndpointConfig → List ℕ
spans_text first last cells min e = flat_map (span_line_text e.id) (spans_of e first last cells min)

-- those that are proposed for its free slots
abbrev pub free_text : ℕ → ℕ → List AirCell → ℕ → List PlanLine → EndpointConfig → List ℕ
free_text first last cells min lines e = flat_map plan_line_text (proposed_at first last cells min lines e)

abbrev pub endpoint_text : ℕ → ℕ → List AirCell → ℕ → List PlanLine → EndpointConfig → List ℕ
endpoint_text first last cells min lines e = spans_text first last cells min e ++ free_text first last cells min lines e

abbrev pub end_text : List ℕ
end_text = codes "end\n"

-- the whole text, of all endpoints in the order of the document, for a plan of these lines and after these cells were reported
unfoldable pub idle_text : List EndpointConfig → List PlanLine → ℕ → ℕ → ℕ → List AirCell → List ℕ
idle_text es lines first last min cells = flat_map (endpoint_text first last cells min lines) es ++ end_text

-- ---- by flags

-- the slot with this number, where its flag is set
abbrev pub flagged_slot : ℕ → EndpointConfig → Bool → ℕ → List Slot
flagged_slot first e flag k = if flag then slot_at e.numerology first k ∷ [] else []

-- those of the numbers below one
abbrev pub flagged : ℕ → EndpointConfig → List Bool → ℕ → List Slot
flagged first e flags count = each 0 count (λ k. flagged_slot first e (get_or flags k false) k)

-- the lines that are proposed for some slots
abbrev pub lines_text : EndpointConfig → List Slot → List ℕ
lines_text e slots = flat_map plan_line_text (map (idle_line e) slots)

abbrev pub flagged_text : ℕ → EndpointConfig → List Bool → ℕ → List ℕ
flagged_text first e flags count = lines_text e (flagged first e flags count)
