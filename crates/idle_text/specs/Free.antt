-- The slots of an endpoint that are free (this project's profile).
use Rattle.std.specs.Prelude.{ℕ, ◌+◌, ◌-◌, ◌*◌, Bool, not, ◌&&◌, ◌==◌, nat_le, if◌then◌else◌, List, [], ◌∷◌}
use Rattle.std.specs.List.{list_any}
use Rattle.fh_base.specs.Numbering.{slots_of, symbols_of}
use Rattle.fh_base.specs.declared.numerology.Numerology.{Numerology}
use Rattle.fh_base.specs.declared.values.Slot.{Slot}
use Rattle.window_config.specs.declared.endpoints.EndpointConfig.{EndpointConfig}
use Rattle.window_config.specs.declared.plan.PlanLine.{PlanLine}
use Rattle.air_source.specs.declared.events.AirCell.{AirCell}
use Rattle.unit_model.specs.Claims.{same_slot}
use Rattle.fh_base.specs.Lists.{each}
use Rattle.plan_model.specs.Lines.{is_down_kind}
use Rattle.idle_spans.specs.Symbols.{symbol_at}
use Rattle.idle_text.specs.Listed.{Run, listed_runs}

-- how many slots the frames from one to another have
abbrev pub slot_count : Numerology → ℕ → ℕ → ℕ
slot_count n first last = (last + 1 - first) * (10 * slots_of n)

-- the slot with this number, 0 for the first slot of a frame: that of its first symbol
abbrev pub slot_at : Numerology → ℕ → ℕ → Slot
slot_at n first k = (symbol_at n first (k * symbols_of n)).slot

-- the run has all symbols of the slot with this number, where a slot has so many
abbrev pub has_slot : ℕ → ℕ → Run → Bool
has_slot symbols k r = nat_le r.first (k * symbols) && nat_le ((k + 1) * symbols) (r.first + r.len)

-- a downlink line (`idle` lines are for the downlink too) of the endpoint and the slot: in a valid plan it names a cell there
abbrev pub is_of_slot : EndpointConfig → Slot → PlanLine → Bool
is_of_slot e slot line = (line.id == e.id) && (is_down_kind line.kind && same_slot line.slot slot)

abbrev pub is_touched : EndpointConfig → List PlanLine → Slot → Bool
is_touched e lines slot = list_any (is_of_slot e slot) lines

-- all symbols of the slot lie in one listed span, and no downlink line of the plan is of it
abbrev pub is_free : EndpointConfig → ℕ → List PlanLine → List Run → ℕ → Bool
is_free e first lines runs k = list_any (has_slot (symbols_of e.numerology) k) runs && not (is_touched e lines (slot_at e.numerology first k))

abbrev pub free_slot : EndpointConfig → ℕ → List PlanLine → List Run → ℕ → List Slot
free_slot e first lines runs k = if is_free e first lines runs k then slot_at e.numerology first k ∷ [] else []

-- the free slots of an endpoint in some frames, in order
abbrev pub free_slots : EndpointConfig → ℕ → ℕ → List AirCell → ℕ → List PlanLine → List Slot
free_slots e first last cells min lines = each 0 (slot_count e.numerology first last) (free_slot e first lines (listed_runs e first last cells min))
