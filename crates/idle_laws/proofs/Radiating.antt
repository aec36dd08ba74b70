-- Idle lines after a plan change no cell that radiates.
use Rattle.std.proofs.Common.{◌≡◌, ℕ, pos, ◌+ℤ◌, Bool, true, false, not, ◌&&◌, ◌||◌, ◌==◌, if◌then◌else◌, List, [], ◌∷◌, ◌++◌, Some, refl, ap, ap₂, ◌∙◌}
use Rattle.fh_base.specs.Air.{air_of}
use Rattle.fh_base.specs.declared.values.Slot.{Slot}
use Rattle.window_config.specs.declared.endpoints.EndpointConfig.{EndpointConfig}
use Rattle.unit_model.specs.Claims.{cell_at, covers, names}
use Rattle.fh_base.specs.Lists.{each}
use Rattle.unit_model.specs.Radiated.{first_clock}
use Rattle.unit_model.specs.Sweeps.{OfSymbol, sweep}
use Rattle.unit_model.specs.declared.cells.Cell.{Cell}
use Rattle.air_source.specs.declared.events.AirCell.{AirCell}
use Rattle.air_source.specs.declared.events.Side.TheVariants.{Ru}
use Rattle.plan_model.specs.Lines.{is_idle_kind, line_allocation}
use Rattle.plan_model.specs.declared.lines.PlannedLine.{PlannedLine}
use Rattle.schedule_laws.specs.Cells.{mask_below, planned_cell, planned_mask, planned_section, planned_symbol, radiates}
use Rattle.schedule_laws.specs.Data.{Blocks, radiates_in}
use Rattle.idle_laws.specs.Radiated.{AreIdle, IdleLinesRadiateNothing}

module _ (ps qs : List PlannedLine) (idle : AreIdle qs) where
  none_radiates : (qs : List PlannedLine) → AreIdle qs → (cell : Cell) (re : ℕ) → radiates qs cell re ≡ false
  none_radiates [] h cell re = refl
  none_radiates (q ∷ qs) h cell re =
      ap (λ k. (not (is_idle_kind k) && names (line_allocation q) cell re) || radiates qs cell re) h.0 ∙ none_radiates qs h.1 cell re

  radiates_same : (ps : List PlannedLine) (cell : Cell) (re : ℕ) → radiates (ps ++ qs) cell re ≡ radiates ps cell re
  radiates_same [] cell re = none_radiates qs idle cell re
  radiates_same (p ∷ ps) cell re = ap (λ (b : Bool). (not (line_allocation p).idle && names (line_allocation p) cell re) || b) (radiates_same ps cell re)

  mask_same : (cell : Cell) → planned_mask (ps ++ qs) cell ≡ planned_mask ps cell
  mask_same cell = ap (λ (t : ℕ → Bool). mask_below t 12) (λ i. λ re. radiates_same ps cell re i)

  no_section : (qs : List PlannedLine) → AreIdle qs → (cell : Cell) → planned_section qs cell ≡ 0
  no_section [] h cell = refl
  no_section (q ∷ qs) h cell =
      ap (λ k. let n : ℕ = if not (is_idle_kind k) && covers (line_allocation q) cell then q.line.section else planned_section qs cell in n) h.0 ∙ no_section qs h.1 cell

  section_same : (ps : List PlannedLine) (cell : Cell) → planned_section (ps ++ qs) cell ≡ planned_section ps cell
  section_same [] cell = no_section qs idle cell
  section_same (p ∷ ps) cell = ap (λ (n : ℕ). let m : ℕ = if radiates_in p cell then p.line.section else n in m) (section_same ps cell)

  cell_same : (blocks : Blocks) (ep : ℕ) (e : EndpointConfig) (slot : Slot) (symbol prb : ℕ) → planned_cell blocks (ps ++ qs) ep e slot symbol prb ≡ planned_cell blocks ps ep e slot symbol prb
  cell_same blocks ep e slot symbol prb =
      let cell = cell_at ep true slot symbol prb in
      ap₂ (λ (mask section : ℕ). let xs : List AirCell = if mask == 0 then []
      else (record { side = Ru; at = record { 0 = air_of e.numerology slot symbol }; id = e.id; slot = slot; symbol = symbol; prb = prb; section = section; mask = mask; block = Some (blocks cell) }) ∷ [] in xs)
      (mask_same cell) (section_same ps cell)

  symbol_same : (blocks : Blocks) → planned_symbol blocks (ps ++ qs) ≡ planned_symbol blocks ps
  symbol_same blocks = λ i. λ ep e slot symbol. each 0 e.prbs (λ prb. cell_same blocks ep e slot symbol prb i)

pub radiate_nothing : IdleLinesRadiateNothing
radiate_nothing c blocks ps idles to idle = ap (λ (g : OfSymbol AirCell). sweep g c.endpoints first_clock (to +ℤ pos 1)) (symbol_same ps idles idle blocks)
