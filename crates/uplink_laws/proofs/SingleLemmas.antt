-- Each planned uplink cell is taken in exactly once.
use Rattle.std.proofs.Common.{◌≡◌, ℕ, ℤ, pos, ◌+◌, ◌<◌, ◌+ℤ◌, ◌*ℤ◌, ◌-ℤ◌, ◌≤ℤ◌, inl, inr, Bool, true, false, not, ◌&&◌, ◌==◌, if◌then◌else◌, List, [], ◌∷◌, refl, ap, sym, ◌∙◌, subst, arith}
use Rattle.std.specs.Prelude.{filter}
use Rattle.std.proofs.lemmas.Bool.{cases_Bool, and_parts, and_from, eqb-true}
use Rattle.std.proofs.lemmas.Int.{ints}
use Rattle.std.proofs.Math.Nat.{lt_of_lt_of_le}
use Rattle.fh_base.specs.Air.{air_of}
use Rattle.air_source.specs.declared.events.AirCell.{AirCell}
use Rattle.air_source.specs.declared.events.Side.TheVariants.{Du}
use Rattle.window_config.specs.declared.config.Config.{Config}
use Rattle.window_config.specs.declared.plan.PlanLine.{PlanLine}
use Rattle.unit_model.specs.Claims.{cell_at, cell_of, covers, in_mask, names}
use Rattle.unit_model.specs.Meetings.{Arrival}
use Rattle.unit_model.specs.Radiated.{first_clock, wait_of}
use Rattle.unit_model.specs.Reports.{du_known, du_reported}
use Rattle.unit_model.specs.Standing.{same_cell}
use Rattle.unit_model.specs.declared.cells.Cell.{Cell}
use Rattle.unit_model.proofs.ReachLaws.{symbol_piece}
use Rattle.unit_laws.proofs.DueLemmas.{reported_differ}
use Rattle.plan_model.specs.Lines.{line_allocation, planned, uplink_allocations, is_up_line}
use Rattle.plan_model.specs.declared.lines.PlannedLine.{PlannedLine}
use Rattle.schedule_laws.specs.Cells.{planned_mask, radiates}
use Rattle.schedule_laws.specs.Data.{Blocks}
use Rattle.plan_model.proofs.LineLemmas.{good, start_in_time}
use Rattle.plan_model.proofs.SweptLists.{in_piece, numerology_short}
use Rattle.schedule_laws.proofs.SingleLemmas.{mask_some, only_one}
use Rattle.plan_model.proofs.TimeLemmas.{by_then}
use Rattle.sent_frames.specs.Messages.{Source}
use Rattle.uplink_model.specs.Frames.{Antenna}
use Rattle.uplink_laws.specs.Cells.{taken_air, taken_cell, taken_event, taken_symbol}
use Rattle.uplink_laws.specs.Data.{antenna_blocks}
use Rattle.uplink_laws.specs.Premise.{BothArrive}
use Rattle.uplink_laws.specs.Singles.{uplink_event_of, EachCellIsTakenOnce}
use Rattle.uplink_laws.proofs.BlockLemmas.{not_down}
use Rattle.uplink_laws.proofs.CellLemmas.{plan_taken_in}
use Rattle.fh_base.specs.declared.frames.TheConstants.{FRAME}
use Rattle.unit_model.proofs.ClaimLemmas.{within_carrier, from_within, covers_is}
use Rattle.fh_base.proofs.Orders.{not_negative}
use Rattle.fh_base.specs.declared.nanoseconds.TheConstants.{NANOSECOND}
use Rattle.fh_base.specs.Members.{IsIn}
use Rattle.fh_base.proofs.MemberLemmas.{any_in}
use Rattle.fh_base.proofs.MadeLists.{in_each}

pub after_clock : (s ns : ℤ) → FRAME ≤ℤ s → pos 0 ≤ℤ ns → (first_clock -ℤ ns *ℤ pos NANOSECOND) ≤ℤ s
after_clock s ns h k = omega (arith, ints, h, k)

module _ (c : Config) (lines : List PlanLine) (source : Source) (antenna : Antenna) (down up : List Arrival) (h : BothArrive c lines source antenna down up) where
  abbrev ps : List PlannedLine
  ps = planned c.endpoints lines

  abbrev blocks : Blocks
  blocks = antenna_blocks c antenna

  pub taken_once : (p : PlannedLine) (symbol prb re : ℕ) (to : ℤ) → IsIn p (planned c.endpoints lines) → is_up_line p ≡ true → re < 12
      → names (line_allocation p) (cell_of (line_allocation p) symbol prb) re ≡ true → (air_of p.endpoint.numerology p.line.slot symbol +ℤ wait_of Du c.delays) ≤ℤ to
      → filter (same_cell (uplink_event_of (antenna_blocks c antenna) (planned c.endpoints lines) p symbol prb)) (du_reported c (uplink_allocations (planned c.endpoints lines)) up to)
      ≡ uplink_event_of (antenna_blocks c antenna) (planned c.endpoints lines) p symbol prb ∷ []
  taken_once p symbol prb re to m uplink below named soon =
      let a = line_allocation p in
      let kind = not_down p.line.kind uplink in
      let cell = cell_of a symbol prb in
      let parts = and_parts (covers a cell) (in_mask a.mask re) named in
      let cover = covers_is a cell parts.0 in
      let g = good c lines h.sendable.config h.sendable.lines_fit h.sendable.valid p m in
      let e = p.endpoint in
      let s = air_of e.numerology p.line.slot symbol in
      let symbol_below = lt_of_lt_of_le (from_within p.line.symbol p.line.count symbol cover.symbol) g.within in
      let prb_below = within_carrier e.prbs p.line.start_prb p.line.num_prb prb g.prbs cover.prb in
      let time = start_in_time c.endpoints p symbol g symbol_below in
      let event = uplink_event_of blocks ps p symbol prb in
      let it : radiates ps cell re ≡ true = any_in (λ (q : PlannedLine). not (line_allocation q).idle && names (line_allocation q) cell re) p ps m (and_from _ _ kind.1 named) in
      let same_way_cell : cell_at p.ep false p.line.slot symbol prb ≡ cell = ap (λ (b : Bool). cell_at p.ep b p.line.slot symbol prb) (sym kind.0) in
      let some : (planned_mask ps cell == 0) ≡ false = elim (cases_Bool (planned_mask ps cell == 0)) [
        | inl none ↦ absurd (mask_some (radiates ps cell) 12 re below it (eqb-true (planned_mask ps cell) 0 none))
        | inr is ↦ is
      ] in
      let told : taken_cell blocks ps p.ep e p.line.slot symbol prb ≡ event ∷ [] =
      ap (λ (x : Cell). let xs : List AirCell = if planned_mask ps x == 0 then [] else taken_event blocks ps e x s ∷ [] in xs) same_way_cell
      ∙ ap (λ (b : Bool). let xs : List AirCell = if b then [] else taken_event blocks ps e cell s ∷ [] in xs) some in
      let in_symbol : IsIn event (taken_symbol blocks ps p.ep e p.line.slot symbol) =
      in_each event 0 e.prbs prb (taken_cell blocks ps p.ep e p.line.slot symbol) (omega arith) (omega (arith, prb_below)) (subst (λ (xs : List AirCell). IsIn event xs) (sym told) (inl refl)) in
      let limits = h.sendable.config.delays.ta4 in
      let piece = symbol_piece (taken_symbol blocks ps) c.endpoints p.ep e p.line.slot symbol (first_clock -ℤ wait_of Du c.delays) ((to -ℤ wait_of Du c.delays) +ℤ pos 1) g.at (numerology_short e.numerology)
      (record { subframe = g.fits.subframe; slot = g.slot }) symbol_below (after_clock s c.delays.ta4.max time.0 (not_negative c.delays.ta4.min c.delays.ta4.max limits.low limits.order))
      (by_then s (wait_of Du c.delays) to soon) in
      let there : IsIn event (taken_air c blocks ps to) = in_piece event (taken_symbol blocks ps p.ep e p.line.slot symbol) (taken_air c blocks ps to) piece in_symbol in
      let reported_there : IsIn event (du_reported c (uplink_allocations ps) up to) = subst (λ (xs : List AirCell). IsIn event xs) (sym (plan_taken_in c lines source antenna down up h to)) there in
      only_one event (du_reported c (uplink_allocations ps) up to) (reported_differ Du c.delays c.endpoints (du_known c (uplink_allocations ps) up) to h.sendable.config.endpoints.differ) reported_there

pub each_cell_is_taken_once : EachCellIsTakenOnce
each_cell_is_taken_once = taken_once
