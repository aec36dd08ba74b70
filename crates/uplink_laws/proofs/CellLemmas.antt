-- What the distributed unit reports of a plan.
use Rattle.std.proofs.Common.{◌≡◌, ℕ, ℤ, pos, ◌<◌, ◌+ℤ◌, ◌-ℤ◌, inl, inr, Bool, true, false, not, ◌&&◌, ◌==◌, if◌then◌else◌, List, [], ◌∷◌, map, Option, Some, refl, ap, sym, ◌∙◌, subst, true≢false, arith}
use Rattle.std.specs.Prelude.{filter}
use Rattle.std.proofs.lemmas.Bool.{cases_Bool, and_parts, and_from, eq-eqb}
use Rattle.fh_base.specs.Air.{air_of}
use Rattle.fh_base.specs.declared.values.Slot.{Slot}
use Rattle.air_source.specs.declared.events.AirCell.{AirCell}
use Rattle.air_source.specs.declared.events.Side.TheVariants.{Du}
use Rattle.window_config.specs.declared.config.Config.{Config}
use Rattle.window_config.specs.declared.endpoints.EndpointConfig.{EndpointConfig}
use Rattle.window_config.specs.declared.plan.PlanLine.{PlanLine}
use Rattle.unit_model.specs.Blocks.{block_at}
use Rattle.unit_model.specs.Claims.{cell_at, claim_at, claim_of, covers, in_mask, names}
use Rattle.unit_model.specs.Meetings.{Arrival}
use Rattle.unit_model.specs.Radiated.{cell_id, cell_report, first_clock, report_of, reported, samples_under, symbol_report, used_mask, wait_of}
use Rattle.unit_model.specs.Reports.{du_known, du_reported, timely_of}
use Rattle.unit_model.specs.declared.allocations.Allocation.{Allocation}
use Rattle.unit_model.specs.declared.cells.Block.{Block}
use Rattle.unit_model.specs.declared.cells.Cell.{Cell}
use Rattle.unit_laws.proofs.ReportLemmas.{report_same}
use Rattle.unit_model.proofs.SweepLemmas.{sweep-same}
use Rattle.plan_model.specs.Lines.{line_allocation, planned, uplink_allocations, is_up_line}
use Rattle.plan_model.specs.declared.lines.PlannedLine.{PlannedLine}
use Rattle.schedule_laws.specs.Cells.{planned_mask, planned_section, radiates}
use Rattle.schedule_laws.specs.Data.{Blocks, planned_block, radiates_in}
use Rattle.plan_model.proofs.AcceptedLemmas.{AreAllowed}
use Rattle.schedule_laws.proofs.BlockLemmas.{planned_one}
use Rattle.schedule_laws.proofs.CellLemmas.{all_under, has_element, id_is, line_claims, mask_is, one_section, own_samples, section_is}
use Rattle.plan_model.proofs.ScheduleClashLemmas.{IsClear, find_named, named_by, no_claim, own_claim, unnamed}
use Rattle.plan_model.proofs.LineLemmas.{allowed}
use Rattle.sent_frames.specs.Messages.{Source}
use Rattle.uplink_model.specs.Frames.{Antenna}
use Rattle.uplink_laws.specs.Cells.{taken_air, taken_cell, taken_event, taken_symbol, ThePlanIsTakenIn}
use Rattle.uplink_laws.specs.Data.{antenna_blocks}
use Rattle.uplink_laws.specs.Premise.{BothArrive}
use Rattle.uplink_laws.proofs.BlockLemmas.{decoded_once, is_up}
use Rattle.uplink_laws.proofs.JobLemmas.{of_uplink}
use Rattle.unit_model.proofs.ClaimLemmas.{covers_is}
use Rattle.fh_base.specs.Members.{IsIn}
use Rattle.fh_base.proofs.MemberLemmas.{among, in_filter}
use Rattle.fh_base.proofs.MadeLists.{in_map, of_map}
use Rattle.fh_base.proofs.CommonLemmas.{each_same}

module _ (c : Config) (lines : List PlanLine) (source : Source) (antenna : Antenna) (down up : List Arrival) (h : BothArrive c lines source antenna down up) where
  abbrev ps : List PlannedLine
  ps = planned c.endpoints lines

  abbrev ls : List Allocation
  ls = map line_allocation ps

  abbrev blocks : Blocks
  blocks = antenna_blocks c antenna

  -- ---- the claims on uplink cells are the uplink lines'

  all_allowed : AreAllowed ls
  all_allowed = allowed c lines h.sendable.config h.sendable.lines_fit h.sendable.valid

  into_all : (b : Allocation) → IsIn b (uplink_allocations ps) → IsIn b ls
  into_all b m = let p = of_uplink ps b m in subst (λ (a : Allocation). IsIn a ls) (sym p.3) (in_map line_allocation p.0 ps p.1)

  clear_uplink : IsClear (uplink_allocations ps)
  clear_uplink a b m n e = all_allowed.clear a b (into_all a m) (into_all b n) e

  names_uplink : (cell : Cell) (re : ℕ) (b : Allocation) → cell.down ≡ false → IsIn b ls → names b cell re ≡ true → IsIn b (uplink_allocations ps)
  names_uplink cell re b way m is =
      let p = of_map line_allocation b ps m in
      let cover = covers_is b cell (and_parts (covers b cell) (in_mask b.mask re) is).0 in
      let b_up : (line_allocation p.0).down ≡ false = ap (λ (a : Allocation). a.down) (sym p.2) ∙ cover.down ∙ way in
      subst (λ (a : Allocation). IsIn a (uplink_allocations ps)) (sym p.2) (in_map line_allocation p.0 (filter is_up_line ps) (in_filter is_up_line p.0 ps p.1 (is_up p.0.line.kind b_up)))

  up_claims : (cell : Cell) (re : ℕ) → cell.down ≡ false → re < 12 → claim_at (uplink_allocations ps) cell re ≡ claim_at ls cell re
  up_claims cell re way below = elim (find_named ls cell re) [
    | named_by b m is ↦ own_claim (uplink_allocations ps) b cell re clear_uplink below (names_uplink cell re b way m is) is ∙ sym (own_claim ls b cell re all_allowed.clear below m is)
    | unnamed none ↦ no_claim (uplink_allocations ps) cell re (λ b m. none b (into_all b m)) ∙ sym (no_claim ls cell re none)
  ]

  -- ---- one cell

  mask_same : (cell : Cell) → used_mask (claim_at ls cell) ≡ planned_mask ps cell
  mask_same cell = mask_is c lines h.sendable.config h.sendable.lines_fit h.sendable.valid cell

  abbrev plan_report : EndpointConfig → Cell → ℤ → List AirCell
  plan_report e cell start = report_of Du e cell start (claim_at ls cell) (planned_block blocks ps cell)

  taken : (e : EndpointConfig) (cell : Cell) (start : ℤ) (re : ℕ) → re < 12 → radiates ps cell re ≡ true → (planned_mask ps cell == 0) ≡ false
      → plan_report e cell start ≡ taken_event blocks ps e cell start ∷ []
  taken e cell start re below r some =
      let k = among (λ (q : PlannedLine). not (line_allocation q).idle && names (line_allocation q) cell re) ps r in
      let p = k.x in
      let parts = and_parts (not (line_allocation p).idle) (names (line_allocation p) cell re) k.is in
      let cover = and_parts (covers (line_allocation p) cell) (in_mask p.line.mask re) parts.1 in
      let in_cell : radiates_in p cell ≡ true = and_from _ _ parts.0 cover.0 in
      let section : planned_section ps cell ≡ p.line.section = section_is c lines h.sendable.config h.sendable.lines_fit h.sendable.valid ps cell p (λ q m. m) k.there in_cell in
      let ids : cell_id (claim_at ls cell) ≡ planned_section ps cell =
      id_is (claim_at ls cell) p.line.section 0 12 re (claim_of (line_allocation p)) (λ i small. all_under c lines h.sendable.config h.sendable.lines_fit h.sendable.valid cell p i k.there cover.0 (claim_at ls cell i) refl) (omega arith)
      (omega (arith, below)) (line_claims c lines h.sendable.config h.sendable.lines_fit h.sendable.valid cell re p below k.there parts.1) ∙ sym section in
      let same = λ (q : PlannedLine) (m : IsIn q ps) (is : radiates_in q cell ≡ true).
      one_section c lines h.sendable.config h.sendable.lines_fit h.sendable.valid cell p q k.there m cover.0 (and_parts (not (line_allocation q).idle) (covers (line_allocation q) cell) is).1 in
      let block : planned_block blocks ps cell ≡ Some (record { id = p.line.section; samples = blocks cell }) = planned_one blocks ps cell p.line.section p same k.there in_cell in
      let samples : samples_under (planned_section ps cell) (planned_block blocks ps cell) ≡ Some (blocks cell) =
      ap (λ (o : Option Block). samples_under (planned_section ps cell) o) block ∙ ap (λ i. samples_under i (Some (record { id = p.line.section; samples = blocks cell }))) section
      ∙ own_samples p.line.section (blocks cell) in
      let masks = mask_same cell in
      rw (masks, some, ids, samples) refl

  cell_is : (e : EndpointConfig) (cell : Cell) (start : ℤ) → plan_report e cell start ≡ (if planned_mask ps cell == 0 then [] else taken_event blocks ps e cell start ∷ [])
  cell_is e cell start = elim (cases_Bool (planned_mask ps cell == 0)) [
    | inl none ↦ (let masks = mask_same cell in rw (masks, none) refl)
    | inr some ↦ elim (has_element (radiates ps cell) 12) [
      | inl zero_mask ↦ absurd (true≢false (sym (eq-eqb (planned_mask ps cell) 0 zero_mask) ∙ some))
      | inr k ↦ taken e cell start k.0 k.1 k.2 some ∙ sym (ap (λ (b : Bool). let xs : List AirCell = if b then [] else taken_event blocks ps e cell start ∷ [] in xs) some)
    ]
  ]

  -- ---- all of them

  symbol_is : (ep : ℕ) (e : EndpointConfig) (slot : Slot) (symbol : ℕ) → symbol_report Du (du_known c (uplink_allocations ps) up) ep e slot symbol ≡ taken_symbol blocks ps ep e slot symbol
  unfolding symbol_report
  symbol_is ep e slot symbol =
      each_same 0 e.prbs (cell_report Du (du_known c (uplink_allocations ps) up) ep e slot symbol) (taken_cell blocks ps ep e slot symbol) (λ prb above below.
      (let cell = cell_at ep false slot symbol prb in
      let block = (decoded_once c lines source antenna down up h).blocks_are cell refl in
      report_same Du e cell (air_of e.numerology slot symbol) (claim_at (uplink_allocations ps) cell) (claim_at ls cell) (block_at (timely_of Du c up) cell) (planned_block blocks ps cell) (λ re few. up_claims cell re refl few) block
      ∙ cell_is e cell (air_of e.numerology slot symbol)))

  pub plan_taken_in : (to : ℤ) → du_reported c (uplink_allocations (planned c.endpoints lines)) up to ≡ taken_air c (antenna_blocks c antenna) (planned c.endpoints lines) to
  unfolding reported
  plan_taken_in to =
      sweep-same (symbol_report Du (du_known c (uplink_allocations ps) up)) (taken_symbol blocks ps) c.endpoints (first_clock -ℤ wait_of Du c.delays) ((to -ℤ wait_of Du c.delays) +ℤ pos 1)
      (λ ep e slot symbol tick low high swept. symbol_is ep e slot symbol)

pub the_plan_is_taken_in : ThePlanIsTakenIn
the_plan_is_taken_in = plan_taken_in
