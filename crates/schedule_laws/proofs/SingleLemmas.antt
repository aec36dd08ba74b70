-- Each planned cell radiates exactly once.
use Rattle.std.proofs.Common.{◌≡◌, ℕ, zero, suc, ℤ, pos, ◌+◌, ◌*◌, ◌<◌, ◌≤◌, ◌+ℤ◌, ◌≤ℤ◌, inl, inr, Bool, true, false, not, ◌&&◌, ◌==◌, if◌then◌else◌, List, [], ◌∷◌, refl, ap, sym, ◌∙◌, subst, arith}
use Rattle.std.specs.Prelude.{All, filter}
use Rattle.std.proofs.lemmas.Bool.{cases_Bool, cases_eq, and_parts, and_from, eqb-true}
use Rattle.std.proofs.lemmas.Int.{ints}
use Rattle.std.proofs.lemmas.List.Elements.{All-head, All-tail}
use Rattle.fh_base.specs.Air.{air_of}
use Rattle.fh_base.specs.Numbering.{symbols_of}
use Rattle.air_source.specs.declared.events.AirCell.{AirCell}
use Rattle.air_source.specs.declared.events.Side.TheVariants.{Ru}
use Rattle.window_config.specs.declared.config.Config.{Config}
use Rattle.window_config.specs.declared.plan.PlanLine.{PlanLine}
use Rattle.unit_model.specs.Claims.{cell_at, cell_of, covers, in_mask, names}
use Rattle.unit_model.specs.Meetings.{Arrival}
use Rattle.unit_model.specs.Radiated.{first_clock}
use Rattle.unit_model.specs.Reports.{ru_known, ru_reported}
use Rattle.unit_model.specs.Standing.{same_cell}
use Rattle.unit_model.specs.declared.cells.Cell.{Cell}
use Rattle.unit_model.proofs.ReachLaws.{symbol_piece}
use Rattle.unit_laws.specs.Due.{AreDifferent}
use Rattle.unit_laws.proofs.DifferLemmas.{IsOther, other_swap, same_self}
use Rattle.unit_laws.proofs.DueLemmas.{reported_differ}
use Rattle.plan_model.specs.Lines.{line_allocation, planned}
use Rattle.plan_model.specs.declared.lines.PlannedLine.{PlannedLine}
use Rattle.schedule_laws.specs.Cells.{mask_below, planned_air, planned_cell, planned_event, planned_mask, planned_symbol, radiates}
use Rattle.schedule_laws.specs.Data.{AreWritten, Blocks}
use Rattle.schedule_laws.specs.Premise.{AllArrive, Texts}
use Rattle.schedule_laws.specs.Singles.{event_of, EachCellRadiatesOnce}
use Rattle.schedule_laws.proofs.CellLemmas.{plan_radiates}
use Rattle.plan_model.proofs.LineLemmas.{good, start_in_time}
use Rattle.plan_model.proofs.SweptLists.{in_piece, numerology_short}
use Rattle.fh_base.specs.declared.frames.TheConstants.{FRAME}
use Rattle.unit_model.proofs.ClaimLemmas.{within_carrier, from_within, covers_is}
use Rattle.fh_base.proofs.Orders.{within_next as by_then}
use Rattle.fh_base.specs.Members.{IsIn}
use Rattle.fh_base.proofs.MemberLemmas.{any_in}
use Rattle.fh_base.proofs.MadeLists.{in_each}

-- ---- one of a list in which all differ

none_same : (y : AirCell) (xs : List AirCell) → All (IsOther y) xs → filter (same_cell y) xs ≡ []
none_same y [] h = refl
none_same y (x ∷ xs) h = rw (All-head (IsOther y) x xs h) (none_same y xs (All-tail (IsOther y) x xs h))

other_at : (x y : AirCell) (xs : List AirCell) → All (IsOther x) xs → IsIn y xs → IsOther x y
other_at x y [] h m = absurd m
other_at x y (z ∷ xs) h (inl e) = subst (IsOther x) (sym e) (All-head (IsOther x) z xs h)
other_at x y (z ∷ xs) h (inr t) = other_at x y xs (All-tail (IsOther x) z xs h) t

pub only_one : (y : AirCell) (xs : List AirCell) → AreDifferent xs → IsIn y xs → filter (same_cell y) xs ≡ y ∷ []
only_one y [] d m = absurd m
only_one y (x ∷ xs) d (inl e) =
    let own : same_cell y x ≡ true = subst (λ (z : AirCell). same_cell y z ≡ true) e (same_self y) in
    let rest : filter (same_cell y) xs ≡ [] = none_same y xs (subst (λ (z : AirCell). All (IsOther z) xs) (sym e) d.0) in
    rw own (ap (λ (zs : List AirCell). x ∷ zs) rest ∙ ap (λ (z : AirCell). z ∷ []) (sym e))
only_one y (x ∷ xs) d (inr t) =
    let other : same_cell y x ≡ false = other_swap x y (other_at x y xs d.0 t) in
    rw other (only_one y xs d.1 t)

-- ---- a cell's event is there

pub mask_some : (test : ℕ → Bool) (n re : ℕ) → re < n → test re ≡ true → mask_below test n ≡ 0 → ⊥
unfolding mask_below
mask_some test zero re h is e = absurd (omega arith)
mask_some test (suc n) re h is e = elim (cases_eq re n) [
  | inl here ↦ odd (mask_below test n) (test n) (ap test (sym here) ∙ is) e
  | inr ne ↦ mask_some test n re (omega (arith, ne)) is (half (mask_below test n) _ e)
]
  where
    odd : (m : ℕ) (b : Bool) → b ≡ true → 2 * m + (let k : ℕ = if b then 1 else 0 in k) ≡ 0 → ⊥
    odd m true h e = omega (arith, e)
    odd m false h e = cc

    half : (m k : ℕ) → 2 * m + k ≡ 0 → m ≡ 0
    half m k e = omega (arith, e)

after_clock : (s : ℤ) → FRAME ≤ℤ s → first_clock ≤ℤ s
after_clock s h = omega (arith, ints, h)

module _ (c : Config) (lines : List PlanLine) (text : Texts) (blocks : Blocks) (arrivals : List Arrival) (h : AllArrive c lines text arrivals) (w : AreWritten c (planned c.endpoints lines) text blocks) where
  abbrev ps : List PlannedLine
  ps = planned c.endpoints lines

  pub radiates_once : (p : PlannedLine) (symbol prb re : ℕ) (to : ℤ) → IsIn p (planned c.endpoints lines) → (line_allocation p).down ≡ true → (line_allocation p).idle ≡ false → re < 12
      → names (line_allocation p) (cell_of (line_allocation p) symbol prb) re ≡ true → air_of p.endpoint.numerology p.line.slot symbol ≤ℤ to
      → filter (same_cell (event_of blocks (planned c.endpoints lines) p symbol prb)) (ru_reported c arrivals to) ≡ event_of blocks (planned c.endpoints lines) p symbol prb ∷ []
  radiates_once p symbol prb re to m down idle below named soon =
      let a = line_allocation p in
      let cell = cell_of a symbol prb in
      let parts = and_parts (covers a cell) (in_mask a.mask re) named in
      let cover = covers_is a cell parts.0 in
      let g = good c lines h.config h.lines_fit h.valid p m in
      let e = p.endpoint in
      let s = air_of e.numerology p.line.slot symbol in
      let symbol_below = under symbol (p.line.symbol + p.line.count) (symbols_of e.numerology) (from_within p.line.symbol p.line.count symbol cover.symbol) g.within in
      let prb_below = within_carrier e.prbs p.line.start_prb p.line.num_prb prb g.prbs cover.prb in
      let time = start_in_time c.endpoints p symbol g symbol_below in
      let event = event_of blocks ps p symbol prb in
      let it : radiates ps cell re ≡ true = any_in (λ (q : PlannedLine). not (line_allocation q).idle && names (line_allocation q) cell re) p ps m (and_from _ _ (ap not idle) named) in
      let same_way_cell : cell_at p.ep true p.line.slot symbol prb ≡ cell = ap (λ (b : Bool). cell_at p.ep b p.line.slot symbol prb) (sym down) in
      let some : (planned_mask ps cell == 0) ≡ false = elim (cases_Bool (planned_mask ps cell == 0)) [
        | inl none ↦ absurd (mask_some (radiates ps cell) 12 re below it (eqb-true (planned_mask ps cell) 0 none))
        | inr is ↦ is
      ] in
      let told : planned_cell blocks ps p.ep e p.line.slot symbol prb ≡ event ∷ [] =
      ap (λ (x : Cell). let xs : List AirCell = if planned_mask ps x == 0 then [] else planned_event blocks ps e x s ∷ [] in xs) same_way_cell
      ∙ ap (λ (b : Bool). let xs : List AirCell = if b then [] else planned_event blocks ps e cell s ∷ [] in xs) some in
      let in_symbol : IsIn event (planned_symbol blocks ps p.ep e p.line.slot symbol) =
      in_each event 0 e.prbs prb (planned_cell blocks ps p.ep e p.line.slot symbol) (omega arith) (omega (arith, prb_below)) (subst (λ (xs : List AirCell). IsIn event xs) (sym told) (inl refl)) in
      let piece = symbol_piece (planned_symbol blocks ps) c.endpoints p.ep e p.line.slot symbol first_clock (to +ℤ pos 1) g.at (numerology_short e.numerology)
      (record { subframe = g.fits.subframe; slot = g.slot }) symbol_below (after_clock s time.0) (by_then s to soon) in
      let there : IsIn event (planned_air c blocks ps to) =
      in_piece event (planned_symbol blocks ps p.ep e p.line.slot symbol) (planned_air c blocks ps to) piece in_symbol in
      let reported_there : IsIn event (ru_reported c arrivals to) = subst (λ (xs : List AirCell). IsIn event xs) (sym (plan_radiates c lines text blocks arrivals h w to)) there in
      only_one event (ru_reported c arrivals to) (reported_differ Ru c.delays c.endpoints (ru_known c arrivals) to h.config.endpoints.differ) reported_there
    where
      under : (s m n : ℕ) → s < m → m ≤ n → s < n
      under s m n k l = omega (arith, k, l)

pub each_cell_radiates_once : EachCellRadiatesOnce
each_cell_radiates_once = radiates_once
