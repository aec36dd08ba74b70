-- Where nothing disturbs a document, nothing is missing and nothing is silent.
use Rattle.std.proofs.Common.{◌≡◌, ℕ, zero, suc, ℤ, pos, ◌+◌, ◌<◌, ◌≤◌, ◌+ℤ◌, ◌-ℤ◌, Bool, true, false, List, [], ◌∷◌, ◌++◌, refl, sym, ap, ap₂, ◌∙◌, subst, inl, inr, arith}
use Rattle.std.specs.Prelude.{All, filter, map, if◌then◌else◌, not, ◌&&◌, ◌==◌, slice_index}
use Rattle.std.specs.List.{flat_map}
use Rattle.std.proofs.lemmas.Bool.{and_from, eq-eqb}
use Rattle.std.proofs.lemmas.Grind.{flat_map-append}
use Rattle.fh_base.specs.Air.{air_of}
use Rattle.air_source.specs.Units.{same_side}
use Rattle.air_source.specs.declared.events.AirCell.{AirCell}
use Rattle.air_source.specs.declared.events.Side.{Side}
use Rattle.air_source.specs.declared.events.Side.TheVariants.{Ru, Du}
use Rattle.fh_document.specs.declared.document.Document.{Document}
use Rattle.window_config.specs.declared.config.Config.{Config}
use Rattle.window_config.specs.declared.plan.PlanKind.{PlanKind}
use Rattle.window_config.specs.declared.plan.PlanKind.TheVariants as kind
use Rattle.unit_model.specs.Claims.{cell_at, cell_of, covers, first_prb, in_mask, is_from, names, prb_count, same_slot}
use Rattle.fh_base.specs.Lists.{each}
use Rattle.unit_model.specs.Radiated.{first_clock, wait_of}
use Rattle.unit_model.specs.Standing.{same_cell}
use Rattle.unit_model.specs.declared.cells.Cell.{Cell}
use Rattle.unit_model.proofs.ClaimLemmas.{is_in, slot_self, way_self}
use Rattle.unit_laws.proofs.DifferLemmas.{all_kept}
use Rattle.unit_laws.proofs.DueLemmas.{one_or_none}
use Rattle.unit_model.proofs.SweepLemmas.{each_related, sweep_related}
use Rattle.plan_model.specs.Lines.{is_down_kind, is_idle_kind, line_allocation}
use Rattle.plan_model.specs.declared.lines.PlannedLine.{PlannedLine}
use Rattle.schedule_laws.specs.Cells.{planned_air, planned_cell, planned_event, planned_mask, planned_symbol, radiates}
use Rattle.schedule_laws.specs.Data.{Blocks}
use Rattle.schedule_laws.specs.Singles.{event_of}
use Rattle.uplink_laws.specs.Cells.{taken_air, taken_cell, taken_event, taken_symbol}
use Rattle.replay_laws.specs.Events.{events}
use Rattle.unit_model.specs.Heard.{cells_heard}
use Rattle.replay_laws.specs.Traffic.{Traffic}
use Rattle.document_traffic.specs.Sending.{lines_of}
use Rattle.document_traffic.specs.Undisturbed.{IsTakenInOnce, RadiatesOnce, answers_for, blocks_for, told_for}
use Rattle.replay_laws.specs.Moments.{end_of_time}
use Rattle.explain_model.specs.declared.sections.CommandRecord.{CommandRecord}
use Rattle.explain_model.specs.Pieces.{pieces}
use Rattle.explain_model.specs.Missing.{missing_cell, missing_cells, missing_lines}
use Rattle.explain_model.specs.SilentReasons.{kept}
use Rattle.explain_model.specs.Seen.{Seen, is_at, is_heard, seen, seen_of}
use Rattle.explain_model.specs.Silent.{SilentPrb, SilentSymbol, is_dl, is_silent, silent_lines_of, silent_mask, silent_of, silent_of_line, silent_prb, silent_prbs, silent_symbol, silent_symbol_lines, silent_symbols, silent_with}
use Rattle.explain_laws.specs.Undisturbed.{UndisturbedHasNoWhy}
use Rattle.explain_laws.proofs.MaskLemmas.{mask_is, no_bits}
use Rattle.explain_laws.proofs.SeenLemmas.{IsShown, heard_is_seen, none_missing}
use Rattle.fh_base.specs.Members.{IsIn}
use Rattle.fh_base.proofs.MemberLemmas.{any_in}

-- ---- no cell of the plan is missing

module _ (c : Config) (blocks : Blocks) (ps : List PlannedLine) (to : ℤ) where
  planned_shown : All IsShown (planned_air c blocks ps to)
  planned_shown =
      sweep_related (λ xs ys. All IsShown xs) (all_kept IsShown) (planned_symbol blocks ps) (planned_symbol blocks ps) c.endpoints first_clock (to +ℤ pos 1) (λ ep e slot symbol s low high swept.
      each_related (λ xs ys. All IsShown xs) (all_kept IsShown) 0 e.prbs (planned_cell blocks ps ep e slot symbol) (planned_cell blocks ps ep e slot symbol) (λ prb above below.
      let cell = cell_at ep true slot symbol prb in
      one_or_none IsShown (planned_mask ps cell == 0) (planned_event blocks ps e cell (air_of e.numerology slot symbol)) refl))

  taken_shown : All IsShown (taken_air c blocks ps to)
  taken_shown =
      sweep_related (λ xs ys. All IsShown xs) (all_kept IsShown) (taken_symbol blocks ps) (taken_symbol blocks ps) c.endpoints (first_clock -ℤ wait_of Du c.delays) ((to -ℤ wait_of Du c.delays) +ℤ pos 1) (λ ep e slot symbol s low high swept.
      each_related (λ xs ys. All IsShown xs) (all_kept IsShown) 0 e.prbs (taken_cell blocks ps ep e slot symbol) (taken_cell blocks ps ep e slot symbol) (λ prb above below.
      let cell = cell_at ep false slot symbol prb in
      one_or_none IsShown (planned_mask ps cell == 0) (taken_event blocks ps e cell (air_of e.numerology slot symbol)) refl))

module _ (d : Document) (t : Traffic) where
  both_shown : RadiatesOnce d t → IsTakenInOnce d t → (side : Side) → All IsShown (cells_heard side (events d.config t))
  both_shown once taken Ru = subst (λ xs. All IsShown xs) (sym once.cells) (planned_shown d.config (blocks_for d) (lines_of d) end_of_time)
  both_shown once taken Du = subst (λ xs. All IsShown xs) (sym taken.cells) (taken_shown d.config (answers_for d) (lines_of d) end_of_time)

  none_why : RadiatesOnce d t → IsTakenInOnce d t → missing_lines (missing_cells d.config (kept d.config (events d.config t)) (seen (events d.config t))) ≡ []
  unfolding missing_lines missing_cells pieces
  none_why once taken =
      ap (λ xs. missing_lines (map (missing_cell d.config (kept d.config (events d.config t))) xs)) (none_missing (events d.config t) (both_shown once taken))

-- ---- no element of the plan is silent

in_step : (p : AirCell → Bool) (y x : AirCell) (xs : List AirCell) (b : Bool) → (IsIn y (filter p xs) → IsIn y xs) → IsIn y (if b then x ∷ filter p xs else filter p xs) → IsIn y (x ∷ xs)
in_step p y x xs true more (inl here) = inl here
in_step p y x xs true more (inr later) = inr (more later)
in_step p y x xs false more later = inr (more later)

in_filter : (p : AirCell → Bool) (y : AirCell) (xs : List AirCell) → IsIn y (filter p xs) → IsIn y xs
in_filter p y [] m = m
in_filter p y (x ∷ xs) m = in_step p y x xs (p x) (in_filter p y xs) m

module _ (d : Document) (t : Traffic) (once : RadiatesOnce d t) where
  abbrev cells : List Seen
  cells = seen (events d.config t)

  abbrev ps : List PlannedLine
  ps = lines_of d

  -- of one line, symbol and PRB
  module _ (p : PlannedLine) (there : IsIn p (lines_of d)) (down : (line_allocation p).down ≡ true) (busy : (line_allocation p).idle ≡ false) (y n : ℕ)
      (symbol_is : is_from p.line.symbol p.line.count y ≡ true) (prb_is : is_from (first_prb (line_allocation p)) (prb_count (line_allocation p)) n ≡ true) where
    abbrev cell : Cell
    cell = cell_of (line_allocation p) y n

    abbrev it : AirCell
    it = event_of (blocks_for d) ps p y n

    covered : covers (line_allocation p) cell ≡ true
    covered =
        and_from (p.ep == p.ep) _ (eq-eqb p.ep p.ep refl)
        (and_from _ _ (way_self (line_allocation p).down)
        (and_from (same_slot p.line.slot p.line.slot) _ (slot_self p.line.slot) (and_from _ _ symbol_is prb_is)))

    named : (re : ℕ) → in_mask p.line.mask re ≡ true → names (line_allocation p) cell re ≡ true
    named re h = and_from (covers (line_allocation p) cell) (in_mask p.line.mask re) covered h

    told : (re : ℕ) → re < 12 → in_mask p.line.mask re ≡ true → IsIn it (told_for Ru d t)
    told re small h =
        in_filter (same_cell it) it (told_for Ru d t)
        (subst (λ xs. IsIn it xs) (sym (once.once p y n re there down busy small (named re h))) (inl refl))

    in_use : (re : ℕ) → re < 12 → in_mask p.line.mask re ≡ true → in_mask it.mask re ≡ true
    in_use re small h =
        mask_is (radiates ps cell) re small
        ∙ any_in (λ (q : PlannedLine). not (line_allocation q).idle && names (line_allocation q) cell re) p ps there (and_from _ _ (ap not busy) (named re h))

    own_place : is_at Ru p.endpoint.id p.line.slot y n (seen_of it) ≡ true
    own_place =
        and_from (same_side Ru Ru) _ refl
        (and_from (p.endpoint.id == p.endpoint.id) _ (eq-eqb p.endpoint.id p.endpoint.id refl)
        (and_from (same_slot p.line.slot p.line.slot) _ (slot_self p.line.slot) (and_from (y == y) (n == n) (eq-eqb y y refl) (eq-eqb n n refl))))

    heard : (re : ℕ) → re < 12 → in_mask p.line.mask re ≡ true → is_heard cells Ru p.endpoint.id p.line.slot y n re ≡ true
    unfolding is_heard
    heard re small h =
        heard_is_seen (λ s. is_at Ru p.endpoint.id p.line.slot y n s && in_mask s.mask re) it
        (and_from (is_at Ru p.endpoint.id p.line.slot y n (seen_of it)) (in_mask it.mask re) own_place (in_use re small h)) Ru (events d.config t) (told re small h)

    not_silent : (re : ℕ) (b : Bool) → in_mask p.line.mask re ≡ b → re < 12 → (b && not (is_heard cells Ru p.endpoint.id p.line.slot y n re)) ≡ false
    not_silent re true is small = ap not (heard re small is)
    not_silent re false is small = refl

    none_silent : silent_mask cells p y n ≡ 0
    unfolding silent_mask
    none_silent = no_bits (is_silent cells p y n) 12 (λ re small. not_silent re (in_mask p.line.mask re) refl small)

    prb_none : (commands : List CommandRecord) → silent_prb commands cells p y n ≡ []
    prb_none commands = ap (silent_with commands p y n) none_silent

  -- of a line
  module _ (commands : List CommandRecord) (number : ℕ) (p : PlannedLine) (there : IsIn p (lines_of d)) (down : (line_allocation p).down ≡ true) (busy : (line_allocation p).idle ≡ false) where
    none_each : (from count : ℕ) (f : ℕ → List SilentPrb) → ((n : ℕ) → from ≤ n → n < from + count → f n ≡ []) → each from count f ≡ []
    unfolding each
    none_each from zero f none = refl
    none_each from (suc count) f none =
        ap₂ ◌++◌ (none from (omega arith) (omega arith)) (none_each (from + 1) count f (λ n low high. none n (omega arith) (omega arith)))

    symbol_none : (y : ℕ) → is_from p.line.symbol p.line.count y ≡ true → silent_prbs commands cells p y ≡ []
    unfolding silent_prbs
    symbol_none y h =
        none_each (first_prb (line_allocation p)) (prb_count (line_allocation p)) (silent_prb commands cells p y) (λ n low high.
        prb_none p there down busy y n h (is_in (first_prb (line_allocation p)) (prb_count (line_allocation p)) n low high) commands)

    symbol_quiet : (y : ℕ) → is_from p.line.symbol p.line.count y ≡ true → silent_symbol_lines (silent_symbol commands cells number p y) ≡ []
    unfolding silent_symbol_lines pieces
    symbol_quiet y h =
        ap (λ (xs : List SilentPrb). let s : SilentSymbol = record { planned = p; number = number; symbol = y; prbs = xs } in silent_symbol_lines s) (symbol_none y h)

    symbols_quiet : (from count : ℕ) → p.line.symbol ≤ from → from + count ≤ p.line.symbol + p.line.count
        → flat_map silent_symbol_lines (each from count (λ y. silent_symbol commands cells number p y ∷ [])) ≡ []
    unfolding each
    symbols_quiet from zero low high = refl
    symbols_quiet from (suc count) low high =
        ap₂ ◌++◌ (symbol_quiet from (is_in p.line.symbol p.line.count from low (omega arith))) (symbols_quiet (from + 1) count (omega arith) (omega arith))

    line_quiet : flat_map silent_symbol_lines (silent_of_line commands cells number p) ≡ []
    unfolding silent_of_line
    line_quiet = symbols_quiet p.line.symbol p.line.count (omega arith) (omega arith)

  -- of all lines
  module _ (commands : List CommandRecord) (numbers : List ℕ) where
    by_kind : (p : PlannedLine) → IsIn p (lines_of d) → (k : PlanKind) → p.line.kind ≡ k
        → flat_map silent_symbol_lines (if is_dl k then silent_of_line commands cells (slice_index numbers p.index) p else []) ≡ []
    by_kind p there kind.Down is = line_quiet commands (slice_index numbers p.index) p there (ap is_down_kind is) (ap is_idle_kind is)
    by_kind p there kind.Up is = refl
    by_kind p there kind.Idle is = refl

    lines_quiet : (qs : List PlannedLine) → ((p : PlannedLine) → IsIn p qs → IsIn p (lines_of d)) → flat_map silent_symbol_lines (flat_map (silent_of commands cells numbers) qs) ≡ []
    lines_quiet [] sub = refl
    lines_quiet (p ∷ qs) sub =
        flat_map-append silent_symbol_lines (silent_of commands cells numbers p) (flat_map (silent_of commands cells numbers) qs)
        ∙ ap₂ ◌++◌ (by_kind p (sub p (inl refl)) p.line.kind refl) (lines_quiet qs (λ q m. sub q (inr m)))

    all_quiet : silent_lines_of (silent_symbols commands cells numbers (lines_of d)) ≡ []
    unfolding silent_lines_of silent_symbols
    all_quiet = lines_quiet (lines_of d) (λ p m. m)

pub has_no_why : UndisturbedHasNoWhy
has_no_why d t = record {
  silent = λ once numbers. all_quiet d t once (kept d.config (events d.config t)).commanded numbers;
  missing = none_why d t;
}
