-- The lines that say why elements of a plan are silent.
use Rattle.std.proofs.Common.{◌≡◌, ℕ, ℤ, pos, neg_ℤ, ◌+◌, ◌<◌, ◌==◌, ◌+ℤ◌, ◌*ℤ◌, ◌≤ℤ◌, ◌<ℤ◌, true, ◌&&◌, List, [], ◌∷◌, length, refl, sym, arith}
use Rattle.std.specs.Prelude.{slice_index}
use Rattle.std.specs.List.{AllByRecursion}
use Rattle.std.proofs.lemmas.Bool.{and_parts, eqb-true}
use Rattle.std.proofs.lemmas.Int.{ints}
use Rattle.air_source.specs.declared.events.Event.{Event}
use Rattle.fh_base.specs.Air.{air_of}
use Rattle.fh_base.specs.Numbering.{symbols_of}
use Rattle.fh_base.specs.declared.frames.TheConstants.{FRAME}
use Rattle.window_config.specs.declared.config.Config.{Config}
use Rattle.window_config.specs.declared.endpoints.EndpointConfig.{EndpointConfig}
use Rattle.window_config.specs.declared.plan.PlanLine.{PlanLine}
use Rattle.window_config.specs.declared.plan.TheConstants.{LAST_FRAME}
use Rattle.unit_model.specs.Claims.{first_prb, prb_count}
use Rattle.unit_model.specs.Proper.{IsSlot}
use Rattle.unit_model.proofs.ReachLaws.{symbol_soon}
use Rattle.plan_model.specs.Lines.{line_allocation, planned}
use Rattle.plan_model.specs.declared.lines.PlannedLine.{PlannedLine}
use Rattle.drawn_laws.specs.Drawable.{IsNear, IsShort}
use Rattle.explain_model.specs.declared.values.ExplainLine.TheVariants as line
use Rattle.explain_model.specs.Pieces.{AreLinked}
use Rattle.explain_model.specs.declared.sections.CommandRecord.{CommandRecord}
use Rattle.explain_model.specs.SilentReasons.{kept}
use Rattle.explain_model.specs.Same.{same_reason}
use Rattle.explain_model.specs.Seen.{Seen, seen}
use Rattle.explain_model.specs.Silent.{SilentPrb, SilentSymbol, goes_on_silent, is_dl, line_elements, silent_in, silent_line, silent_lines, silent_lines_of, silent_mask, silent_of, silent_of_line, silent_prb, silent_prbs, silent_run, silent_symbol, silent_symbol_lines, silent_symbols}
use Rattle.drawn_laws.specs.Events.{IsPlacedLine}
use Rattle.drawn_laws.proofs.Good.{AreGood, good_flat, good_none, good_one, good_pieces}
use Rattle.drawn_laws.proofs.Lists.{all_chosen, all_each, all_flat, index_all}
use Rattle.drawn_laws.proofs.Near.{numerology_short}
use Rattle.drawn_laws.proofs.Places.{piece_within, run_drawn}
use Rattle.drawn_laws.proofs.Reasons.{IsSilentReason, command_drawn}
use Rattle.drawn_laws.proofs.Records.{AreShort, IsShortCommand}
use Rattle.fh_base.proofs.CommonLemmas.{within_carrier as prbs_within}

-- ---- the slot of a line

slot_by : (f : ℤ) → pos 1 ≤ℤ f → f ≤ℤ pos LAST_FRAME → (neg_ℤ (pos 1000000) ≤ℤ f) × (f ≤ℤ pos 1000000)
slot_by f low high = (omega (arith, ints, low), omega (arith, ints, high))

line_slot : (es : List EndpointConfig) (p : PlannedLine) → IsPlacedLine es p → IsSlot p.endpoint.numerology p.line.slot
line_slot es p is =
    let frame = slot_by p.line.slot.frame is.fits.frame_low is.fits.frame_high in
    record { low = frame.0; high = frame.1; subframe = is.fits.subframe; slot_is = is.slot }

start_by : (f s : ℤ) → pos 1 ≤ℤ f → f ≤ℤ pos LAST_FRAME → (f *ℤ FRAME) ≤ℤ s → s <ℤ (f *ℤ FRAME +ℤ pos 76800000000) → IsNear s
start_by f s a b low high = record { low = omega (arith, ints, a, low); high = omega (arith, ints, b, high) }

line_start : (es : List EndpointConfig) (p : PlannedLine) (symbol : ℕ) → IsPlacedLine es p → symbol < symbols_of p.endpoint.numerology
    → IsNear (air_of p.endpoint.numerology p.line.slot symbol)
line_start es p symbol is h =
    let soon = symbol_soon p.endpoint.numerology p.line.slot symbol (numerology_short p.endpoint.numerology) (record { subframe = is.fits.subframe; slot = is.slot }) h in
    start_by p.line.slot.frame (air_of p.endpoint.numerology p.line.slot symbol) is.fits.frame_low is.fits.frame_high soon.0 soon.1

-- ---- a symbol of a line

pub record IsFinePrb (p : PlannedLine) (x : SilentPrb) : Type 0 where
  pub prb : x.prb < p.endpoint.prbs
  pub reason : IsSilentReason x.reason

pub record IsFineSymbol (es : List EndpointConfig) (s : SilentSymbol) : Type 0 where
  pub placed : IsPlacedLine es s.planned
  pub number : IsShort s.number
  pub symbol : s.symbol < symbols_of s.planned.endpoint.numerology
  pub prbs : AllByRecursion (IsFinePrb s.planned) s.prbs

module _ (p : PlannedLine) where
  abbrev silent_place : SilentPrb → ℕ
  silent_place x = x.prb

  abbrev silent_limit : SilentPrb → ℕ
  silent_limit x = p.endpoint.prbs

  next_silent : (x y : SilentPrb) → goes_on_silent x y ≡ true → (silent_place y ≡ silent_place x + 1) × (silent_limit y ≡ silent_limit x)
  next_silent x y h =
      let one = and_parts (x.mask == y.mask) (same_reason x.reason y.reason && (x.prb + 1 == y.prb)) h in
      let two = and_parts (same_reason x.reason y.reason) (x.prb + 1 == y.prb) one.1 in
      (sym (eqb-true (x.prb + 1) y.prb two.1), refl)

  below : (xs : List SilentPrb) → AllByRecursion (IsFinePrb p) xs → AllByRecursion (λ x. silent_place x < silent_limit x) xs
  below [] h = tt
  below (x ∷ xs) h = (h.0.prb, below xs h.1)

module _ (es : List EndpointConfig) where
  piece_good : (s : SilentSymbol) → IsFineSymbol es s → (q : List SilentPrb) → AreLinked goes_on_silent q → AllByRecursion (IsFinePrb s.planned) q → AreGood es (silent_line s q)
  piece_good s fine [] linked h = good_none es
  piece_good s fine (x ∷ rest) linked h =
      let p = s.planned in
      let within = piece_within goes_on_silent (silent_place p) (silent_limit p) (next_silent p) x rest linked (below p (x ∷ rest) h) in
      let run = silent_run s x.prb (length (x ∷ rest)) in
      good_one es (line.WhySilent run x.mask s.number x.reason) (
        run_drawn es run p.ep p.endpoint fine.placed.named (line_start es p s.symbol fine.placed fine.symbol) (line_slot es p fine.placed) fine.symbol fine.placed.fits.section (omega arith) within,
        fine.number,
        h.0.reason.drawn,
        h.0.reason.silent,
      ) (λ last. refl)

  symbol_good : (s : SilentSymbol) → IsFineSymbol es s → AreGood es (silent_symbol_lines s)
  unfolding silent_symbol_lines
  symbol_good s fine = good_pieces es goes_on_silent (IsFinePrb s.planned) (silent_line s) (piece_good s fine) s.prbs fine.prbs

  symbols_good : (ss : List SilentSymbol) → AllByRecursion (IsFineSymbol es) ss → AreGood es (silent_lines_of ss)
  unfolding silent_lines_of
  symbols_good ss h = good_flat es (IsFineSymbol es) silent_symbol_lines symbol_good ss h

  -- ---- the symbols of lines

  module _ (commands : List CommandRecord) (short : AllByRecursion IsShortCommand commands) (cells : List Seen) where
    prb_fine : (p : PlannedLine) (symbol n : ℕ) → n < p.endpoint.prbs → AllByRecursion (IsFinePrb p) (silent_prb commands cells p symbol n)
    prb_fine p symbol n h =
        let mask = silent_mask cells p symbol n in
        all_chosen (IsFinePrb p) (mask == 0) [] _ tt (record { prb = h; reason = command_drawn commands (line_elements p symbol n mask) short }, tt)

    prbs_fine : (p : PlannedLine) (symbol : ℕ) → IsPlacedLine es p → AllByRecursion (IsFinePrb p) (silent_prbs commands cells p symbol)
    unfolding silent_prbs
    prbs_fine p symbol is =
        let inside = prbs_within p.endpoint.prbs p.line.start_prb p.line.num_prb is.prbs in
        all_each (IsFinePrb p) (first_prb (line_allocation p)) (prb_count (line_allocation p)) (silent_prb commands cells p symbol)
        (λ n low high. prb_fine p symbol n (omega (arith, inside, high)))

    line_fine : (number : ℕ) (p : PlannedLine) → IsShort number → IsPlacedLine es p → AllByRecursion (IsFineSymbol es) (silent_of_line commands cells number p)
    unfolding silent_of_line
    line_fine number p small is =
        let within = is.within in
        all_each (IsFineSymbol es) p.line.symbol p.line.count (λ y. silent_symbol commands cells number p y ∷ [])
        (λ y low high. (record { placed = is; number = small; symbol = omega (arith, within, high); prbs = prbs_fine p y is }, tt))

    of_fine : (numbers : List ℕ) → AllByRecursion IsShort numbers → (p : PlannedLine) → IsPlacedLine es p → AllByRecursion (IsFineSymbol es) (silent_of commands cells numbers p)
    of_fine numbers small p is =
        all_chosen (IsFineSymbol es) (is_dl p.line.kind) (silent_of_line commands cells (slice_index numbers p.index) p) []
        (line_fine (slice_index numbers p.index) p (index_all IsShort (omega arith) numbers p.index small) is) tt

    lines_fine : (numbers : List ℕ) (ps : List PlannedLine) → AllByRecursion IsShort numbers → AllByRecursion (IsPlacedLine es) ps
        → AllByRecursion (IsFineSymbol es) (silent_symbols commands cells numbers ps)
    unfolding silent_symbols
    lines_fine numbers ps small h = all_flat (IsFineSymbol es) (IsPlacedLine es) (silent_of commands cells numbers) (of_fine numbers small) ps h

pub silent_good : (c : Config) (plan : List PlanLine) (numbers : List ℕ) (events : List Event) → AreShort (kept c events) → AllByRecursion IsShort numbers
    → AllByRecursion (IsPlacedLine c.endpoints) (planned c.endpoints plan) → AreGood c.endpoints (silent_lines c plan numbers events)
silent_good c plan numbers events short small placed =
    symbols_good c.endpoints (silent_in c plan numbers events)
    (lines_fine c.endpoints (kept c events).commanded short.commanded (seen events) numbers (planned c.endpoints plan) small placed)
