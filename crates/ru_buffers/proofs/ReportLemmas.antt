-- What is due at a radio unit, by what its memory holds.
use Rattle.std.proofs.Common.{◌≡◌, ℤ, pos, ◌+ℤ◌, ◌≤ℤ◌, ◌<ℤ◌, true, false, List, [], ◌++◌, refl, sym, ap, ◌∙◌, subst, arith, append_assoc}
use Rattle.std.specs.Prelude.{int_lt}
use Rattle.std.proofs.lemmas.Int.{ints, by_lt_z}
use Rattle.std.specs.Int.Signed.{<ℤ-≤ℤ_trans, ≤ℤ_refl}
use Rattle.std.proofs.lemmas.Bool.{both_ways, or_parts}
use Rattle.air_source.specs.declared.events.AirCell.{AirCell}
use Rattle.air_source.specs.declared.events.Side.TheVariants.{Ru}
use Rattle.window_config.specs.declared.config.Config.{Config}
use Rattle.unit_model.specs.Order.{comes_before}
use Rattle.unit_model.specs.Reports.{ru_known}
use Rattle.unit_model.specs.Standing.{History, still_reported}
use Rattle.unit_model.specs.Sweeps.{OfSymbol, sweep}
use Rattle.unit_model.specs.declared.symbol_start.SymbolStart.{SymbolStart}
use Rattle.unit_laws.specs.Runs.{OffsetsFit}
use Rattle.unit_model.specs.Swept.{IsSwept}
use Rattle.unit_laws.proofs.DueLemmas.{due_begins, due_in_pieces}
use Rattle.unit_laws.proofs.FrameLemmas.{symbols_are_swept}
use Rattle.unit_laws.proofs.TickLemmas.{due_after_now}
use Rattle.unit_cells.proofs.KeepLemmas.{at_config}
use Rattle.unit_laws.specs.First.{FirstIsFirst, IsSweptIn, NothingIsNothing, told_of}
use Rattle.unit_laws.proofs.HistoryLists.{front_empty}
use Rattle.unit_symbols.specs.declared.cursor.JobCursor.{JobCursor}
use Rattle.unit_memory.specs.declared.memory.UnitMemory.{UnitMemory}
use Rattle.unit_symbols.specs.DueSymbols.{is_left, left_at}
use Rattle.unit_symbols.specs.Symbols.{IsSymbol}
use Rattle.ru_buffers.specs.Reporting.{DueBegins, DueGoesOn, FirstIsDue, IsFirstLeft, IsLeftAfter, NothingBeforeFirst, NothingIsDue, SomethingAtFirst, due_of}
use Rattle.ru_buffers.specs.Units.{RadioKeeps}
use Rattle.ru_buffers.proofs.SymbolLemmas.{clock_first, looked_up, none_is_left, quiet}
use Rattle.fh_base.proofs.Orders.{not_under, weak, beyond_next as after_next, within_next, next_after}

-- ---- times

beyond : (t to : ℤ) → t <ℤ (to +ℤ pos 1) → to <ℤ t → ⊥
beyond t to h k = omega (arith, ints)

no_earlier : (clock t to : ℤ) → clock <ℤ t → t ≤ℤ to → clock ≤ℤ to
no_earlier clock t to h k = omega (arith, ints)

-- ---- lists and tests

-- what is not before a symbol starts no earlier
pub starts_no_earlier : (x s : SymbolStart) → comes_before x s ≡ false → s.start.0 ≤ℤ x.start.0
starts_no_earlier x s h = not_under x.start.0 s.start.0 ((or_parts (int_lt x.start.0 s.start.0) _ h).0)

module _ (c : Config) (m : UnitMemory) (clock : ℤ) (cursor : JobCursor) (h : History) (keeps : RadioKeeps c m clock cursor h) where
  abbrev still : OfSymbol AirCell
  still = still_reported Ru (ru_known c h.arrivals) h.reported

  -- what is due is what the symbols tell that start after the clock
  pub due_is : (to : ℤ) → clock ≤ℤ to → due_of c h to ≡ sweep still c.endpoints (clock +ℤ pos 1) (to +ℤ pos 1)
  due_is to order =
      due_after_now c.delays c.endpoints (ru_known c h.arrivals) h.reported clock to (clock_first c m clock cursor h keeps) order
      (subst (λ (t : ℤ). due_of c h t ≡ []) (sym keeps.clock_is) keeps.past)

  -- a symbol that has its place is gone over when it starts
  pub swept_is : (s : SymbolStart) → OffsetsFit s.endpoint.numerology → IsSymbol m.cells s → IsSwept c.endpoints s.ep s.endpoint s.slot s.symbol s.start.0
  swept_is s fits is =
      subst (λ (t : ℤ). IsSwept c.endpoints s.ep s.endpoint s.slot s.symbol t) (sym is.starts)
      (symbols_are_swept c.endpoints s.ep s.endpoint s.slot s.symbol (at_config Ru c m.cells s.ep s.endpoint keeps.holds.of is.at) fits
      (record { subframe = is.slot_is.subframe; slot = is.slot_is.slot_is }) is.symbol_is)

  -- nothing is told of a symbol, unless something is left of it
  quiet_at : (to : ℤ) (x : SymbolStart) → IsSweptIn c.endpoints (clock +ℤ pos 1) (to +ℤ pos 1) x → (IsLeftAfter m.cells clock x → ⊥) → told_of still x ≡ []
  quiet_at to x is never =
      let later : clock <ℤ x.start.0 = after_next clock x.start.0 is.low in
      quiet c m clock cursor h keeps x is.swept later (λ symbol left. never (record { symbol = symbol; after = later; left = left }))

  pub begins : (s : SymbolStart) (to : ℤ) → FirstIsFirst AirCell → OffsetsFit s.endpoint.numerology → IsFirstLeft m.cells clock s → s.start.0 ≤ℤ to
      → DueBegins c h to (left_at m.cells s)
  begins s to law fits first order =
      let swept = swept_is s fits first.symbol in
      let from = clock +ℤ pos 1 in
      let end = to +ℤ pos 1 in
      let is : IsSweptIn c.endpoints from end s =
      record { swept = swept; low = next_after clock s.start.0 first.after; high = within_next s.start.0 to order } in
      let silent : (x : SymbolStart) → IsSweptIn c.endpoints from end x → comes_before x s ≡ true → told_of still x ≡ [] =
      λ x in_x earlier. quiet_at to x in_x (λ left. both_ways (comes_before x s) (first.first x left) earlier) in
      let all = law still still c.endpoints from end s is silent silent (λ x in_x later. refl) in
      record {
        rest = all.rest;
        is =
            due_is to (no_earlier clock s.start.0 to first.after order) ∙ all.one
            ∙ ap (λ (xs : List AirCell). xs ++ all.rest) (looked_up c m clock cursor h keeps s swept first.after);
      }

  -- up to the clock nothing is due
  past_is : (to : ℤ) → to ≤ℤ clock → due_of c h to ≡ []
  past_is to order =
      let begins = due_begins Ru c.delays c.endpoints (ru_known c h.arrivals) h.reported to clock order in
      front_empty (due_of c h to) begins.0 (sym begins.1 ∙ subst (λ (t : ℤ). due_of c h t ≡ []) (sym keeps.clock_is) keeps.past)

  pub nothing : (to : ℤ) → NothingIsNothing AirCell → ((x : SymbolStart) → IsLeftAfter m.cells clock x → to <ℤ x.start.0) → due_of c h to ≡ []
  nothing to law none =
      by_lt_z to clock (λ before. past_is to (weak to clock before)) (λ order.
      due_is to order
      ∙ law still c.endpoints (clock +ℤ pos 1) (to +ℤ pos 1) (λ x is. quiet_at to x is (λ left. beyond x.start.0 to is.high (none x left))))

pub first_is_due : FirstIsDue
first_is_due c m clock cursor h s to law keeps fits first order = begins c m clock cursor h keeps s to law fits first order

pub nothing_is_due : NothingIsDue
nothing_is_due c m clock cursor h to law keeps none = nothing c m clock cursor h keeps to law none

pub nothing_before_first : NothingBeforeFirst
nothing_before_first c m clock cursor h s to law keeps first early =
    nothing c m clock cursor h keeps to law (λ x left. <ℤ-≤ℤ_trans early (starts_no_earlier x s (first.first x left)))

pub something_at_first : SomethingAtFirst
something_at_first c m clock cursor h s law keeps fits first left none =
    let due = begins c m clock cursor h keeps s s.start.0 law fits first (≤ℤ_refl s.start.0) in
    both_ways (is_left m.cells s) (none_is_left m.cells s (front_empty (left_at m.cells s) due.rest (sym due.is ∙ none))) left

-- ---- piece by piece

pub due_goes_on : DueGoesOn
due_goes_on c m clock cursor h s told more to law keeps fits first order left =
    let due = begins c m clock cursor h keeps s to law fits first order in
    let parts : due_of c h to ≡ told ++ (more ++ due.rest) = due.is ∙ ap (λ (xs : List AirCell). xs ++ due.rest) left ∙ append_assoc told more due.rest in
    parts
    ∙ ap (λ (xs : List AirCell). told ++ xs)
    (sym (due_in_pieces Ru c.delays c.endpoints (ru_known c h.arrivals) h.reported told (more ++ due.rest) to keeps.holds.config.endpoints.differ parts))
