-- What is left of all symbols, as their messages are given and as time passes.
use Rattle.std.proofs.Common.{◌≡◌, ◌≢◌, ℕ, ℤ, pos, ◌+ℤ◌, ◌-ℤ◌, ◌≤ℤ◌, ◌<ℤ◌, List, [], ◌∷◌, ◌++◌, refl, sym, ap, ap₂, ◌∙◌, subst, arith}
use Rattle.std.proofs.lemmas.Int.{ints, by_lt_z}
use Rattle.std.specs.Int.Signed.{<ℤ-≤ℤ_trans}
use Rattle.fh_base.specs.Air.{air_of}
use Rattle.fh_base.specs.declared.values.Slot.{Slot}
use Rattle.window_config.specs.declared.endpoints.EndpointConfig.{EndpointConfig}
use Rattle.unit_model.specs.Radiated.{first_clock}
use Rattle.unit_model.specs.Sweeps.{OfSymbol, sweep}
use Rattle.unit_model.specs.declared.jobs.UplinkJob.{UplinkJob}
use Rattle.unit_model.specs.declared.symbol_start.SymbolStart.{SymbolStart}
use Rattle.unit_laws.specs.Runs.{OffsetsFit}
use Rattle.unit_model.specs.Swept.{IsSwept}
use Rattle.unit_laws.proofs.FrameLemmas.{symbols_are_swept}
use Rattle.unit_model.proofs.SweepLemmas.{sweep-append, sweep-same, tick-nothing}
use Rattle.unit_cells.specs.Cells.{CellsValue, cells_uplink, endpoints_of}
use Rattle.unit_cells.proofs.ApartLemmas.{is_slot_of}
use Rattle.unit_laws.specs.First.{FirstIsFirst, IsQuietBefore, IsSweptIn, told_of}
use Rattle.unit_symbols.specs.Cursors.{GivenOne, IsFirstJob, Settled, jobs_left}
use Rattle.unit_symbols.specs.Symbols.{IsSymbol}
use Rattle.unit_laws.proofs.HistoryTicks.{next_of_last, later_then, same_then}
use Rattle.unit_symbols.specs.declared.cursor.JobCursor.{JobCursor}
use Rattle.unit_symbols.specs.declared.cursor.NextJob.{NextJob}
use Rattle.ru_buffers.specs.Units.{left_up_to}
use Rattle.ru_buffers.proofs.LeftLemmas.{left_since, start_before, start_behind}
use Rattle.unit_model.proofs.SweepLaws.{sweep_quiet as sweep-nothing}
use Rattle.fh_base.proofs.Orders.{weak, within_next}
use Rattle.unit_model.proofs.ClaimLemmas.{start_before as earlier_comes}
use Rattle.ru_buffers.proofs.QuietLemmas.{sweep_less}

-- ---- nothing of any symbol

abbrev symbol_at : ℕ → EndpointConfig → Slot → ℕ → ℤ → SymbolStart
symbol_at ep e slot symbol tick = record { ep = ep; endpoint = e; start = record { 0 = tick }; slot = slot; symbol = symbol }

pub nothing_swept : {A : Type 0} (g : OfSymbol A) (es : List EndpointConfig) (from end : ℤ) → ((s : SymbolStart) → IsSweptIn es from end s → told_of g s ≡ [])
    → sweep g es from end ≡ []
nothing_swept g es from end none =
    sweep-nothing g es from end (λ tick low high.
    tick-nothing g es tick (λ ep e slot symbol swept. none (symbol_at ep e slot symbol tick) (record { swept = swept; low = low; high = high })))

pub nothing_left : (v : CellsValue) (cursor : JobCursor) (to : ℤ)
    → ((s : SymbolStart) → IsSweptIn (endpoints_of v) first_clock (to +ℤ pos 1) s → told_of (jobs_left (cells_uplink v) cursor) s ≡ [])
    → left_up_to v cursor to ≡ []
unfolding left_up_to
nothing_left v cursor to none = nothing_swept (jobs_left (cells_uplink v) cursor) (endpoints_of v) first_clock (to +ℤ pos 1) none

-- ---- a cursor that is settled

moved_below : (start tick clock : ℤ) → start ≡ tick → tick <ℤ clock → start <ℤ clock
moved_below start tick clock e h = omega (arith, ints)

module _ (v : CellsValue) (clock : ℤ) (cursor next : JobCursor) (settled : Settled clock cursor next) where
  settled_before : (end : ℤ) → end ≤ℤ clock → sweep (jobs_left (cells_uplink v) next) (endpoints_of v) first_clock end ≡ []
  settled_before end order =
      nothing_swept (jobs_left (cells_uplink v) next) (endpoints_of v) first_clock end (λ s is.
      settled.before (cells_uplink v) s (moved_below (air_of s.endpoint.numerology s.slot s.symbol) s.start.0 clock is.swept.starts (<ℤ-≤ℤ_trans is.high order)))

  settled_behind : (end : ℤ) → sweep (jobs_left (cells_uplink v) next) (endpoints_of v) clock end ≡ sweep (jobs_left (cells_uplink v) cursor) (endpoints_of v) clock end
  settled_behind end =
      sweep-same (jobs_left (cells_uplink v) next) (jobs_left (cells_uplink v) cursor) (endpoints_of v) clock end (λ ep e slot symbol tick low high swept.
      settled.behind (cells_uplink v) (symbol_at ep e slot symbol tick) (same_then clock tick (air_of e.numerology slot symbol) low swept.starts))

  settled_sweeps : (end : ℤ) → first_clock ≤ℤ clock → sweep (jobs_left (cells_uplink v) cursor) (endpoints_of v) first_clock clock ≡ []
      → sweep (jobs_left (cells_uplink v) next) (endpoints_of v) first_clock end ≡ sweep (jobs_left (cells_uplink v) cursor) (endpoints_of v) first_clock end
  settled_sweeps end begun none =
      let g = jobs_left (cells_uplink v) cursor in
      let g' = jobs_left (cells_uplink v) next in
      let es = endpoints_of v in
      by_lt_z clock end
      (λ after.
      sweep-append g' es first_clock clock end begun (weak clock end after)
      ∙ ap₂ ◌++◌ (settled_before clock (same_time clock) ∙ sym none) (settled_behind end)
      ∙ sym (sweep-append g es first_clock clock end begun (weak clock end after)))
      (λ before. settled_before end before ∙ sym (sweep_less g es first_clock end clock before none))
    where
      same_time : (t : ℤ) → t ≤ℤ t
      same_time t = omega (arith, ints)

  pub settled_ready : left_up_to v next (clock -ℤ pos 1) ≡ []
  unfolding left_up_to
  settled_ready = settled_before ((clock -ℤ pos 1) +ℤ pos 1) (within clock)
    where
      within : (t : ℤ) → ((t -ℤ pos 1) +ℤ pos 1) ≤ℤ t
      within t = omega (arith, ints)

  -- the same is left, where nothing was left of symbols that start before the clock
  pub settled_left : (to : ℤ) → first_clock ≤ℤ clock → left_up_to v cursor (clock -ℤ pos 1) ≡ [] → left_up_to v next to ≡ left_up_to v cursor to
  unfolding left_up_to
  settled_left to begun ready =
      settled_sweeps (to +ℤ pos 1) begun
      (ap (sweep (jobs_left (cells_uplink v) cursor) (endpoints_of v) first_clock) (sym (next_of_last clock)) ∙ ready)

-- ---- the first message that is left

up_to_before : (s to start : ℤ) → s <ℤ (to +ℤ pos 1) → to <ℤ start → s <ℤ start
up_to_before s to start a b = omega (arith, ints)

module _ (v : CellsValue) (cursor : JobCursor) (n : NextJob) (first : IsFirstJob v cursor n) (begun : first_clock ≤ℤ cursor.since.0)
    (quiet : (end : ℤ) (s : SymbolStart) → (IsSymbol v s → told_of (jobs_left (cells_uplink v) cursor) s ≡ []) → IsSweptIn (endpoints_of v) first_clock end s
    → told_of (jobs_left (cells_uplink v) cursor) s ≡ []) where
  -- before it nothing is left
  pub quiet_before : (end : ℤ) → IsQuietBefore (jobs_left (cells_uplink v) cursor) (endpoints_of v) first_clock end n.symbol
  quiet_before end s is before = quiet end s (λ symbol. first.before s symbol before) is

  pub none_before : (to : ℤ) → to <ℤ n.symbol.start.0 → left_up_to v cursor to ≡ []
  none_before to early =
      nothing_left v cursor to (λ s is.
      quiet_before (to +ℤ pos 1) s is (earlier_comes s n.symbol (up_to_before s.start.0 to n.symbol.start.0 is.high early)))

  first_is_swept : (to : ℤ) → OffsetsFit n.symbol.endpoint.numerology → n.symbol.start.0 ≤ℤ to → IsSweptIn (endpoints_of v) first_clock (to +ℤ pos 1) n.symbol
  first_is_swept to fit order =
      let s = n.symbol in
      record {
        swept = subst (IsSwept (endpoints_of v) s.ep s.endpoint s.slot s.symbol) (sym first.symbol.starts)
            (symbols_are_swept (endpoints_of v) s.ep s.endpoint s.slot s.symbol first.symbol.at fit (is_slot_of s.endpoint.numerology s.slot first.symbol.slot_is) first.symbol.symbol_is);
        low = later_then first_clock cursor.since.0 (air_of s.endpoint.numerology s.slot s.symbol) s.start.0 begun
            (left_since (cells_uplink v) cursor s n.job first.rest first.first) first.symbol.starts;
        high = within_next s.start.0 to order;
      }

  -- it begins what is left, where sweeps begin with the first symbol that tells anything
  pub some_first : (first_is : FirstIsFirst UplinkJob) (to : ℤ) → OffsetsFit n.symbol.endpoint.numerology → n.symbol.start.0 ≤ℤ to → left_up_to v cursor to ≢ []
  unfolding left_up_to
  some_first first_is to fit order none =
      let g = jobs_left (cells_uplink v) cursor in
      let begin = first_is g g (endpoints_of v) first_clock (to +ℤ pos 1) n.symbol (first_is_swept to fit order) (quiet_before (to +ℤ pos 1)) (quiet_before (to +ℤ pos 1)) (λ s is after. refl) in
      let told : sweep g (endpoints_of v) first_clock (to +ℤ pos 1) ≡ n.job ∷ (first.rest ++ begin.rest) =
      begin.one ∙ ap (λ (xs : List UplinkJob). xs ++ begin.rest) first.first in
      absurd cc

  module _ (next : JobCursor) (given : GivenOne v cursor n next) where
    given_before : (end : ℤ) → IsQuietBefore (jobs_left (cells_uplink v) next) (endpoints_of v) first_clock end n.symbol
    given_before end s is before = given.before (cells_uplink v) s (start_before s n.symbol is.swept.starts ∙ before)

    pub none_given_before : (to : ℤ) → to <ℤ n.symbol.start.0 → left_up_to v next to ≡ []
    none_given_before to early =
        nothing_left v next to (λ s is.
        given_before (to +ℤ pos 1) s is (earlier_comes s n.symbol (up_to_before s.start.0 to n.symbol.start.0 is.high early)))

    -- what is left once it was given goes on after it
    pub left_first : (first_is : FirstIsFirst UplinkJob) (to : ℤ) → OffsetsFit n.symbol.endpoint.numerology → n.symbol.start.0 ≤ℤ to
        → left_up_to v cursor to ≡ n.job ∷ left_up_to v next to
    unfolding left_up_to
    left_first first_is to fit order =
        let g = jobs_left (cells_uplink v) cursor in
        let g' = jobs_left (cells_uplink v) next in
        let begin = first_is g g' (endpoints_of v) first_clock (to +ℤ pos 1) n.symbol (first_is_swept to fit order) (quiet_before (to +ℤ pos 1)) (given_before (to +ℤ pos 1))
        (λ s is after. given.behind (cells_uplink v) s (start_behind s n.symbol is.swept.starts ∙ after)) in
        begin.one
        ∙ ap (λ (xs : List UplinkJob). xs ++ begin.rest) first.first
        ∙ ap (λ (xs : List UplinkJob). n.job ∷ (xs ++ begin.rest)) (sym (given.here n.job first.rest first.first))
        ∙ ap (λ (xs : List UplinkJob). n.job ∷ xs) (sym begin.other)
