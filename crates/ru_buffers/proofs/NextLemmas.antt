-- What is next of a unit is kept: it is what a search finds, as frames are received, messages are given and time passes.
use Rattle.std.proofs.Common.{◌≡◌, ℕ, zero, suc, ℤ, pos, ◌+◌, ◌<◌, ◌≤◌, ◌-ℤ◌, ◌≤ℤ◌, Bool, true, not, ◌&&◌, ◌||◌, ◌==◌, List, [], ◌∷◌, length, refl, sym, ap, ap₂, ◌∙◌, subst, inl, inr, arith, Option, None, Some}
use Rattle.std.specs.Prelude.{◌^◌}
use Rattle.std.specs.List.{list_any}
use Rattle.std.proofs.lemmas.Bool.{cases_Bool, both_ways}
use Rattle.std.proofs.lemmas.Int.{ints, by_lt_z}
use Rattle.fh_base.specs.Air.{air_of}
use Rattle.fh_base.specs.Numbering.{symbols_of}
use Rattle.fh_base.proofs.Kept.{offsets_short}
use Rattle.air_source.specs.declared.events.Side.TheVariants.{Ru}
use Rattle.window_config.specs.declared.config.Config.{Config}
use Rattle.window_config.specs.declared.endpoints.EndpointConfig.{EndpointConfig}
use Rattle.air_source.specs.declared.events.AirCell.{AirCell}
use Rattle.unit_model.specs.Claims.{claim_at}
use Rattle.unit_model.specs.Counts.{cells_counted}
use Rattle.fh_base.specs.Lists.{some}
use Rattle.unit_model.specs.Proper.{IsAt, IsSlot}
use Rattle.unit_model.specs.Reports.{accepted_of, timely_of}
use Rattle.unit_model.specs.Standing.{History, cell_heard, uplink_of}
use Rattle.unit_model.specs.Starts.{start_at}
use Rattle.unit_model.specs.Uplink.{symbol_jobs}
use Rattle.unit_model.specs.declared.allocations.Allocation.{Allocation}
use Rattle.unit_model.specs.declared.cells.Claim.{Claim}
use Rattle.unit_model.specs.declared.jobs.UplinkJob.{UplinkJob}
use Rattle.unit_model.specs.declared.symbol_start.SymbolStart.{SymbolStart}
use Rattle.unit_model.specs.Swept.{IsSwept}
use Rattle.unit_laws.specs.Ticks.{IsLiveSlot}
use Rattle.unit_laws.proofs.FrameLemmas.{symbols_are_swept}
use Rattle.slot_rings.specs.Places.{is_due}
use Rattle.unit_cells.specs.Cells.{CellsValue, cells_claim, cells_reported, cells_has, cells_uplink, endpoints_of, ring_of}
use Rattle.unit_cells.specs.Keeping.{SameKnown}
use Rattle.unit_cells.proofs.KeepLemmas.{at_config, at_rings}
use Rattle.unit_cells.proofs.TimeLemmas.{far_no_place, live_at, no_uplink_from}
use Rattle.unit_laws.proofs.FirstLemmas.{first_is_first}
use Rattle.unit_symbols.specs.Cursors.{IsFirstJob, Settled, at_start, jobs_left, left_in, left_jobs}
use Rattle.unit_symbols.specs.Symbols.{IsSymbol}
use Rattle.unit_laws.proofs.HistoryTicks.{last_before}
use Rattle.unit_symbols.specs.declared.cursor.JobCursor.{JobCursor}
use Rattle.unit_symbols.specs.declared.cursor.NextJob.{NextJob}
use Rattle.unit_memory.specs.declared.memory.UnitMemory.{UnitMemory}
use Rattle.unit_symbols.specs.DueSymbols.{cell_in, is_left}
use Rattle.unit_symbols.proofs.LeftReports.{nothing_without_place}
use Rattle.ru_buffers.specs.Advancing.{StartsLater}
use Rattle.ru_buffers.specs.Calls.{IsNextMessage, IsNextSymbol}
use Rattle.ru_buffers.specs.Reporting.{IsLeftAfter}
use Rattle.ru_buffers.specs.Units.{IsReady, RadioKeeps}
use Rattle.ru_buffers.proofs.JobLemmas.{some_from_first}
use Rattle.ru_buffers.proofs.LeftLemmas.{left_of_none, left_since}
use Rattle.ru_buffers.proofs.LookupLemmas.{left_is}
use Rattle.ru_buffers.proofs.ReportLemmas.{swept_is}
use Rattle.ru_buffers.proofs.SymbolLemmas.{cell_is, claims_are, found, live_here, no_place_ahead, none_is_left}
use Rattle.unit_model.specs.declared.uplink.TheConstants.{SLOT_SECTIONS}
use Rattle.unit_laws.proofs.ReportLemmas.{used_same}
use Rattle.unit_laws.proofs.TickLemmas.{starts_at}
use Rattle.fh_base.proofs.Orders.{later_than}

-- ---- the same is left of a symbol

some_same : (from n : ℕ) (p q : ℕ → Bool) → ((k : ℕ) → k < from + n → p k ≡ q k) → some from n p ≡ some from n q
unfolding some
some_same from zero p q same = refl
some_same from (suc n) p q same = ap₂ (λ (a b : Bool). a || b) (same from (omega arith)) (some_same (from + 1) n p q (λ k below. same k (omega (arith, below))))

due_same : (f g : ℕ → Option Claim) (a b : Bool) → ((re : ℕ) → re < 12 → f re ≡ g re) → a ≡ b → is_due f a ≡ is_due g b
due_same f g a b same reports = ap₂ (λ (n : ℕ) (d : Bool). not (n == 0) && not d) (used_same f g 12 same) reports

-- ---- a frame by which no section of a command was accepted

module _ (c : Config) (old new : UnitMemory) (clock : ℤ) (cursor : JobCursor) (h after : History) (was : RadioKeeps c old clock cursor h) (is : RadioKeeps c new clock cursor after)
    (accepted : accepted_of c after.arrivals ≡ accepted_of c h.arrivals) (reported : after.reported ≡ h.reported) where
  module _ (x : SymbolStart) (left : IsLeftAfter old.cells clock x) where
    at : IsAt c.endpoints x.ep x.endpoint
    at = at_config Ru c old.cells x.ep x.endpoint was.holds.of left.symbol.at

    swept : IsSwept c.endpoints x.ep x.endpoint x.slot x.symbol x.start.0
    swept = swept_is c old clock cursor h was x (offsets_short x.endpoint.numerology) left.symbol

    same_left : IsLiveSlot c.delays x.endpoint cursor.since.0 x.slot → is_left new.cells x ≡ is_left old.cells x
    same_left live =
        some_same 0 x.endpoint.prbs (λ prb. is_due (cells_claim new.cells (cell_in x prb)) (cells_reported new.cells (cell_in x prb)))
        (λ prb. is_due (cells_claim old.cells (cell_in x prb)) (cells_reported old.cells (cell_in x prb)))
        (λ prb low.
        let below : prb < x.endpoint.prbs = omega (arith, low) in
        due_same (cells_claim new.cells (cell_in x prb)) (cells_claim old.cells (cell_in x prb)) (cells_reported new.cells (cell_in x prb)) (cells_reported old.cells (cell_in x prb))
        (λ re few.
        claims_are c new clock cursor after is x at left.symbol.slot_is left.symbol.symbol_is live prb re below few
        ∙ ap (λ (acc : List Allocation). claim_at acc (cell_in x prb) re) accepted
        ∙ sym (claims_are c old clock cursor h was x at left.symbol.slot_is left.symbol.symbol_is live prb re below few))
        (is.reports x.endpoint (cell_in x prb) (cell_is c new clock cursor after is x at left.symbol.slot_is left.symbol.symbol_is live prb below) refl
        (live_here c new clock cursor after is x at left.symbol.slot_is left.symbol.symbol_is live)
        ∙ ap (λ (heard : List AirCell). list_any (cell_heard x.endpoint (cell_in x prb)) heard) reported
        ∙ sym (was.reports x.endpoint (cell_in x prb) (cell_is c old clock cursor h was x at left.symbol.slot_is left.symbol.symbol_is live prb below) refl
        (live_here c old clock cursor h was x at left.symbol.slot_is left.symbol.symbol_is live))))

    is_live : IsLiveSlot c.delays x.endpoint cursor.since.0 x.slot
    is_live = elim (found c old clock cursor h was x swept left.after) [
      | inl live ↦ live
      | inr far ↦ absurd (both_ways (cells_has old.cells x.ep x.slot) (no_place_ahead c old clock cursor h was x swept left.after far) left.symbol.has)
    ]

    still_left : is_left new.cells x ≡ true
    still_left = same_left is_live ∙ left.left

    pub left_now : IsLeftAfter new.cells clock x
    left_now = elim (cases_Bool (cells_has new.cells x.ep x.slot)) [
      | inl has ↦ record {
        symbol = record {
          at = at_rings Ru c new.cells x.ep x.endpoint is.holds.of at;
          slot_is = left.symbol.slot_is;
          symbol_is = left.symbol.symbol_is;
          starts = left.symbol.starts;
          has = has;
        };
        after = left.after;
        left = still_left;
      }
      | inr none ↦ absurd (both_ways (is_left new.cells x) (none_is_left new.cells x (nothing_without_place new.cells x none)) still_left)
    ]

  -- the same is left of the messages of each symbol
  module _ (x : SymbolStart) (at : IsAt c.endpoints x.ep x.endpoint) (slot_is : IsSlot x.endpoint.numerology x.slot) (symbol_is : x.symbol < symbols_of x.endpoint.numerology) where
    goes_over : IsSwept c.endpoints x.ep x.endpoint x.slot x.symbol (air_of x.endpoint.numerology x.slot x.symbol)
    goes_over =
        symbols_are_swept c.endpoints x.ep x.endpoint x.slot x.symbol at (offsets_short x.endpoint.numerology)
        (record { subframe = slot_is.subframe; slot = slot_is.slot_is }) symbol_is

    pub same_messages : left_in (cells_uplink new.cells) cursor x ≡ left_in (cells_uplink old.cells) cursor x
    same_messages =
        left_is c new cursor.since.0 after.arrivals (cells_counted after.reported) is.holds is.begun (most cursor.since.0 after.clock is.since is.time.high) cursor refl
        x.ep x.endpoint x.slot x.symbol (air_of x.endpoint.numerology x.slot x.symbol) goes_over
        ∙ ap (λ (acc : List Allocation). left_jobs cursor (start_at x.ep x.endpoint x.slot x.symbol) (symbol_jobs acc x.ep x.endpoint x.slot x.symbol)) accepted
        ∙ sym (left_is c old cursor.since.0 h.arrivals (cells_counted h.reported) was.holds was.begun (most cursor.since.0 h.clock was.since was.time.high) cursor refl
        x.ep x.endpoint x.slot x.symbol (air_of x.endpoint.numerology x.slot x.symbol) goes_over)
      where
        most : (a b : ℤ) → a ≤ℤ b → b ≤ℤ pos (2 ^ 53) → a ≤ℤ pos (2 ^ 53)
        most a b h k = omega (arith, ints)

  none_is_some : (n : UplinkJob) (rest xs : List UplinkJob) → xs ≡ n ∷ rest → xs ≡ [] → ⊥
  none_is_some n rest xs e f = cc

  nothing_at : (s : SymbolStart) → IsSymbol new.cells s → (IsSymbol old.cells s → left_in (cells_uplink old.cells) cursor s ≡ [])
      → left_in (cells_uplink new.cells) cursor s ≡ []
  nothing_at s symbol none =
      let here : IsAt c.endpoints s.ep s.endpoint = at_config Ru c new.cells s.ep s.endpoint is.holds.of symbol.at in
      same_messages s here symbol.slot_is symbol.symbol_is ∙ (elim (cases_Bool (cells_has old.cells s.ep s.slot)) [
        | inl has ↦ none (record {
          at = at_rings Ru c old.cells s.ep s.endpoint was.holds.of here;
          slot_is = symbol.slot_is;
          symbol_is = symbol.symbol_is;
          starts = symbol.starts;
          has = has;
        })
        | inr hasnt ↦ left_of_none (cells_uplink old.cells) cursor s.ep s.endpoint s.slot s.symbol (no_uplink_from (ring_of old.cells s.ep) s.slot hasnt)
      ])

  module _ (n : NextJob) (first : IsFirstJob old.cells cursor n) where
    job_at : IsAt c.endpoints n.symbol.ep n.symbol.endpoint
    job_at = at_config Ru c old.cells n.symbol.ep n.symbol.endpoint was.holds.of first.symbol.at

    job_left : left_in (cells_uplink new.cells) cursor n.symbol ≡ n.job ∷ first.rest
    job_left = same_messages n.symbol job_at first.symbol.slot_is first.symbol.symbol_is ∙ first.first

    job_live : IsLiveSlot c.delays n.symbol.endpoint cursor.since.0 n.symbol.slot
    job_live =
        elim (starts_at c.delays n.symbol.endpoint cursor.since.0 (air_of n.symbol.endpoint.numerology n.symbol.slot n.symbol.symbol) n.symbol.slot n.symbol.symbol
        was.holds.config.delays (left_since (cells_uplink old.cells) cursor n.symbol n.job first.rest first.first) first.symbol.symbol_is refl) [
          | inl live ↦ live
          | inr far ↦
              absurd (both_ways (cells_has old.cells n.symbol.ep n.symbol.slot) (far_no_place Ru c cursor.since.0 old.cells (accepted_of c h.arrivals) (timely_of Ru c h.arrivals) n.symbol.endpoint n.symbol.ep n.symbol.slot was.holds.keeps job_at far) first.symbol.has)
        ]

    same_uplink : cells_uplink new.cells n.symbol.ep n.symbol.slot ≡ cells_uplink old.cells n.symbol.ep n.symbol.slot
    same_uplink =
        let live = live_at Ru c cursor.since.0 n.symbol.endpoint n.symbol.ep n.symbol.slot job_at job_live in
        is.holds.keeps.uplink n.symbol.endpoint n.symbol.ep n.symbol.slot job_at first.symbol.slot_is live
        ∙ ap (uplink_of n.symbol.ep n.symbol.slot) accepted
        ∙ sym (was.holds.keeps.uplink n.symbol.endpoint n.symbol.ep n.symbol.slot job_at first.symbol.slot_is live)

    job_symbol : IsSymbol new.cells n.symbol
    job_symbol = elim (cases_Bool (cells_has new.cells n.symbol.ep n.symbol.slot)) [
      | inl has ↦ record {
        at = at_rings Ru c new.cells n.symbol.ep n.symbol.endpoint is.holds.of job_at;
        slot_is = first.symbol.slot_is;
        symbol_is = first.symbol.symbol_is;
        starts = first.symbol.starts;
        has = has;
      }
      | inr hasnt ↦
          absurd (none_is_some n.job first.rest (left_in (cells_uplink new.cells) cursor n.symbol) job_left
          (left_of_none (cells_uplink new.cells) cursor n.symbol.ep n.symbol.endpoint n.symbol.slot n.symbol.symbol
          (no_uplink_from (ring_of new.cells n.symbol.ep) n.symbol.slot hasnt)))
    ]

    pub first_still : IsFirstJob new.cells cursor n
    first_still = record {
      symbol = job_symbol;
      rest = first.rest;
      first = job_left;
      few = subst (λ (xs : List Allocation). length xs ≤ SLOT_SECTIONS) (sym same_uplink) first.few;
      before = λ s symbol earlier. nothing_at s symbol (λ told. first.before s told earlier);
    }

  pub message_kept : (o : Option NextJob) → IsNextMessage old.cells cursor o → IsNextMessage new.cells cursor o
  message_kept None none = λ s symbol. nothing_at s symbol (none s)
  message_kept (Some n) first = first_still n first

pub symbol_kept : (c : Config) (old new : UnitMemory) (clock : ℤ) (cursor : JobCursor) (h after : History) → RadioKeeps c old clock cursor h → RadioKeeps c new clock cursor after
    → accepted_of c after.arrivals ≡ accepted_of c h.arrivals → after.reported ≡ h.reported → (o : Option SymbolStart)
    → IsNextSymbol old.cells clock o → IsNextSymbol new.cells clock o
symbol_kept c old new clock cursor h after was is accepted reported None none =
    λ x left. none x (left_now c new old clock cursor after h is was (sym accepted) (sym reported) x left)
symbol_kept c old new clock cursor h after was is accepted reported (Some s) first = record {
  was = left_now c old new clock cursor h after was is accepted reported s first.was;
  first = λ x left. first.first x (left_now c new old clock cursor after h is was (sym accepted) (sym reported) x left);
}

-- ---- a cursor that is settled

same_first : (v : CellsValue) (clock : ℤ) (cursor next : JobCursor) (n : NextJob) → Settled clock cursor next → IsFirstJob v cursor n
    → clock ≤ℤ (at_start n.symbol).start.0 → IsFirstJob v next n
same_first v clock cursor next n settled first order = record {
  symbol = first.symbol;
  rest = first.rest;
  first = settled.behind (cells_uplink v) n.symbol order ∙ first.first;
  few = first.few;
  before = λ s symbol earlier.
      by_lt_z (at_start s).start.0 clock
      (λ past. settled.before (cells_uplink v) s past)
      (λ later. settled.behind (cells_uplink v) s later ∙ first.before s symbol earlier);
}

pub message_settled : (c : Config) (m : UnitMemory) (clock : ℤ) (cursor next : JobCursor) (h : History) → RadioKeeps c m clock cursor h → IsReady m clock cursor
    → Settled clock cursor next → (o : Option NextJob) → IsNextMessage m.cells cursor o → IsNextMessage m.cells next o
message_settled c m clock cursor next h keeps ready settled None none =
    λ s symbol.
    by_lt_z (at_start s).start.0 clock
    (λ past. settled.before (cells_uplink m.cells) s past)
    (λ later. settled.behind (cells_uplink m.cells) s later ∙ none s symbol)
message_settled c m clock cursor next h keeps ready settled (Some n) first =
    by_lt_z n.symbol.start.0 clock
    (λ past.
    absurd (some_from_first first_is_first c m clock cursor n h (clock -ℤ pos 1) keeps (offsets_short n.symbol.endpoint.numerology) first (last_before n.symbol.start.0 clock past)
    (sym (keeps.left (clock -ℤ pos 1)) ∙ ready)))
    (λ later. same_first m.cells clock cursor next n settled first (subst (λ (t : ℤ). clock ≤ℤ t) first.symbol.starts later))

-- ---- cells that are set as reported

same_in : (old new : CellsValue) (cursor : JobCursor) → SameKnown old new → (s : SymbolStart) → left_in (cells_uplink new) cursor s ≡ left_in (cells_uplink old) cursor s
unfolding jobs_left
same_in old new cursor known s =
    ap (λ (us : List Allocation). left_jobs cursor (start_at s.ep s.endpoint s.slot s.symbol) (symbol_jobs us s.ep s.endpoint s.slot s.symbol)) (known.uplink s.ep s.slot)

symbol_of : (a b : CellsValue) → endpoints_of a ≡ endpoints_of b → ((s : SymbolStart) → cells_has a s.ep s.slot ≡ cells_has b s.ep s.slot) → (s : SymbolStart)
    → IsSymbol a s → IsSymbol b s
symbol_of a b endpoints places s is = record {
  at = subst (λ (es : List EndpointConfig). IsAt es s.ep s.endpoint) endpoints is.at;
  slot_is = is.slot_is;
  symbol_is = is.symbol_is;
  starts = is.starts;
  has = sym (places s) ∙ is.has;
}

pub message_known : (old new : CellsValue) (cursor : JobCursor) → SameKnown old new → endpoints_of new ≡ endpoints_of old → (o : Option NextJob)
    → IsNextMessage old cursor o → IsNextMessage new cursor o
message_known old new cursor known endpoints None none =
    λ s symbol. same_in old new cursor known s ∙ none s (symbol_of new old endpoints (λ x. known.places x.ep x.slot) s symbol)
message_known old new cursor known endpoints (Some n) first = record {
  symbol = symbol_of old new (sym endpoints) (λ x. sym (known.places x.ep x.slot)) n.symbol first.symbol;
  rest = first.rest;
  first = same_in old new cursor known n.symbol ∙ first.first;
  few = subst (λ (xs : List Allocation). length xs ≤ SLOT_SECTIONS) (sym (known.uplink n.symbol.ep n.symbol.slot)) first.few;
  before = λ s symbol earlier.
      same_in old new cursor known s ∙ first.before s (symbol_of new old endpoints (λ x. known.places x.ep x.slot) s symbol) earlier;
}

-- ---- as time passes

earlier_left : (v : CellsValue) (clock to : ℤ) → clock ≤ℤ to → (x : SymbolStart) → IsLeftAfter v to x → IsLeftAfter v clock x
earlier_left v clock to order x left = record { symbol = left.symbol; after = later_than clock to x.start.0 order left.after; left = left.left }

pub symbol_later : (v : CellsValue) (clock to : ℤ) (o : Option SymbolStart) → clock ≤ℤ to → StartsLater to o → IsNextSymbol v clock o → IsNextSymbol v to o
symbol_later v clock to None order later none = λ x left. none x (earlier_left v clock to order x left)
symbol_later v clock to (Some s) order later first = record {
  was = record { symbol = first.was.symbol; after = later; left = first.was.left };
  first = λ x left. first.first x (earlier_left v clock to order x left);
}
