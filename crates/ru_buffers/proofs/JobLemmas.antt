-- The uplink messages of a radio unit, as they are given and as time passes.
use Rattle.std.proofs.Common.{◌≡◌, ℕ, ℤ, pos, ◌+◌, ◌+ℤ◌, ◌-ℤ◌, ◌≤ℤ◌, true, false, List, [], ◌∷◌, ◌++◌, length, drop, refl, sym, ap, ◌∙◌, subst, inl, inr, arith, append_assoc, length-append}
use Rattle.std.specs.Int.{int_max}
use Rattle.std.specs.List.{list_any}
use Rattle.std.proofs.lemmas.Bool.{cases_Bool}
use Rattle.std.proofs.lemmas.Int.{ints, clamps, by_lt_z}
use Rattle.std.proofs.lemmas.List.{drop-drop, drop_at}
use Rattle.air_source.specs.declared.events.Side.TheVariants.{Ru}
use Rattle.window_config.specs.Rings.{ru_reach_of}
use Rattle.window_config.specs.declared.config.Config.{Config}
use Rattle.window_config.specs.declared.endpoints.EndpointConfig.{EndpointConfig}
use Rattle.unit_model.specs.Counts.{cells_counted}
use Rattle.unit_model.specs.Radiated.{first_clock, used_mask}
use Rattle.unit_model.specs.Reports.{accepted_of, ru_known, timely_of}
use Rattle.unit_model.specs.Standing.{History, IsCell, IsLiveAt, cell_heard, still_given}
use Rattle.unit_model.specs.Uplink.{jobs}
use Rattle.unit_model.specs.declared.cells.Cell.{Cell}
use Rattle.unit_model.specs.declared.jobs.UplinkJob.{UplinkJob}
use Rattle.unit_model.specs.declared.symbol_start.SymbolStart.{SymbolStart}
use Rattle.unit_laws.specs.Far.{IsFar}
use Rattle.unit_laws.specs.Runs.{OffsetsFit}
use Rattle.unit_laws.proofs.AheadLemmas.{no_claims_ahead}
use Rattle.unit_laws.proofs.SentLemmas.{jobs_begin}
use Rattle.unit_laws.proofs.TickLemmas.{given_in_order, live_later}
use Rattle.unit_cells.specs.Cells.{cells_reported, cells_uplink, endpoints_of}
use Rattle.unit_cells.proofs.TimeLemmas.{far_not_reported, live_at}
use Rattle.unit_laws.specs.First.{FirstIsFirst, IsSweptIn, told_of}
use Rattle.unit_symbols.specs.Cursors.{GivenOne, IsFirstJob, Settled, jobs_left}
use Rattle.unit_symbols.specs.Symbols.{IsSymbol}
use Rattle.unit_laws.proofs.HistoryTicks.{same_then}
use Rattle.unit_laws.proofs.UnitLemmas.{not_both}
use Rattle.unit_symbols.specs.declared.cursor.JobCursor.{JobCursor}
use Rattle.unit_symbols.specs.declared.cursor.NextJob.{NextJob}
use Rattle.unit_memory.specs.Memory.{Holds}
use Rattle.unit_memory.proofs.HoldLemmas.{holds_later}
use Rattle.unit_memory.specs.declared.memory.UnitMemory.{UnitMemory}
use Rattle.ru_buffers.specs.JobLaws.{GivesFirst, IsGiven, IsSettled, KeptLater, NoneBeforeFirst, NoneToGive, ReadyOnceGiven, Settles, SomeFromFirst}
use Rattle.ru_buffers.specs.Units.{IsReady, RadioKeeps, left_up_to}
use Rattle.ru_buffers.proofs.PlaceLemmas.{left_of_swept}
use Rattle.ru_buffers.proofs.SweptLemmas.{left_first, none_before, none_given_before, nothing_left, settled_left, settled_ready, some_first}
use Rattle.unit_model.proofs.ClaimLemmas.{none_used as unused}
use Rattle.fh_base.proofs.Orders.{at_most}
use Rattle.fh_base.proofs.Options.{some_is as some_equal}

-- ---- a cursor that is settled

max_is : (since clock now : ℤ) → now ≡ int_max since clock → since ≤ℤ clock → now ≡ clock
max_is since clock now e h = omega (arith, ints, clamps)

module _ (c : Config) (m : UnitMemory) (clock : ℤ) (cursor : JobCursor) (h : History) (keeps : RadioKeeps c m clock cursor h) where
  since_clock : cursor.since.0 ≤ℤ clock
  since_clock = same_then cursor.since.0 h.clock clock keeps.since keeps.clock_is

  begun_clock : first_clock ≤ℤ clock
  begun_clock = at_most first_clock cursor.since.0 clock keeps.begun since_clock

  -- nothing was heard of a slot that is not live yet
  far_not_heard : (e : EndpointConfig) (cell : Cell) → IsCell c e cell → cell.down ≡ true → IsFar e.numerology (ru_reach_of c.delays) cursor.since.0 cell.slot
      → list_any (cell_heard e cell) h.reported ≡ false
  far_not_heard e cell is down far = elim (cases_Bool (list_any (cell_heard e cell) h.reported)) [
    | inr none ↦ none
    | inl heard ↦
        absurd (not_both (used_mask ((ru_known c h.arrivals).claims cell))
        (unused ((ru_known c h.arrivals).claims cell) 12 (λ re.
        no_claims_ahead c cursor.since.0 h.arrivals e cell re keeps.holds.config.delays keeps.holds.came is.endpoint far))
        (keeps.told e cell is down heard))
  ]

  reports_at : (to : ℤ) → cursor.since.0 ≤ℤ to → (e : EndpointConfig) (cell : Cell) → IsCell c e cell → cell.down ≡ true → IsLiveAt c to cell.ep cell.slot
      → cells_reported m.cells cell ≡ list_any (cell_heard e cell) h.reported
  reports_at to order e cell is down live =
      elim (live_later e.numerology (ru_reach_of c.delays) cursor.since.0 to cell.slot order (live e is.endpoint)) [
        | inl now ↦ keeps.reports e cell is down (live_at Ru c cursor.since.0 e cell.ep cell.slot is.endpoint now)
        | inr far ↦
            far_not_reported Ru c cursor.since.0 m.cells (accepted_of c h.arrivals) (timely_of Ru c h.arrivals) e cell keeps.holds.keeps is.endpoint far
            ∙ sym (far_not_heard e cell is down far)
      ]

  module _ (next : JobCursor) (ready : IsReady m clock cursor) (settled : Settled clock cursor next) where
    since_is : next.since.0 ≡ clock
    since_is = max_is cursor.since.0 clock next.since.0 settled.since since_clock

    since_on : cursor.since.0 ≤ℤ next.since.0
    since_on = same_then cursor.since.0 clock next.since.0 since_clock since_is

    settle_is : IsSettled c m clock next h
    settle_is = record {
      kept = record {
        holds = holds_later Ru c cursor.since.0 next.since.0 m h.arrivals (cells_counted h.reported) since_on keeps.holds;
        clock_is = keeps.clock_is;
        time = keeps.time;
        begun = at_most first_clock cursor.since.0 next.since.0 keeps.begun since_on;
        since = since_now next.since.0 clock h.clock since_is keeps.clock_is;
        within = λ s is. keeps.within s (settled.last s is);
        reports = reports_at next.since.0 since_on;
        past = keeps.past;
        told = keeps.told;
        differ = keeps.differ;
        owed = keeps.owed;
        left = λ to. settled_left m.cells clock cursor next settled to begun_clock ready ∙ keeps.left to;
        given = keeps.given;
      };
      since = since_is;
      ready = settled_ready m.cells clock cursor next settled;
    }
      where
        since_now : (a b c : ℤ) → a ≡ b → b ≡ c → a ≤ℤ c
        since_now a b c e f = omega (arith, ints)

pub settle : Settles
settle c m clock cursor next h keeps ready settled = settle_is c m clock cursor h keeps next ready settled

-- ---- no message is left

module _ (c : Config) (m : UnitMemory) (clock : ℤ) (cursor : JobCursor) (h : History) (keeps : RadioKeeps c m clock cursor h) where
  quiet : (end : ℤ) (s : SymbolStart) → (IsSymbol m.cells s → told_of (jobs_left (cells_uplink m.cells) cursor) s ≡ [])
      → IsSweptIn (endpoints_of m.cells) first_clock end s → told_of (jobs_left (cells_uplink m.cells) cursor) s ≡ []
  quiet = left_of_swept c m h.arrivals (cells_counted h.reported) cursor.since.0 h.clock keeps.holds keeps.since keeps.time cursor

pub none_to_give : NoneToGive
none_to_give c m clock cursor h to keeps none =
    sym (keeps.left to) ∙ nothing_left m.cells cursor to (λ s is. quiet c m clock cursor h keeps (to +ℤ pos 1) s (none s) is)

pub none_before_first : NoneBeforeFirst
none_before_first c m clock cursor n h to keeps first early =
    sym (keeps.left to) ∙ none_before m.cells cursor n first keeps.begun (quiet c m clock cursor h keeps) to early

pub some_from_first : FirstIsFirst UplinkJob → SomeFromFirst
some_from_first first_is c m clock cursor n h to keeps fit first order none =
    some_first m.cells cursor n first keeps.begun (quiet c m clock cursor h keeps) first_is to fit order (keeps.left to ∙ none)

-- ---- the first message that is left

drop_more : (given all : List UplinkJob) (job : UplinkJob) → drop (length given) all ≡ [] → drop (length (given ++ job ∷ [])) all ≡ []
drop_more given all job none =
    ap (λ (k : ℕ). drop k all) (length-append given (job ∷ [])) ∙ sym (drop-drop 1 (length given) all) ∙ ap (drop 1) none

module _ (c : Config) (m : UnitMemory) (clock : ℤ) (cursor : JobCursor) (h : History) (keeps : RadioKeeps c m clock cursor h)
    (first_is : FirstIsFirst UplinkJob) (next : JobCursor) (n : NextJob) (fit : OffsetsFit n.symbol.endpoint.numerology)
    (first : IsFirstJob m.cells cursor n) (given : GivenOne m.cells cursor n next) where
  left_then : (to : ℤ) → n.symbol.start.0 ≤ℤ to → left_up_to m.cells cursor to ≡ n.job ∷ left_up_to m.cells next to
  left_then to order = left_first m.cells cursor n first keeps.begun (quiet c m clock cursor h keeps) next given first_is to fit order

  left_now : (to : ℤ) → left_up_to m.cells next to ≡ still_given c (accepted_of c h.arrivals) (h.given ++ n.job ∷ []) to
  left_now to =
      by_lt_z to n.symbol.start.0
      (λ early.
      none_given_before m.cells cursor n first keeps.begun (quiet c m clock cursor h keeps) next given to early
      ∙ sym (drop_more h.given (jobs c.endpoints (accepted_of c h.arrivals) to) n.job (none_before_first c m clock cursor n h to keeps first early)))
      (λ order. sym (given_in_order c (accepted_of c h.arrivals) h.given (n.job ∷ []) (left_up_to m.cells next to) to (sym (keeps.left to) ∙ left_then to order)))

  given_first : (to : ℤ) → n.symbol.start.0 ≤ℤ to
      → still_given c (accepted_of c h.arrivals) h.given to ≡ n.job ∷ still_given c (accepted_of c h.arrivals) (h.given ++ n.job ∷ []) to
  given_first to order = sym (keeps.left to) ∙ left_then to order ∙ ap (λ (xs : List UplinkJob). n.job ∷ xs) (left_now to)

  give_is : n.symbol.start.0 ≤ℤ clock → IsGiven c m clock n next h
  give_is order =
      let by : n.symbol.start.0 ≤ℤ h.clock = subst (λ (t : ℤ). n.symbol.start.0 ≤ℤ t) keeps.clock_is order in
      record {
        kept = record {
          holds = subst (λ t. Holds Ru c t.0 m h.arrivals (cells_counted h.reported)) (sym given.since) keeps.holds;
          clock_is = keeps.clock_is;
          time = keeps.time;
          begun = subst (λ t. first_clock ≤ℤ t.0) (sym given.since) keeps.begun;
          since = subst (λ t. t.0 ≤ℤ h.clock) (sym given.since) keeps.since;
          within = λ s is. subst (λ (x : SymbolStart). x.start.0 ≤ℤ h.clock) (some_equal n.symbol s (sym given.last ∙ is)) by;
          reports = subst
              (λ t. (e : EndpointConfig) (cell : Cell) → IsCell c e cell → cell.down ≡ true → IsLiveAt c t.0 cell.ep cell.slot
              → cells_reported m.cells cell ≡ list_any (cell_heard e cell) h.reported) (sym given.since) keeps.reports;
          past = keeps.past;
          told = keeps.told;
          differ = keeps.differ;
          owed = keeps.owed;
          left = left_now;
          given =
              append_assoc h.given (n.job ∷ []) (still_given c (accepted_of c h.arrivals) (h.given ++ n.job ∷ []) h.clock)
              ∙ ap (λ (xs : List UplinkJob). h.given ++ xs) (sym (given_first h.clock by)) ∙ keeps.given;
        };
        first = given_first clock order;
      }

pub give : FirstIsFirst UplinkJob → GivesFirst
give first_is c m clock cursor next n h keeps fit first order given = give_is c m clock cursor h keeps first_is next n fit first given order

pub ready_once_given : FirstIsFirst UplinkJob → ReadyOnceGiven
ready_once_given first_is c m clock cursor next n h to keeps fit first given ready =
    by_lt_z (to -ℤ pos 1) n.symbol.start.0
    (λ early. none_given_before m.cells cursor n first keeps.begun (quiet c m clock cursor h keeps) next given (to -ℤ pos 1) early)
    (λ order. absurd (some_first m.cells cursor n first keeps.begun (quiet c m clock cursor h keeps) first_is (to -ℤ pos 1) fit order ready))

-- ---- as time passes

-- what begins with these and goes on is these and all after them
goes_on : (given xs ys rest all : List UplinkJob) → given ++ xs ≡ ys → all ≡ ys ++ rest → given ++ drop (length given) all ≡ all
goes_on given xs ys rest all e f =
    let whole : all ≡ given ++ (xs ++ rest) = f ∙ ap (λ (l : List UplinkJob). l ++ rest) (sym e) ∙ append_assoc given xs rest in
    ap (λ (l : List UplinkJob). given ++ drop (length given) l) whole
    ∙ ap (λ (l : List UplinkJob). given ++ l) (drop_at given (xs ++ rest) (length given) refl)
    ∙ sym whole

pub later : KeptLater
later c m clock cursor h to keeps time order none =
    let begin = jobs_begin c.endpoints (accepted_of c h.arrivals) h.clock to (subst (λ (t : ℤ). t ≤ℤ to) keeps.clock_is order) in
    let on : h.clock ≤ℤ to = subst (λ (t : ℤ). t ≤ℤ to) keeps.clock_is order in
    record {
      holds = keeps.holds;
      clock_is = refl;
      time = time;
      begun = keeps.begun;
      since = at_most cursor.since.0 h.clock to keeps.since on;
      within = λ s is. at_most s.start.0 h.clock to (keeps.within s is) on;
      reports = keeps.reports;
      past = none;
      told = keeps.told;
      differ = keeps.differ;
      owed = keeps.owed;
      left = keeps.left;
      given = goes_on h.given (still_given c (accepted_of c h.arrivals) h.given h.clock) (jobs c.endpoints (accepted_of c h.arrivals) h.clock) begin.0
          (jobs c.endpoints (accepted_of c h.arrivals) to) keeps.given begin.1;
    }
