-- The loop that reports symbol by symbol, and the calls above it.
use Rattle.std.proofs.Common.{◌≡◌, ℕ, suc, ℤ, pos, ◌-◌, ◌<◌, ◌≤◌, ◌≤ℤ◌, ◌<ℤ◌, ◌^◌, neg_ℤ, true, List, [], ◌∷◌, ◌++◌, length, map, refl, sym, ap, ◌∙◌, subst, arith, append-nil}
use Rattle.std.specs.Prelude.{Option, Some, None}
use Rattle.std.proofs.lemmas.Int.{ints}
use Rattle.std.proofs.lemmas.List.{map-append}
use Rattle.std.proofs.lemmas.Option.{slice_get_within}
use Rattle.fh_base.specs.declared.values.Ticks.{Ticks}
use Rattle.fh_base.proofs.Order.{slots_few, symbols_few}
use Rattle.air_source.specs.declared.events.AirCell.{AirCell}
use Rattle.air_source.specs.declared.events.Event.{Event}
use Rattle.air_source.specs.declared.events.Event.TheVariants.{Cell as Reported}
use Rattle.window_config.specs.declared.config.Config.{Config}
use Rattle.unit_model.specs.Order.{comes_before}
use Rattle.unit_model.specs.Standing.{History, heard}
use Rattle.unit_model.specs.declared.symbol_start.SymbolStart.{SymbolStart}
use Rattle.unit_laws.specs.Runs.{OffsetsFit}
use Rattle.unit_cells.specs.Cells.{CellsValue, endpoints_of}
use Rattle.unit_cells.specs.Keeping.{SameKnown}
use Rattle.unit_laws.proofs.FirstLemmas.{first_is_first, nothing_is_nothing}
use Rattle.unit_symbols.specs.Cursors.{IsFirstJob, Settled}
use Rattle.unit_symbols.specs.declared.cursor.JobCursor.{JobCursor}
use Rattle.unit_symbols.specs.declared.cursor.NextJob.{NextJob}
use Rattle.unit_memory.specs.declared.memory.UnitMemory.{UnitMemory}
use Rattle.unit_symbols.specs.DueSymbols.{StopsAtCell, left_at}
use Rattle.ru_buffers.specs.Advancing.{AfterReport, GoesOn, InOrder, IsNextReport, IsOver, StartsLater, ToldAll, rank_of, rank_past, ranks_left}
use Rattle.ru_buffers.specs.Calls.{IsNextMessage, IsNextSymbol, StandsFor, StopsAtDue}
use Rattle.ru_buffers.specs.JobLaws.{NothingIsLeft}
use Rattle.ru_buffers.specs.Reporting.{IsFirstLeft, IsFoundLeft, IsLeftAfter, HasReported, due_of}
use Rattle.ru_buffers.specs.Units.{IsReady, RadioStands}
use Rattle.ru_buffers.specs.declared.unit.Ru.{Ru}
use Rattle.ru_buffers.proofs.AdvanceLemmas.{begins_further, goes_further, goes_nowhere, goes_on, nothing_by, nothing_left, stops}
use Rattle.ru_buffers.proofs.CallLemmas.{stands_settled}
use Rattle.ru_buffers.proofs.NextLemmas.{message_known, message_settled}
use Rattle.ru_buffers.proofs.RankLemmas.{IsRanked, rank_below, rank_rises}
use Rattle.fh_base.specs.declared.symbols.TheConstants.{SLOT_SYMBOLS}

-- ---- one symbol

-- as a search finds it
pub first_next : (v : CellsValue) (clock : ℤ) (s : SymbolStart) → IsFoundLeft v clock s → IsFirstLeft v clock s
first_next v clock s found = record { symbol = found.was.symbol; after = found.was.after; first = found.first }

-- with another memory, and another next symbol
abbrev pub with_memory : Ru → UnitMemory → Option SymbolStart → Ru
with_memory u m o = record { memory = m; clock = u.clock; cursor = u.cursor; symbol = o; message = u.message }

-- what the unit answers by its memory
pub standing : (c : Config) (u : Ru) (h : History) → StandsFor c u h → RadioStands c u.memory u.clock.0 u.cursor h
standing c u h all = record { answers = all.answers; kept = all.kept }

-- and what is next
pub standing_with : (c : Config) (u : Ru) (h : History) → RadioStands c u.memory u.clock.0 u.cursor h → IsNextSymbol u.memory.cells u.clock.0 u.symbol
    → IsNextMessage u.memory.cells u.cursor u.message → StandsFor c u h
standing_with c u h all symbol message = record { answers = all.answers; kept = all.kept; symbol = symbol; message = message }

-- where only what is next may be another
pub standing_next : (c : Config) (u : Ru) (m : UnitMemory) (clock : Ticks) (cursor : JobCursor) (h : History) → u.memory ≡ m → u.clock ≡ clock → u.cursor ≡ cursor
    → RadioStands c m clock.0 cursor h → IsNextSymbol m.cells clock.0 u.symbol → IsNextMessage m.cells cursor u.message → StandsFor c u h
standing_next c u m clock cursor h same at stays all symbol message =
    standing_with c u h (rw (same, at, stays) all) (rw (same, at) symbol) (rw (same, stays) message)

later_none : (to : ℤ) (o : Option SymbolStart) → o ≡ None → StartsLater to o
later_none to o e = subst (StartsLater to) (sym e) tt

later_some : (to : ℤ) (s : SymbolStart) (o : Option SymbolStart) → o ≡ Some s → to <ℤ s.start.0 → StartsLater to o
later_some to s o e early = subst (StartsLater to) (sym e) early

pub over_none : {A : Type 0} (u : Ru) (air : A) (to : ℤ) (c : Config) (h : History) → StandsFor c u h → u.symbol ≡ None → IsOver c h to u u air air
over_none u air to c h all none =
    let found : IsNextSymbol u.memory.cells u.clock.0 None = subst (IsNextSymbol u.memory.cells u.clock.0) none all.symbol in
    record {
      due = nothing_left first_is_first nothing_is_nothing c u.memory u.clock.0 u.cursor h (standing c u h all) to (λ x left. absurd (found x left));
      unit = refl;
      air = refl;
      later = later_none to u.symbol none;
    }

-- the symbol that is kept is the first one
pub first_of : (u : Ru) (s : SymbolStart) → IsNextSymbol u.memory.cells u.clock.0 u.symbol → u.symbol ≡ Some s → IsFoundLeft u.memory.cells u.clock.0 s
first_of u s next is = subst (IsNextSymbol u.memory.cells u.clock.0) is next

pub message_of : (u : Ru) (n : NextJob) → IsNextMessage u.memory.cells u.cursor u.message → u.message ≡ Some n → IsFirstJob u.memory.cells u.cursor n
message_of u n next is = subst (IsNextMessage u.memory.cells u.cursor) is next

pub no_message_of : (u : Ru) → IsNextMessage u.memory.cells u.cursor u.message → u.message ≡ None → NothingIsLeft u.memory u.cursor
no_message_of u next is = subst (IsNextMessage u.memory.cells u.cursor) is next

pub over_later : {A : Type 0} (u : Ru) (air : A) (to : ℤ) (c : Config) (h : History) (s : SymbolStart) → StandsFor c u h → u.symbol ≡ Some s
    → to <ℤ s.start.0 → IsOver c h to u u air air
over_later u air to c h s all is early = record {
  due =
      nothing_by first_is_first nothing_is_nothing c u.memory u.clock.0 u.cursor h (standing c u h all) to s
      (first_next u.memory.cells u.clock.0 s (first_of u s all.symbol is)) early;
  unit = refl;
  air = refl;
  later = later_some to s u.symbol is early;
}

reported_then : (c : Config) (u : Ru) (m : UnitMemory) (o : Option SymbolStart) (s : SymbolStart) (told : List AirCell) (h : History) → RadioStands c m u.clock.0 u.cursor h
    → IsNextSymbol m.cells u.clock.0 o → HasReported s told u.memory m → IsNextMessage u.memory.cells u.cursor u.message → StandsFor c (with_memory u m o) h
reported_then c u m o s told h all next was_reported message =
    standing_with c (with_memory u m o) h all next (message_known u.memory.cells m.cells u.cursor was_reported.reports.known was_reported.reports.endpoints u.message message)

pub goes_to : {A : Type 0} (grew : A → List Event → A → Type 0) (u : Ru) (m : UnitMemory) (o : Option SymbolStart) (before after : A) (to : ℤ) (c : Config) (h : History)
    (s : SymbolStart) → IsNextSymbol m.cells u.clock.0 o → StandsFor c u h → OffsetsFit s.endpoint.numerology → IsFirstLeft u.memory.cells u.clock.0 s → s.start.0 ≤ℤ to
    → HasReported s (left_at u.memory.cells s) u.memory m → grew before (map Reported (left_at u.memory.cells s)) after → GoesOn grew c h to (with_memory u m o) before after
goes_to grew u m o before after to c h s next all fits first order was_reported told =
    let g = goes_on first_is_first nothing_is_nothing c u.memory u.clock.0 u.cursor h (standing c u h all) to m s fits first order was_reported in
    record {
      told = left_at u.memory.cells s;
      is = g.is;
      stands = reported_then c u m o s (left_at u.memory.cells s) (heard h (left_at u.memory.cells s)) g.stands next was_reported all.message;
      heard_is = told;
    }

pub stops_at : {A : Type 0} (grew : A → List Event → A → Type 0) (stopped : A → Event → A → Type 0) (u : Ru) (m : UnitMemory) (o : Option SymbolStart) (before after : A)
    (to : ℤ) (c : Config) (h : History) (s : SymbolStart) → IsNextSymbol m.cells u.clock.0 o → StandsFor c u h → OffsetsFit s.endpoint.numerology → IsFirstLeft u.memory.cells u.clock.0 s → s.start.0 ≤ℤ to
    → (stop : StopsAtCell grew stopped s u.memory.cells m.cells u.memory.counters m.counters before after) → m.endpoints ≡ u.memory.endpoints → m.assembly ≡ u.memory.assembly
    → StopsAtDue grew stopped c h to (with_memory u m o) before after
stops_at grew stopped u m o before after to c h s next all fits first order stop endpoints assembly =
    let was_reported : HasReported s stop.told u.memory m = record { more = stop.cell ∷ stop.rest; left = stop.is; reports = stop.reports; counts = stop.counts; endpoints = endpoints; assembly = assembly } in
    let b = stops first_is_first nothing_is_nothing c u.memory u.clock.0 u.cursor h (standing c u h all) to m s stop.told stop.rest stop.cell fits first order stop.is was_reported in
    record { told = stop.told; cell = stop.cell; rest = b.rest; is = b.is; stands = reported_then c u m o s stop.told (heard h stop.told) b.stands next was_reported all.message; middle = stop.middle; heard_is = stop.heard; stop = stop.stop }

-- at a cursor that is settled
abbrev pub settled_unit : Ru → JobCursor → Ru
settled_unit u next = record { memory = u.memory; clock = u.clock; cursor = next; symbol = u.symbol; message = u.message }

pub stands_settled_unit : (c : Config) (u : Ru) (next : JobCursor) (h : History) → StandsFor c u h → IsReady u.memory u.clock.0 u.cursor → Settled u.clock.0 u.cursor next
    → StandsFor c (settled_unit u next) h
stands_settled_unit c u next h all ready settled =
    standing_with c (settled_unit u next) h (stands_settled c u.memory u.clock.0 u.cursor next h (standing c u h all) ready settled) all.symbol
    (message_settled c u.memory u.clock.0 u.cursor next h all.kept ready settled u.message all.message)

-- ---- one after the other

-- the last symbol that was reported: what is left is of symbols that are after it
pub record IsLast (clock to : ℤ) (m : SymbolStart) (v : CellsValue) : Type 0 where
  pub ranked : IsRanked m
  pub by : m.start.0 ≤ℤ to
  pub rest : (x : SymbolStart) → IsLeftAfter v clock x → comes_before m x ≡ true

pub record IsReporting {A : Type 0} (grew : A → List Event → A → Type 0) (same : A → A → Type 0) (faults : A → ℕ) (to : ℤ) (start now : Ru) (before air : A)
    (last : Option SymbolStart) : Type 0 where
  pub goes : (c : Config) (h : History) → StandsFor c start h → GoesOn grew c h to now before air
  pub order : (m : SymbolStart) → last ≡ Some m → IsLast start.clock.0 to m now.memory.cells
  pub clock : now.clock ≡ start.clock
  pub cursor : now.cursor ≡ start.cursor
  pub next : IsNextSymbol now.memory.cells now.clock.0 now.symbol
  pub known : SameKnown start.memory.cells now.memory.cells
  pub endpoints : endpoints_of now.memory.cells ≡ endpoints_of start.memory.cells
  pub same_air : same before air
  pub still : faults air ≡ faults before

none_yet : {A : Type 0} (grew : A → List Event → A → Type 0) → ((a : A) → grew a [] a) → (u : Ru) (air : A) (to : ℤ) (c : Config) (h : History) → StandsFor c u h
    → GoesOn grew c h to u air air
none_yet grew empty u air to c h all =
    let g = goes_nowhere c u.memory u.clock.0 u.cursor h to (standing c u h all) in
    record { told = []; is = g.is; stands = standing_with c u (heard h []) g.stands all.symbol all.message; heard_is = empty air }

no_symbol : (m : SymbolStart) → (let none : Option SymbolStart = None in none ≡ Some m) → ⊥
no_symbol m e = cc

same_known : (v : CellsValue) → SameKnown v v
same_known v = record { claims = λ cell re. refl; blocks = λ cell. refl; uplink = λ ep slot. refl; places = λ ep slot. refl }

pub reporting_starts : {A : Type 0} (grew : A → List Event → A → Type 0) (same : A → A → Type 0) (faults : A → ℕ) (to : ℤ) (u : Ru) (air : A)
    → ((a : A) → grew a [] a) → ((a : A) → same a a) → IsNextSymbol u.memory.cells u.clock.0 u.symbol → IsReporting grew same faults to u u air air None
reporting_starts grew same faults to u air empty unchanged next = record {
  next = next;
  goes = λ c h all. none_yet grew empty u air to c h all;
  order = λ m e. absurd (no_symbol m e);
  clock = refl;
  cursor = refl;
  known = same_known u.memory.cells;
  endpoints = refl;
  same_air = unchanged air;
  still = refl;
}

at_clock : (to_clock clock : Ticks) (to : ℤ) (m : SymbolStart) (old new : CellsValue) → to_clock ≡ clock → IsNextReport to_clock.0 to m old new → IsNextReport clock.0 to m old new
at_clock a b to m old new e is = subst (λ (t : Ticks). IsNextReport t.0 to m old new) e is

known_then : (a b d : CellsValue) → SameKnown a b → SameKnown b d → SameKnown a d
known_then a b d p q = record {
  claims = λ cell re. q.claims cell re ∙ p.claims cell re;
  blocks = λ cell. q.blocks cell ∙ p.blocks cell;
  uplink = λ ep slot. q.uplink ep slot ∙ p.uplink ep slot;
  places = λ ep slot. q.places ep slot ∙ p.places ep slot;
}

pub goes_then : {A : Type 0} (grew : A → List Event → A → Type 0) → ((a b d : A) (xs ys : List Event) → grew a xs b → grew b ys d → grew a (xs ++ ys) d)
    → (to : ℤ) (middle new : Ru) (before air after : A) (c : Config) (h : History) → (one : GoesOn grew c h to middle before air)
    → GoesOn grew c (heard h one.told) to new air after → GoesOn grew c h to new before after
goes_then grew more to middle new before air after c h one two =
    let g = goes_further c new.memory new.clock.0 new.cursor h to one.told two.told one.is (record { is = two.is; stands = standing c new (heard (heard h one.told) two.told) two.stands }) in
    record {
      told = one.told ++ two.told;
      is = g.is;
      stands = standing_with c new (heard h (one.told ++ two.told)) g.stands two.stands.symbol two.stands.message;
      heard_is =
          subst (λ (xs : List Event). grew before xs after) (sym (map-append (λ x. Reported x) one.told two.told))
          (more before air after (map Reported one.told) (map Reported two.told) one.heard_is two.heard_is);
    }

pub stops_then : {A : Type 0} (grew : A → List Event → A → Type 0) (stopped : A → Event → A → Type 0)
    → ((a b d : A) (xs ys : List Event) → grew a xs b → grew b ys d → grew a (xs ++ ys) d)
    → (to : ℤ) (middle new : Ru) (before air after : A) (c : Config) (h : History) → (one : GoesOn grew c h to middle before air)
    → StopsAtDue grew stopped c (heard h one.told) to new air after → StopsAtDue grew stopped c h to new before after
stops_then grew stopped more to middle new before air after c h one two =
    let b = begins_further c new.memory new.clock.0 new.cursor h to one.told two.told two.cell one.is (record { rest = two.rest; is = two.is; stands = standing c new (heard (heard h one.told) two.told) two.stands }) in
    record {
      told = one.told ++ two.told;
      cell = two.cell;
      rest = b.rest;
      is = b.is;
      stands = standing_with c new (heard h (one.told ++ two.told)) b.stands two.stands.symbol two.stands.message;
      middle = two.middle;
      heard_is =
          subst (λ (xs : List Event). grew before xs two.middle) (sym (map-append (λ x. Reported x) one.told two.told))
          (more before air two.middle (map Reported one.told) (map Reported two.told) one.heard_is two.heard_is);
      stop = two.stop;
    }

-- where nothing is due any more, all that was due was told
pub all_told : {A : Type 0} (grew : A → List Event → A → Type 0) (to : ℤ) (old new : Ru) (before air after : A) (c : Config) (h : History) → (one : GoesOn grew c h to old before air)
    → IsOver c (heard h one.told) to old new air after → one.told ≡ due_of c h to
all_told grew to old new before air after c h one over =
    sym (one.is ∙ ap (λ (xs : List AirCell). one.told ++ xs) over.due ∙ append-nil one.told)

frame_low : (f : ℤ) → neg_ℤ (pos 1000000) ≤ℤ f → neg_ℤ (pos (2 ^ 21)) ≤ℤ f
frame_low f h = omega (arith, ints)

frame_high : (f : ℤ) → f ≤ℤ pos 1000000 → f <ℤ pos (2 ^ 21)
frame_high f h = omega (arith, ints)

from_clock : (clock t : ℤ) → neg_ℤ (pos (2 ^ 57)) ≤ℤ clock → clock <ℤ t → neg_ℤ (pos (2 ^ 57)) ≤ℤ t
from_clock clock t h k = omega (arith, ints)

small_ep : (ep n : ℕ) → ep < n → n ≤ 16 → ep < 2 ^ 64
small_ep ep n h k = omega arith

small_slot : (x n : ℕ) → x < n → n ≤ 16 → x < 256
small_slot x n h k = omega arith

small_symbol : (x n : ℕ) → x < n → n ≤ SLOT_SYMBOLS → x < 256
small_symbol x n h k = omega arith

small_subframe : (x : ℕ) → x < 10 → x < 16
small_subframe x h = omega arith

pub is_ranked : (v : CellsValue) (clock : ℤ) (m : SymbolStart) → length (endpoints_of v) ≤ 16 → neg_ℤ (pos (2 ^ 57)) ≤ℤ clock → IsLeftAfter v clock m → IsRanked m
is_ranked v clock m few low left =
    let is = left.symbol in
    let n = m.endpoint.numerology in
    record {
      low = from_clock clock m.start.0 low left.after;
      ep = small_ep m.ep (length (endpoints_of v)) (slice_get_within (endpoints_of v) m.ep m.endpoint is.at) few;
      frame_low = frame_low m.slot.frame is.slot_is.low;
      frame_high = frame_high m.slot.frame is.slot_is.high;
      subframe = small_subframe m.slot.subframe is.slot_is.subframe;
      slot = small_slot m.slot.slot _ is.slot_is.slot_is (slots_few n).1;
      symbol = small_symbol m.symbol _ is.symbol_is (symbols_few n).1;
    }

-- a symbol was reported after the last one, so fewer places are left
rises_less : (a b top : ℕ) → a < b → b < top → top - b < top - a
rises_less a b top h k = omega arith

first_less : (b top : ℕ) → b < top → top - b < suc top
first_less b top h = omega arith

pub ranks_fall : (clock to : ℤ) (last : Option SymbolStart) (m : SymbolStart) (v new : CellsValue) → length (endpoints_of v) ≤ 16 → neg_ℤ (pos (2 ^ 57)) ≤ℤ clock
    → ((x : SymbolStart) → last ≡ Some x → IsLast clock to x v) → IsNextReport clock to m v new → ranks_left to (Some m) < ranks_left to last
ranks_fall clock to None m v new few low order next =
    first_less (rank_of m) (rank_past to) (rank_below m to (is_ranked v clock m few low next.was) next.by)
ranks_fall clock to (Some x) m v new few low order next =
    let is = order x refl in
    let ranked = is_ranked v clock m few low next.was in
    rises_less (rank_of x) (rank_of m) (rank_past to) (rank_rises x m is.ranked ranked (is.rest m next.was)) (rank_below m to ranked next.by)

some_is : (m x : SymbolStart) → (let s : Option SymbolStart = Some m in s ≡ Some x) → m ≡ x
some_is m x e = ap (λ (o : Option SymbolStart). get_or_self o) e
  where
    get_or_self : Option SymbolStart → SymbolStart
    get_or_self None = m
    get_or_self (Some y) = y

few_next : (a b : CellsValue) → endpoints_of b ≡ endpoints_of a → length (endpoints_of a) ≤ 16 → length (endpoints_of b) ≤ 16
few_next a b e h = subst (λ xs. length xs ≤ 16) (sym e) h

-- one more symbol was reported
pub reporting_goes : {A : Type 0} (grew : A → List Event → A → Type 0) (same : A → A → Type 0) (faults : A → ℕ) (to : ℤ) (start now new : Ru) (before air after : A)
    (last : Option SymbolStart) (m : SymbolStart) → ((a b d : A) (xs ys : List Event) → grew a xs b → grew b ys d → grew a (xs ++ ys) d)
    → ((a b d : A) → same a b → same b d → same a d) → length (endpoints_of start.memory.cells) ≤ 16 → neg_ℤ (pos (2 ^ 57)) ≤ℤ start.clock.0
    → IsReporting grew same faults to start now before air last
    → ((c : Config) (h : History) → StandsFor c now h → GoesOn grew c h to new air after) → IsNextReport now.clock.0 to m now.memory.cells new.memory.cells
    → new.clock ≡ now.clock → new.cursor ≡ now.cursor → IsNextSymbol new.memory.cells new.clock.0 new.symbol → SameKnown now.memory.cells new.memory.cells → endpoints_of new.memory.cells ≡ endpoints_of now.memory.cells
    → same air after → faults after ≡ faults air → IsReporting grew same faults to start new before after (Some m)
reporting_goes grew same faults to start now new before air after last m more same_more few low r told next clock cursor first known endpoints same_then still =
    let next_at = at_clock now.clock start.clock to m now.memory.cells new.memory.cells r.clock next in
    record {
      goes = λ c h all. goes_then grew more to now new before air after c h (r.goes c h all) (told c (heard h (r.goes c h all).told) (r.goes c h all).stands);
      order = λ x e. subst (λ (y : SymbolStart). IsLast start.clock.0 to y new.memory.cells) (some_is m x e) (record {
        ranked = is_ranked now.memory.cells start.clock.0 m (few_next start.memory.cells now.memory.cells r.endpoints few) low next_at.was;
        by = next_at.by;
        rest = next_at.rest;
      });
      clock = clock ∙ r.clock;
      cursor = cursor ∙ r.cursor;
      next = first;
      known = known_then start.memory.cells now.memory.cells new.memory.cells r.known known;
      endpoints = endpoints ∙ r.endpoints;
      same_air = same_more before air after r.same_air same_then;
      still = still ∙ r.still;
    }

pub loop_falls : {A : Type 0} (grew : A → List Event → A → Type 0) (same : A → A → Type 0) (faults : A → ℕ) (to : ℤ) (start now new : Ru) (before air : A)
    (last : Option SymbolStart) (m : SymbolStart) → length (endpoints_of start.memory.cells) ≤ 16 → neg_ℤ (pos (2 ^ 57)) ≤ℤ start.clock.0
    → IsReporting grew same faults to start now before air last → IsNextReport now.clock.0 to m now.memory.cells new.memory.cells
    → ranks_left to (Some m) < ranks_left to last
loop_falls grew same faults to start now new before air last m few low r next =
    ranks_fall start.clock.0 to last m now.memory.cells new.memory.cells (few_next start.memory.cells now.memory.cells r.endpoints few) low r.order
    (at_clock now.clock start.clock to m now.memory.cells new.memory.cells r.clock next)

-- nothing more is due
pub told_over : {A : Type 0} (grew : A → List Event → A → Type 0) (to : ℤ) (old new : Ru) (before air after : A) (c : Config) (h : History) → (one : GoesOn grew c h to old before air)
    → IsOver c (heard h one.told) to old new air after → ToldAll grew c h to new before after
told_over grew to old new before air after c h one over =
    let all : one.told ≡ due_of c h to = all_told grew to old new before air after c h one over in
    record {
      stands = subst (λ (xs : List AirCell). StandsFor c new (heard h xs)) all (subst (λ (x : Ru). StandsFor c x (heard h one.told)) (sym over.unit) one.stands);
      over = subst (λ (xs : List AirCell). due_of c (heard h xs) to ≡ []) all over.due;
      later = subst (λ (x : Ru). StartsLater to x.symbol) (sym over.unit) over.later;
      heard_is = subst (λ (xs : List AirCell). grew before (map Reported xs) after) all (subst (λ x. grew before (map Reported one.told) x) (sym over.air) one.heard_is);
    }

-- ---- answers by cases

pub next_some : (clock to : ℤ) (old new : CellsValue) (o : Option SymbolStart) (m : SymbolStart) → o ≡ Some m → InOrder clock to old new o → IsNextReport clock to m old new
next_some clock to old new o m e is = subst (InOrder clock to old new) e is

pub goes_some : {A : Type 0} (grew : A → List Event → A → Type 0) (c : Config) (h : History) (to : ℤ) (old new : Ru) (before after : A) (o : Option SymbolStart) (m : SymbolStart)
    → o ≡ Some m → AfterReport grew c h to old new before after o → GoesOn grew c h to new before after
goes_some grew c h to old new before after o m e is = subst (AfterReport grew c h to old new before after) e is

pub over_at_none : {A : Type 0} (grew : A → List Event → A → Type 0) (c : Config) (h : History) (to : ℤ) (old new : Ru) (before after : A) (o : Option SymbolStart)
    → o ≡ None → AfterReport grew c h to old new before after o → IsOver c h to old new before after
over_at_none grew c h to old new before after o e is = subst (AfterReport grew c h to old new before after) e is
