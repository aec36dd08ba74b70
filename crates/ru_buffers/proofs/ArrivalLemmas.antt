-- A unit stands for its history and an arrival, once that was treated.
use Rattle.std.proofs.Common.{◌≡◌, ℕ, ℤ, pos, ◌≤◌, ◌+ℤ◌, ◌≤ℤ◌, ◌<ℤ◌, ◌^◌, ◌||◌, ◌&&◌, Bool, false, List, [], ◌∷◌, ◌++◌, length, drop, refl, sym, ap, ap₂, ◌∙◌, subst, arith, length-append}
use Rattle.std.specs.Prelude.{Option, Some, None, int_lt}
use Rattle.std.specs.Ordering.{int_eq}
use Rattle.std.proofs.lemmas.Int.{ints, by_lt_z}
use Rattle.std.proofs.lemmas.List.{drop-append-le}
use Rattle.std.proofs.lemmas.List.Elements.{All-cons, All-weaker}
use Rattle.std.specs.Int.Signed.{≤ℤ_refl}
use Rattle.air_source.specs.declared.events.AirCell.{AirCell}
use Rattle.air_source.specs.declared.events.Side.TheVariants.{Ru}
use Rattle.window_config.specs.declared.config.Config.{Config}
use Rattle.window_config.specs.declared.endpoints.EndpointConfig.{EndpointConfig}
use Rattle.unit_model.specs.Counts.{cells_counted}
use Rattle.unit_model.specs.Meetings.{Arrival}
use Rattle.unit_model.specs.Order.{comes_before}
use Rattle.unit_model.specs.Proper.{IsTime}
use Rattle.unit_model.specs.Radiated.{first_clock}
use Rattle.unit_model.specs.Reports.{accepted_of, ru_known}
use Rattle.unit_model.specs.Standing.{History, IsOwed, arrived, still_given}
use Rattle.unit_model.specs.Starts.{start_at}
use Rattle.unit_model.specs.Sweeps.{sweep}
use Rattle.unit_model.specs.Uplink.{jobs, symbol_jobs}
use Rattle.unit_model.specs.declared.allocations.Allocation.{Allocation}
use Rattle.unit_model.specs.declared.jobs.UplinkJob.{UplinkJob}
use Rattle.unit_model.specs.declared.symbol_start.SymbolStart.{SymbolStart}
use Rattle.unit_laws.proofs.SentLemmas.{jobs_append}
use Rattle.unit_model.proofs.SweepLemmas.{sweep-append, sweep-same}
use Rattle.unit_cells.specs.Keeping.{SameReported}
use Rattle.unit_laws.specs.Arriving.{IsNextArrival}
use Rattle.unit_laws.proofs.ArrivingLemmas.{arrival_leaves_due, arrival_leaves_jobs, arrival_leaves_sent, arrival_leaves_use}
use Rattle.unit_laws.proofs.HistoryTicks.{before_next, after_all}
use Rattle.unit_symbols.specs.Cursors.{left_behind, left_jobs}
use Rattle.unit_symbols.specs.declared.cursor.JobCursor.{JobCursor}
use Rattle.unit_memory.specs.Memory.{Holds, arrival_at}
use Rattle.unit_memory.specs.declared.memory.UnitMemory.{UnitMemory}
use Rattle.ru_buffers.specs.Units.{IsWithin, RadioKeeps}
use Rattle.ru_buffers.proofs.HistoryLemmas.{since_small}
use Rattle.ru_buffers.proofs.LookupLemmas.{left_by_definition, left_of}
use Rattle.fh_base.proofs.Orders.{not_under_is as not_less, weak, next_later as next_most, at_most, next_order}
use Rattle.unit_model.proofs.ClaimLemmas.{start_before}
use Rattle.unit_model.proofs.InTimeLemmas.{in_time_later}

first_false : (a b e : Bool) → a ≡ false → b ≡ false → (a || (b && e)) ≡ false
first_false a b e p q = rw p (rw q refl)

not_same : (x y : ℤ) → x <ℤ y → int_eq y x ≡ false
not_same x y h = grind (arith, ints)

pub later_not_before : (f m : SymbolStart) → f.start.0 <ℤ m.start.0 → comes_before m f ≡ false
later_not_before f m h =
    first_false (int_lt m.start.0 f.start.0) (int_eq m.start.0 f.start.0) _ (not_less m.start.0 f.start.0 (weak f.start.0 m.start.0 h)) (not_same f.start.0 m.start.0 h)

-- of a symbol that starts after all that were given of, all messages are left
all_behind : (given : ℕ) (last : Option SymbolStart) (m : SymbolStart) (js : List UplinkJob)
    → ((f : SymbolStart) → last ≡ Some f → f.start.0 <ℤ m.start.0) → left_behind given last m js ≡ js
all_behind given None m js h = refl
all_behind given (Some f) m js h = rw (later_not_before f m (h f refl)) (rw (start_before f m (h f refl)) refl)

pub all_left : (cursor : JobCursor) (clock : ℤ) (m : SymbolStart) (js : List UplinkJob) → cursor.since.0 ≤ℤ clock → IsWithin clock cursor → clock <ℤ m.start.0
    → left_jobs cursor m js ≡ js
all_left cursor clock m js since within after =
    rw (not_less m.start.0 cursor.since.0 (at_most cursor.since.0 clock m.start.0 since (weak clock m.start.0 after)))
    (all_behind cursor.given cursor.last m js (λ f is. lesser f.start.0 clock m.start.0 (within f is) after))
  where
    lesser : (a b t : ℤ) → a ≤ℤ b → b <ℤ t → a <ℤ t
    lesser a b t h k = omega (arith, ints)

front_length : {A : Type 0} (xs ys all : List A) → xs ++ ys ≡ all → length xs ≤ length all
front_length xs ys all e = omega (arith, length-append xs ys, ap length e)

module _ (c : Config) (m m2 : UnitMemory) (clock : ℤ) (cursor : JobCursor) (h : History) (frame : List ℕ) (k : RadioKeeps c m clock cursor h)
    (settled : cursor.since.0 ≡ h.clock) (holds : Holds Ru c cursor.since.0 m2 (arrival_at h.clock frame ∷ h.arrivals) (cells_counted h.reported))
    (reports : SameReported Ru c cursor.since.0 m.cells m2.cells) where
  abbrev a : Arrival
  a = arrival_at h.clock frame

  abbrev acc : List Allocation
  acc = accepted_of c h.arrivals

  abbrev acc2 : List Allocation
  acc2 = accepted_of c (a ∷ h.arrivals)

  abbrev es : List EndpointConfig
  es = c.endpoints

  is_next : IsNextArrival c a h.arrivals
  is_next = record {
    limits = k.holds.config.delays;
    came = in_time_later cursor.since.0 h.clock h.arrivals k.since k.holds.came;
    times = All-cons (λ (x : Arrival). IsTime x.at) a h.arrivals k.time k.holds.times;
  }

  sent : (to : ℤ) → to ≤ℤ h.clock → jobs es acc2 to ≡ jobs es acc to
  sent to order = arrival_leaves_sent c a h.arrivals to is_next order

  small : cursor.since.0 ≤ℤ pos (2 ^ 53)
  small = since_small c m clock cursor h k

  left_before : (to : ℤ) → to ≤ℤ h.clock → sweep (left_of acc2 cursor) es first_clock (to +ℤ pos 1) ≡ still_given c acc h.given to
  left_before to order =
      sweep-same (left_of acc2 cursor) (left_of acc cursor) es first_clock (to +ℤ pos 1) (λ ep e slot symbol tick low high swept.
      ap (left_jobs cursor (start_at ep e slot symbol))
      (arrival_leaves_jobs c a h.arrivals ep e slot symbol is_next swept.endpoint
      (subst (λ (t : ℤ). t ≤ℤ h.clock) (sym swept.starts) (at_most tick to h.clock (before_next tick to high) order))))
      ∙ sym (left_by_definition c m cursor.since.0 h.arrivals (cells_counted h.reported) k.holds k.begun small cursor refl to)
      ∙ k.left to

  left_now : (to : ℤ) → sweep (left_of acc2 cursor) es first_clock (to +ℤ pos 1) ≡ still_given c acc2 h.given to
  left_now to =
      by_lt_z h.clock to
      (λ after.
      let mid = h.clock +ℤ pos 1 in
      let end = to +ℤ pos 1 in
      let order : h.clock ≤ℤ to = weak h.clock to after in
      let begun : first_clock ≤ℤ h.clock = at_most first_clock cursor.since.0 h.clock k.begun k.since in
      let behind : sweep (left_of acc2 cursor) es mid end ≡ sweep (symbol_jobs acc2) es mid end =
      sweep-same (left_of acc2 cursor) (symbol_jobs acc2) es mid end (λ ep e slot symbol tick low high swept.
      all_left cursor h.clock (start_at ep e slot symbol) (symbol_jobs acc2 ep e slot symbol) k.since k.within
      (subst (λ (t : ℤ). h.clock <ℤ t) (sym swept.starts) (after_all h.clock h.clock tick (≤ℤ_refl h.clock) low))) in
      let all : jobs es acc2 to ≡ jobs es acc h.clock ++ sweep (symbol_jobs acc2) es mid end =
      jobs_append es acc2 h.clock to begun order ∙ ap (λ (js : List UplinkJob). js ++ sweep (symbol_jobs acc2) es mid end) (sent h.clock (≤ℤ_refl h.clock)) in
      sweep-append (left_of acc2 cursor) es first_clock mid end (next_most first_clock h.clock begun) (next_order h.clock to order)
      ∙ ap₂ ◌++◌ (left_before h.clock (≤ℤ_refl h.clock)) behind
      ∙ sym (drop-append-le (length h.given) (jobs es acc h.clock) (sweep (symbol_jobs acc2) es mid end)
      (front_length h.given (still_given c acc h.given h.clock) (jobs es acc h.clock) k.given))
      ∙ ap (drop (length h.given)) (sym all))
      (λ before. left_before to before ∙ ap (drop (length h.given)) (sym (sent to before)))

  still_owed : (x : AirCell) → IsOwed Ru c (ru_known c h.arrivals) x → IsOwed Ru c (ru_known c (a ∷ h.arrivals)) x
  still_owed x o = record {
    endpoint = o.endpoint;
    cell = o.cell;
    is_cell = o.is_cell;
    down = o.down;
    of_cell = o.of_cell;
    starts = o.starts;
    used = arrival_leaves_use c a h.arrivals o.cell o.used;
  }

  pub delivered : RadioKeeps c m2 clock cursor (arrived h frame)
  delivered = record {
    holds = holds;
    clock_is = k.clock_is;
    time = k.time;
    begun = k.begun;
    since = k.since;
    within = k.within;
    reports = λ e cell is down live. reports e cell is live ∙ k.reports e cell is down live;
    past = arrival_leaves_due Ru c [] a h.arrivals h.reported h.clock is_next (≤ℤ_refl h.clock) ∙ k.past;
    told = λ e cell is down heard. arrival_leaves_use c a h.arrivals cell (k.told e cell is down heard);
    differ = k.differ;
    owed = All-weaker (IsOwed Ru c (ru_known c h.arrivals)) (IsOwed Ru c (ru_known c (a ∷ h.arrivals))) (λ x o. still_owed x o) h.reported k.owed;
    left = λ to.
        left_by_definition c m2 cursor.since.0 (a ∷ h.arrivals) (cells_counted h.reported) holds k.begun small cursor refl to ∙ left_now to;
    given = ap (λ (js : List UplinkJob). h.given ++ drop (length h.given) js) (sent h.clock (≤ℤ_refl h.clock)) ∙ k.given ∙ sym (sent h.clock (≤ℤ_refl h.clock));
  }
