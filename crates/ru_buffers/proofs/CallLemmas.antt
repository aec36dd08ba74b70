-- What the calls of the unit rest on.
use Rattle.std.proofs.Common.{◌≡◌, ℕ, ℤ, pos, ◌≤ℤ◌, ◌<ℤ◌, ◌+ℤ◌, ◌-ℤ◌, List, [], ◌∷◌, length, true, false, inl, inr, sym, ap, ◌∙◌, subst, arith}
use Rattle.std.specs.Prelude.{All, Option, Some, None, int_lt}
use Rattle.std.proofs.lemmas.Bool.{cases_Bool}
use Rattle.std.proofs.lemmas.Int.{ints}
use Rattle.std.proofs.lemmas.List.Elements.{All-drop, All-head}
use Rattle.fault_counters.specs.declared.kinds.Counter.{Counter}
use Rattle.air_source.specs.declared.events.Side.TheVariants.{Ru}
use Rattle.window_config.specs.declared.config.Config.{Config}
use Rattle.unit_model.specs.Counts.{cells_counted}
use Rattle.unit_model.specs.Meetings.{Arrival}
use Rattle.unit_model.specs.Radiated.{first_clock}
use Rattle.unit_model.specs.Proper.{IsTime}
use Rattle.unit_model.specs.ProperJobs.{IsProperJob}
use Rattle.unit_model.specs.Reports.{accepted_of}
use Rattle.unit_model.specs.Uplink.{jobs}
use Rattle.unit_model.specs.declared.jobs.UplinkJob.{UplinkJob}
use Rattle.unit_laws.proofs.SendingLemmas.{jobs_are_proper}
use Rattle.unit_model.specs.Standing.{History, arrived, at_clock, handed, nothing_yet, owed_until}
use Rattle.unit_model.specs.declared.symbol_start.SymbolStart.{SymbolStart}
use Rattle.unit_laws.specs.Runs.{OffsetsFit}
use Rattle.fh_base.specs.declared.values.Ticks.{Ticks}
use Rattle.unit_laws.proofs.FirstLemmas.{first_is_first, nothing_is_nothing}
use Rattle.unit_model.specs.Starts.{start_at}
use Rattle.unit_model.specs.declared.cells.Cell.{Cell}
use Rattle.unit_model.proofs.SweepLemmas.{tick-nothing}
use Rattle.unit_cells.specs.Cells.{CellsValue, cells_reported, cells_uplink, endpoints_of}
use Rattle.unit_cells.specs.Keeping.{SameKnown, SameReported}
use Rattle.unit_symbols.specs.Cursors.{GivenOne, IsFirstJob, Settled, jobs_left}
use Rattle.unit_symbols.specs.declared.cursor.NextJob.{NextJob}
use Rattle.unit_symbols.specs.DueSymbols.{is_left}
use Rattle.unit_symbols.specs.Symbols.{IsSymbol}
use Rattle.unit_symbols.specs.declared.cursor.JobCursor.{JobCursor}
use Rattle.unit_memory.specs.Memory.{Holds, HoldsSome, arrival_at}
use Rattle.unit_memory.specs.declared.memory.UnitMemory.{UnitMemory}
use Rattle.ru_buffers.specs.Calls.{IsCellMoment, IsDue, IsMessageMoment}
use Rattle.fh_base.specs.Least.{IsLeast, earlier_time}
use Rattle.ru_buffers.specs.JobLaws.{IsSettled, NothingIsLeft}
use Rattle.ru_buffers.specs.Reporting.{IsFirstLeft, due_of}
use Rattle.ru_buffers.specs.Units.{IsReady, RadioStands, left_up_to}
use Rattle.ru_buffers.proofs.ArrivalLemmas.{delivered}
use Rattle.ru_buffers.proofs.HistoryLemmas.{stands}
use Rattle.ru_buffers.proofs.JobLemmas.{give, later, none_before_first, none_to_give, ready_once_given, settle, some_from_first}
use Rattle.ru_buffers.proofs.ReportedLemmas.{left_same}
use Rattle.ru_buffers.proofs.QuietLemmas.{left_less}
use Rattle.ru_buffers.proofs.ReportLemmas.{nothing_before_first, nothing_is_due, something_at_first}
use Rattle.ru_buffers.proofs.MadeLemmas.{made, no_messages}
use Rattle.unit_model.proofs.SweepLaws.{sweep_quiet as sweep-nothing}

-- ---- a unit that was made

since_is : (cursor : JobCursor) (t : ℤ) → (let r : JobCursor = record { since = record { 0 = t }; last = None; given = 0 } in cursor ≡ r) → (cursor.since.0 ≡ t)
since_is cursor t e = ap (λ (x : JobCursor). x.since.0) e

pub stands_made : (c : Config) (m : UnitMemory) (cursor : JobCursor) → ((clock : ℤ) → Holds Ru c clock m [] []) → ((cell : Cell) → cells_reported m.cells cell ≡ false)
    → (let r : JobCursor = record { since = record { 0 = first_clock }; last = None; given = 0 } in cursor ≡ r) → RadioStands c m first_clock cursor nothing_yet
stands_made c m cursor holds unreported is =
    stands c m first_clock cursor nothing_yet (made c m cursor holds unreported (since_is cursor first_clock is) (ap (λ (x : JobCursor). x.last) is))

-- nothing was to be given before its clock
pub given_made : (c : Config) (m : UnitMemory) (clock : ℤ) (cursor : JobCursor) → RadioStands c m clock cursor nothing_yet → IsReady m clock cursor
given_made c m clock cursor all = all.kept.left (clock -ℤ pos 1) ∙ no_messages c (clock -ℤ pos 1) all.kept.holds.config.delays

-- ---- a cursor that is settled

before_clock : (clock tick : ℤ) → tick <ℤ ((clock -ℤ pos 1) +ℤ pos 1) → tick <ℤ clock
before_clock clock tick h = omega (arith, ints)

-- nothing is left of symbols that start before it
pub ready_settled : (v : CellsValue) (clock : ℤ) (cursor next : JobCursor) → Settled clock cursor next → left_up_to v next (clock -ℤ pos 1) ≡ []
unfolding left_up_to
ready_settled v clock cursor next settled =
    let g = jobs_left (cells_uplink v) next in
    sweep-nothing g (endpoints_of v) first_clock ((clock -ℤ pos 1) +ℤ pos 1) (λ tick low high.
    tick-nothing g (endpoints_of v) tick (λ ep e slot symbol swept.
    settled.before (cells_uplink v) (start_at ep e slot symbol) (subst (λ (t : ℤ). t <ℤ clock) (sym swept.starts) (before_clock clock tick high))))

module _ (c : Config) (m : UnitMemory) (clock : ℤ) (cursor next : JobCursor) (h : History) (all : RadioStands c m clock cursor h) (ready : IsReady m clock cursor)
    (settled : Settled clock cursor next) where
  pub settled_is : IsSettled c m clock next h
  settled_is = settle c m clock cursor next h all.kept ready settled

  pub stands_settled : RadioStands c m clock next h
  stands_settled = stands c m clock next h settled_is.kept

  pub holds_now : Holds Ru c clock m h.arrivals (cells_counted h.reported)
  holds_now = subst (λ (t : ℤ). Holds Ru c t m h.arrivals (cells_counted h.reported)) settled_is.since settled_is.kept.holds

  pub holds_some : HoldsSome clock m
  holds_some = record { side = Ru; config = c; arrivals = h.arrivals; beside = cells_counted h.reported; holds = holds_now }

  pub stands_delivered : (m2 : UnitMemory) (frame : List ℕ)
      → ((arrivals : List Arrival) (beside : List Counter) → Holds Ru c clock m arrivals beside → Holds Ru c clock m2 (arrival_at clock frame ∷ arrivals) beside)
      → SameReported Ru c clock m.cells m2.cells → RadioStands c m2 clock next (arrived h frame)
  stands_delivered m2 frame holds reports =
      let beside = cells_counted h.reported in
      let at_clock : Holds Ru c clock m2 (arrival_at h.clock frame ∷ h.arrivals) beside =
      subst (λ (t : ℤ). Holds Ru c clock m2 (arrival_at t frame ∷ h.arrivals) beside) settled_is.kept.clock_is (holds h.arrivals beside holds_now) in
      stands c m2 clock next (arrived h frame)
      (delivered c m m2 clock next h frame settled_is.kept (settled_is.since ∙ settled_is.kept.clock_is)
      (subst (λ (t : ℤ). Holds Ru c t m2 (arrival_at h.clock frame ∷ h.arrivals) beside) (sym settled_is.since) at_clock)
      (subst (λ (t : ℤ). SameReported Ru c t m.cells m2.cells) (sym settled_is.since) reports))

-- ---- as the clock goes on

pub stands_later : (c : Config) (m : UnitMemory) (clock was : ℤ) (cursor : JobCursor) (h : History) (to : ℤ) → RadioStands c m clock cursor h → clock ≡ was → IsTime to → was ≤ℤ to
    → due_of c h to ≡ [] → RadioStands c m to cursor (at_clock h to)
stands_later c m clock was cursor h to all same time order none =
    stands c m to cursor (at_clock h to) (later c m clock cursor h to all.kept time (subst (λ (t : ℤ). t ≤ℤ to) (sym same) order) none)

pub ready_known : (old new : CellsValue) (next cursor : JobCursor) (clock was : Ticks) → SameKnown old new → endpoints_of new ≡ endpoints_of old → cursor ≡ next → clock ≡ was
    → left_up_to old next (was.0 -ℤ pos 1) ≡ [] → left_up_to new cursor (clock.0 -ℤ pos 1) ≡ []
ready_known old new next cursor clock was known endpoints same now ready =
    ap (λ (k : JobCursor). left_up_to new k (clock.0 -ℤ pos 1)) same
    ∙ ap (λ (t : Ticks). left_up_to new next (t.0 -ℤ pos 1)) now
    ∙ left_same old new next (was.0 -ℤ pos 1) endpoints known.uplink
    ∙ ready

-- ---- messages

module _ (c : Config) (m : UnitMemory) (clock : ℤ) (cursor : JobCursor) (h : History) (all : RadioStands c m clock cursor h) where
  pub none_at_clock : NothingIsLeft m cursor → owed_until c h h.clock ≡ []
  none_at_clock none = none_to_give c m clock cursor h h.clock all.kept none

  pub none_by_clock : (n : NextJob) → IsFirstJob m.cells cursor n → clock <ℤ n.symbol.start.0 → owed_until c h h.clock ≡ []
  none_by_clock n first early =
      none_before_first c m clock cursor n h h.clock all.kept first (subst (λ (t : ℤ). t <ℤ n.symbol.start.0) all.kept.clock_is early)

  pub gives_proper : (job : UplinkJob) (rest : List UplinkJob) → owed_until c h h.clock ≡ job ∷ rest → IsProperJob c.endpoints h.clock job
  gives_proper job rest is =
      let P = IsProperJob c.endpoints h.clock in
      All-head P job rest
      (subst (All P) is
      (All-drop P (length h.given) (jobs c.endpoints (accepted_of c h.arrivals) h.clock)
      (jobs_are_proper c cursor.since.0 h.arrivals h.clock all.kept.holds.came all.kept.holds.times)))

  -- where none is to be given by the clock, none was to be given before it
  pub ready_where_quiet : owed_until c h h.clock ≡ [] → IsReady m clock cursor
  ready_where_quiet none = left_less m.cells cursor (clock -ℤ pos 1) h.clock (last_by clock h.clock all.kept.clock_is) (all.kept.left h.clock ∙ none)
    where
      last_by : (a b : ℤ) → a ≡ b → (a -ℤ pos 1) ≤ℤ b
      last_by a b same = omega (arith, ints)

  pub gives : (next : JobCursor) (n : NextJob) → OffsetsFit n.symbol.endpoint.numerology → IsFirstJob m.cells cursor n → n.symbol.start.0 ≤ℤ clock
      → GivenOne m.cells cursor n next → (owed_until c h h.clock ≡ n.job ∷ owed_until c (handed h n.job) h.clock) × RadioStands c m clock next (handed h n.job)
  gives next n fits first by given =
      let is = give first_is_first c m clock cursor next n h all.kept fits first by given in
      (subst (λ (t : ℤ). owed_until c h t ≡ n.job ∷ owed_until c (handed h n.job) t) all.kept.clock_is is.first, stands c m clock next (handed h n.job) is.kept)

  pub still_ready : (next : JobCursor) (n : NextJob) (to : ℤ) → OffsetsFit n.symbol.endpoint.numerology → IsFirstJob m.cells cursor n → GivenOne m.cells cursor n next
      → IsReady m to cursor → IsReady m to next
  still_ready next n to fits first given ready = ready_once_given first_is_first c m clock cursor next n h to all.kept fits first given ready

  -- ---- moments

  pub message_moment : (n : NextJob) → OffsetsFit n.symbol.endpoint.numerology → IsFirstJob m.cells cursor n → IsLeast (λ to. owed_until c h to ≡ []) n.symbol.start.0
  message_moment n fits first = record {
    before = λ to early. none_before_first c m clock cursor n h to all.kept first early;
    at = some_from_first first_is_first c m clock cursor n h n.symbol.start.0 all.kept fits first (same_most n.symbol.start.0);
  }
    where
      same_most : (a : ℤ) → a ≤ℤ a
      same_most a = omega (arith, ints)

  pub no_message : NothingIsLeft m cursor → (to : ℤ) → owed_until c h to ≡ []
  no_message none to = none_to_give c m clock cursor h to all.kept none

  pub cell_moment : (s : SymbolStart) → OffsetsFit s.endpoint.numerology → IsFirstLeft m.cells clock s → is_left m.cells s ≡ true → IsLeast (λ to. due_of c h to ≡ []) s.start.0
  cell_moment s fits first left = record {
    before = λ to early. nothing_before_first c m clock cursor h s to nothing_is_nothing all.kept first early;
    at = something_at_first c m clock cursor h s first_is_first all.kept fits first left;
  }

  pub no_cell : ((x : SymbolStart) → IsSymbol m.cells x → clock <ℤ x.start.0 → is_left m.cells x ≡ true → ⊥) → (to : ℤ) → due_of c h to ≡ []
  no_cell none to = nothing_is_due c m clock cursor h to nothing_is_nothing all.kept (λ x left. absurd (none x left.symbol left.after left.left))

later_too : (to a b : ℤ) → to <ℤ a → int_lt b a ≡ false → to <ℤ b
later_too to a b h k = grind (arith, ints)

sooner_too : (to a b : ℤ) → to <ℤ b → int_lt b a ≡ true → to <ℤ a
sooner_too to a b h k = grind (arith, ints)

-- the earlier one of both
pub due_is : (c : Config) (h : History) (a b : Option Ticks) → IsCellMoment c h a → IsMessageMoment c h b → IsDue c h (earlier_time a b)
due_is c h None None p q = λ to. record { cells = p to; messages = q to }
due_is c h None (Some b) p q = record {
  before = λ to early. record { cells = p to; messages = q.before to early };
  at = λ quiet. q.at quiet.messages;
}
due_is c h (Some a) None p q = record {
  before = λ to early. record { cells = p.before to early; messages = q to };
  at = λ quiet. p.at quiet.cells;
}
due_is c h (Some a) (Some b) p q = elim (cases_Bool (int_lt b.0 a.0)) [
  | inl sooner ↦ rw sooner (record {
    before = λ to early. record { cells = p.before to (sooner_too to a.0 b.0 early sooner); messages = q.before to early };
    at = λ quiet. q.at quiet.messages;
  })
  | inr later ↦ rw later (record {
    before = λ to early. record { cells = p.before to early; messages = q.before to (later_too to a.0 b.0 early later) };
    at = λ quiet. p.at quiet.cells;
  })
]
