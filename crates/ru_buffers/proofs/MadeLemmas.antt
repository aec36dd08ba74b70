-- A unit that was made stands for the history of nothing.
use Rattle.std.proofs.Common.{◌≡◌, ℕ, ℤ, pos, ◌+ℤ◌, ◌-ℤ◌, ◌≤ℤ◌, ◌^◌, Bool, true, false, List, [], refl, sym, ap, ◌∙◌, arith}
use Rattle.std.specs.Prelude.{Option, Some, None, filter, int_lt, if◌then◌else◌}
use Rattle.std.proofs.lemmas.Int.{ints}
use Rattle.std.proofs.lemmas.List.Elements.{All-nil}
use Rattle.fh_base.specs.Air.{air_of}
use Rattle.fh_base.specs.declared.values.Slot.{Slot}
use Rattle.air_source.specs.declared.events.AirCell.{AirCell}
use Rattle.air_source.specs.declared.events.Side.TheVariants.{Ru}
use Rattle.window_config.specs.Limits.{IsWithinLimits}
use Rattle.window_config.specs.Rings.{ru_reach_of}
use Rattle.window_config.specs.Windows.{ticks_of_ns}
use Rattle.window_config.specs.declared.config.Config.{Config}
use Rattle.window_config.specs.declared.endpoints.EndpointConfig.{EndpointConfig}
use Rattle.unit_model.specs.Proper.{IsAt}
use Rattle.unit_model.specs.Radiated.{first_clock, symbol_report}
use Rattle.unit_model.specs.Reports.{accepted_of, ru_known}
use Rattle.unit_model.specs.Standing.{IsOwed, due, nothing_yet, still_reported}
use Rattle.unit_model.specs.Starts.{start_at}
use Rattle.unit_model.specs.Sweeps.{sweep}
use Rattle.unit_model.specs.Uplink.{jobs, symbol_jobs}
use Rattle.unit_model.specs.declared.cells.Cell.{Cell}
use Rattle.unit_model.specs.declared.jobs.UplinkJob.{UplinkJob}
use Rattle.unit_model.specs.declared.symbol_start.SymbolStart.{SymbolStart}
use Rattle.unit_laws.specs.Far.{IsFar}
use Rattle.unit_laws.proofs.AheadLemmas.{no_jobs_ahead, no_reports_ahead}
use Rattle.unit_laws.proofs.DueLemmas.{unheard}
use Rattle.unit_model.proofs.SweepLemmas.{tick-nothing}
use Rattle.unit_laws.proofs.HistoryTicks.{same_most}
use Rattle.unit_cells.specs.Cells.{cells_reported}
use Rattle.unit_symbols.specs.Cursors.{left_behind, left_jobs}
use Rattle.unit_symbols.specs.declared.cursor.JobCursor.{JobCursor}
use Rattle.unit_memory.specs.Memory.{Holds}
use Rattle.unit_memory.specs.declared.memory.UnitMemory.{UnitMemory}
use Rattle.ru_buffers.specs.Units.{RadioKeeps}
use Rattle.ru_buffers.proofs.LookupLemmas.{left_by_definition, left_of}
use Rattle.unit_model.proofs.SweepLaws.{sweep_quiet as sweep-nothing}
use Rattle.fh_base.proofs.Orders.{before_it}
use Rattle.unit_model.proofs.SlotLemmas.{first_time}

-- a time before a slot is live
before : Config → EndpointConfig → Slot → ℤ
before c e slot = (air_of e.numerology slot 0 -ℤ ticks_of_ns (ru_reach_of c.delays).before) -ℤ pos 1

is_far : (c : Config) (e : EndpointConfig) (slot : Slot) → IsFar e.numerology (ru_reach_of c.delays) (before c e slot) slot
unfolding before
is_far c e slot = before_it (air_of e.numerology slot 0 -ℤ ticks_of_ns (ru_reach_of c.delays).before)

no_report : (c : Config) (ep : ℕ) (e : EndpointConfig) (slot : Slot) (symbol : ℕ) → IsWithinLimits c.delays → IsAt c.endpoints ep e
    → symbol_report Ru (ru_known c []) ep e slot symbol ≡ []
no_report c ep e slot symbol limits at = no_reports_ahead Ru c (before c e slot) [] e ep slot symbol limits tt at (is_far c e slot)

no_message : (c : Config) (ep : ℕ) (e : EndpointConfig) (slot : Slot) (symbol : ℕ) → IsWithinLimits c.delays → IsAt c.endpoints ep e
    → symbol_jobs (accepted_of c []) ep e slot symbol ≡ []
no_message c ep e slot symbol limits at = no_jobs_ahead c (before c e slot) [] e ep slot symbol limits tt at (is_far c e slot)

nothing_due : (c : Config) (heard : List AirCell) (to : ℤ) → IsWithinLimits c.delays → due Ru c.delays c.endpoints (ru_known c []) heard to ≡ []
unfolding due still_reported
nothing_due c heard to limits =
    let g = still_reported Ru (ru_known c []) heard in
    sweep-nothing g c.endpoints (first_clock -ℤ pos 0) ((to -ℤ pos 0) +ℤ pos 1) (λ tick low high.
    tick-nothing g c.endpoints tick (λ ep e slot symbol swept.
    ap (filter (unheard heard)) (no_report c ep e slot symbol limits swept.endpoint)))

pub no_messages : (c : Config) (to : ℤ) → IsWithinLimits c.delays → jobs c.endpoints (accepted_of c []) to ≡ []
unfolding jobs
no_messages c to limits =
    let g = symbol_jobs (accepted_of c []) in
    sweep-nothing g c.endpoints first_clock (to +ℤ pos 1) (λ tick low high.
    tick-nothing g c.endpoints tick (λ ep e slot symbol swept. no_message c ep e slot symbol limits swept.endpoint))

none_behind : (given : ℕ) (last : Option SymbolStart) (m : SymbolStart) → last ≡ None → left_behind given last m [] ≡ []
none_behind given None m e = refl
none_behind given (Some f) m e = cc

none_if : (b : Bool) (xs : List UplinkJob) → xs ≡ [] → (let none : List UplinkJob = [] in if b then none else xs) ≡ []
none_if true xs e = refl
none_if false xs e = e

nothing_left : (cursor : JobCursor) (m : SymbolStart) → cursor.last ≡ None → left_jobs cursor m [] ≡ []
nothing_left cursor m e = none_if (int_lt m.start.0 cursor.since.0) (left_behind cursor.given cursor.last m []) (none_behind cursor.given cursor.last m e)

nothing_of : (c : Config) (cursor : JobCursor) (to : ℤ) → IsWithinLimits c.delays → cursor.last ≡ None
    → sweep (left_of (accepted_of c []) cursor) c.endpoints first_clock (to +ℤ pos 1) ≡ []
nothing_of c cursor to limits e =
    let g = left_of (accepted_of c []) cursor in
    sweep-nothing g c.endpoints first_clock (to +ℤ pos 1) (λ tick low high.
    tick-nothing g c.endpoints tick (λ ep e2 slot symbol swept.
    ap (left_jobs cursor (start_at ep e2 slot symbol)) (no_message c ep e2 slot symbol limits swept.endpoint) ∙ nothing_left cursor (start_at ep e2 slot symbol) e))

small_first : (a : ℤ) → a ≡ first_clock → a ≤ℤ pos (2 ^ 53)
small_first a e = omega (arith, ints)

pub made : (c : Config) (m : UnitMemory) (cursor : JobCursor) → ((clock : ℤ) → Holds Ru c clock m [] []) → ((cell : Cell) → cells_reported m.cells cell ≡ false)
    → cursor.since.0 ≡ first_clock → cursor.last ≡ None → RadioKeeps c m first_clock cursor nothing_yet
made c m cursor holds unreported since last =
    let limits = (holds first_clock).config.delays in
    let begun = same_most cursor.since.0 first_clock since in
    record {
      holds = holds cursor.since.0;
      clock_is = refl;
      time = first_time;
      begun = begun;
      since = same_most first_clock cursor.since.0 (sym since);
      within = λ f is. cc;
      reports = λ e cell is down live. unreported cell;
      past = nothing_due c [] first_clock limits;
      told = λ e cell is down heard. cc;
      differ = tt;
      owed = All-nil (IsOwed Ru c (ru_known c []));
      left = λ to.
          left_by_definition c m cursor.since.0 [] [] (holds cursor.since.0) begun (small_first cursor.since.0 since) cursor refl to
          ∙ nothing_of c cursor to limits last ∙ sym (no_messages c to limits);
      given = refl;
    }
