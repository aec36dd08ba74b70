-- A symbol that starts a second after all arrivals is of a slot that no message could name, so all is told by the end of time.
use Rattle.std.proofs.Common.{◌≡◌, ℕ, ℤ, pos, ◌+◌, ◌*◌, ◌+ℤ◌, ◌-ℤ◌, ◌*ℤ◌, ◌≤ℤ◌, ◌<ℤ◌, List, [], ◌++◌, refl, ap, ◌∙◌, arith, append-nil}
use Rattle.std.specs.Int.{int_max}
use Rattle.std.proofs.lemmas.Int.{clamps, ints}
use Rattle.fh_base.specs.Kinds.{kind_start}
use Rattle.fh_base.specs.declared.values.Slot.{Slot}
use Rattle.fh_base.proofs.Euclid.{frame_floor}
use Rattle.unit_model.specs.Terms.{Ru}
use Rattle.window_config.specs.Limits.{IsWithinLimits}
use Rattle.window_config.specs.Rings.{ru_reach_of}
use Rattle.window_config.specs.declared.delays.Delays.{Delays}
use Rattle.window_config.specs.declared.endpoints.EndpointConfig.{EndpointConfig}
use Rattle.unit_model.specs.Radiated.{first_clock, symbol_report, reported}
use Rattle.unit_model.specs.Reports.{accepted_of, ru_known}
use Rattle.unit_model.specs.Sweeps.{OfSymbol, at_tick, frame_of_tick, sweep}
use Rattle.unit_model.specs.Times.{end_of_time, last_landing}
use Rattle.unit_model.specs.Uplink.{jobs, symbol_jobs}
use Rattle.unit_laws.specs.Ends.{CellsEnd, JobsEnd, NoCellsLater, NoJobsLater}
use Rattle.unit_laws.specs.Far.{IsFar}
use Rattle.unit_model.specs.Swept.{IsSwept}
use Rattle.unit_laws.proofs.AheadLemmas.{no_jobs_ahead, no_reports_ahead}
use Rattle.unit_model.proofs.SweepLemmas.{sweep-append, tick-nothing}
use Rattle.fh_base.specs.declared.frames.TheConstants.{FRAME}
use Rattle.window_config.specs.declared.delays.TheConstants.{MOST_DELAY}
use Rattle.unit_model.proofs.SweepLaws.{sweep_quiet as sweep-nothing}
use Rattle.fh_base.specs.declared.nanoseconds.TheConstants.{NANOSECOND}
use Rattle.fh_base.specs.declared.symbols.TheConstants.{SUBFRAME}

most_before : (up advance command : ℤ) → up ≤ℤ pos MOST_DELAY → advance ≤ℤ pos MOST_DELAY → command ≤ℤ pos MOST_DELAY
    → int_max (int_max up (up +ℤ advance)) command ≤ℤ pos 4000000
most_before up advance command a b c = omega (arith, ints, clamps)

pub reach_small : (d : Delays) → IsWithinLimits d → (ru_reach_of d).before ≤ℤ pos 4000000
reach_small d limits = most_before d.t2a_up.max d.advance d.t2a_cp_ul.max limits.t2a_up.high limits.advance.high limits.t2a_cp_ul.high

-- a slot of one of the frames that are gone over at a tick begins less than 100 ms before it
pub begins_later : (clock tick q frame before : ℤ) (offset : ℕ) → (clock +ℤ pos 1536000000000) ≤ℤ tick → tick <ℤ (q *ℤ FRAME +ℤ FRAME)
    → (q -ℤ pos 5) ≤ℤ frame → before ≤ℤ pos 4000000 → clock <ℤ ((frame *ℤ FRAME +ℤ pos offset) -ℤ (before *ℤ pos NANOSECOND))
begins_later clock tick q frame before offset a b c d = omega (arith, ints)

pub far_later : (d : Delays) (es : List EndpointConfig) (ep : ℕ) (e : EndpointConfig) (slot : Slot) (symbol : ℕ) (clock tick : ℤ) → IsWithinLimits d
    → (clock +ℤ pos 1536000000000) ≤ℤ tick → IsSwept es ep e slot symbol tick → IsFar e.numerology (ru_reach_of d) clock slot
far_later d es ep e slot symbol clock tick limits later swept =
    begins_later clock tick (frame_of_tick tick) slot.frame (ru_reach_of d).before (slot.subframe * SUBFRAME + kind_start e.numerology.kind slot.slot 0) later
    (frame_floor tick).1 swept.frame_low (reach_small d limits)

pub no_cells_later : NoCellsLater
no_cells_later c clock arrivals tick limits came later =
    tick-nothing (symbol_report Ru (ru_known c arrivals)) c.endpoints tick (λ ep e slot symbol swept.
    no_reports_ahead Ru c clock arrivals e ep slot symbol limits came swept.endpoint (far_later c.delays c.endpoints ep e slot symbol clock tick limits later swept))

pub no_jobs_later : NoJobsLater
no_jobs_later c clock arrivals tick limits came later =
    tick-nothing (symbol_jobs (accepted_of c arrivals)) c.endpoints tick (λ ep e slot symbol swept.
    no_jobs_ahead c clock arrivals e ep slot symbol limits came swept.endpoint (far_later c.delays c.endpoints ep e slot symbol clock tick limits later swept))

-- ---- up to the end

after_end : (mid tick : ℤ) → mid ≡ end_of_time +ℤ pos 1 → mid ≤ℤ tick → (last_landing +ℤ pos 1536000000000) ≤ℤ tick
after_end mid tick e h = omega (arith, ints)

-- a sweep that has nothing after a tick ends there
ends : {A : Type 0} (g : OfSymbol A) (es : List EndpointConfig) (from mid end : ℤ) → from ≤ℤ mid → mid ≤ℤ end
    → ((tick : ℤ) → mid ≤ℤ tick → at_tick g es tick ≡ []) → sweep g es from end ≡ sweep g es from mid
ends {A} g es from mid end a b none =
    sweep-append g es from mid end a b
    ∙ ap (λ (xs : List A). sweep g es from mid ++ xs) (sweep-nothing g es mid end (λ tick low high. none tick low))
    ∙ append-nil (sweep g es from mid)

pub cells_end : CellsEnd
unfolding reported
cells_end c arrivals to limits came order =
    let mid = (end_of_time -ℤ pos 0) +ℤ pos 1 in
    ends (symbol_report Ru (ru_known c arrivals)) c.endpoints (first_clock -ℤ pos 0) mid ((to -ℤ pos 0) +ℤ pos 1) (omega (arith, ints)) (omega (arith, ints))
    (λ tick low. no_cells_later c last_landing arrivals tick limits came (after_end mid tick (omega (arith, ints)) low))

pub jobs_end : JobsEnd
unfolding jobs
jobs_end c arrivals to limits came order =
    let mid = end_of_time +ℤ pos 1 in
    ends (symbol_jobs (accepted_of c arrivals)) c.endpoints first_clock mid (to +ℤ pos 1) (omega (arith, ints)) (omega (arith, ints))
    (λ tick low. no_jobs_later c last_landing arrivals tick limits came (after_end mid tick refl low))
