-- What is sent and reported up to a time.
use Rattle.std.proofs.Common.{◌≡◌, ℕ, ℤ, pos, ◌+ℤ◌, ◌-ℤ◌, ◌≤ℤ◌, ◌<ℤ◌, List, ◌∷◌, ◌++◌, sym, ap, arith}
use Rattle.std.specs.Prelude.{filter}
use Rattle.std.proofs.lemmas.Int.{ints, by_lt_z}
use Rattle.fh_base.specs.Air.{air_of}
use Rattle.fh_base.specs.declared.values.Slot.{Slot}
use Rattle.unit_model.specs.Terms.{AirCell, Side, Ru, Du}
use Rattle.window_config.specs.declared.delays.Delays.{Delays}
use Rattle.window_config.specs.declared.endpoints.EndpointConfig.{EndpointConfig}
use Rattle.unit_model.specs.Blocks.{timely}
use Rattle.unit_model.specs.Commands.{accepted}
use Rattle.unit_model.specs.Proper.{IsAt}
use Rattle.unit_model.specs.Radiated.{Known, first_clock, known_of, reported, symbol_report, wait_of}
use Rattle.unit_model.specs.Standing.{due, past_of, still_reported}
use Rattle.unit_model.specs.Sweeps.{sweep}
use Rattle.unit_model.specs.Uplink.{jobs, symbol_jobs}
use Rattle.unit_laws.specs.Past.{IsPast}
use Rattle.unit_laws.specs.Sent.{JobsBegin, JobsAppend, CommandLeavesSent}
use Rattle.unit_laws.specs.Told.{CommandLeavesReported, DataLeaveReported, CommandLeavesDue, DataLeaveDue}
use Rattle.unit_laws.proofs.DueLemmas.{unheard}
use Rattle.unit_laws.proofs.PastLemmas.{command_leaves_jobs, command_leaves_reports, data_leave_reports}
use Rattle.unit_model.proofs.SweepLemmas.{sweep-append, sweep-none, sweep-same}
use Rattle.fh_base.proofs.Orders.{weak, next_order, next_later}

pub jobs_append : JobsAppend
unfolding jobs
jobs_append es claimed to later start order =
    sweep-append (symbol_jobs claimed) es first_clock (to +ℤ pos 1) (later +ℤ pos 1) (next_later first_clock to start) (next_order to later order)

pub jobs_begin : JobsBegin
unfolding jobs
jobs_begin es claimed to later order =
    let g = symbol_jobs claimed in
    let mid = to +ℤ pos 1 in
    let end = later +ℤ pos 1 in
    by_lt_z mid first_clock
    (λ before. (sweep g es first_clock end, ap (λ (xs : List _). xs ++ sweep g es first_clock end) (sym (sweep-none g es first_clock mid (weak mid first_clock before)))))
    (λ after. (sweep g es mid end, sweep-append g es first_clock mid end after (next_order to later order)))

at_or_before : (start tick to at : ℤ) → start ≡ tick → tick <ℤ (to +ℤ pos 1) → to ≤ℤ at → start ≤ℤ at
at_or_before start tick to at a b c = omega (arith, ints)

pub command_leaves_sent : CommandLeavesSent
unfolding jobs
command_leaves_sent es d c earlier to limits proper order past =
    sweep-same (symbol_jobs (accepted d (c ∷ earlier))) (symbol_jobs (accepted d earlier)) es first_clock (to +ℤ pos 1) (λ ep e slot symbol tick low high swept.
    command_leaves_jobs es d c earlier ep e slot symbol limits proper order swept.endpoint
    (at_or_before (air_of e.numerology slot symbol) tick to c.at.0 swept.starts high past))

-- ---- reports

-- a unit reports a cell a while after its symbol starts
at_start : (start tick end : ℤ) → start ≡ tick → tick <ℤ (end +ℤ pos 1) → start ≤ℤ end
at_start start tick end a b = omega (arith, ints)

still_same : (side : Side) (k m : Known) (heard : List AirCell) (ep : ℕ) (e : EndpointConfig) (slot : Slot) (symbol : ℕ)
    → symbol_report side k ep e slot symbol ≡ symbol_report side m ep e slot symbol → still_reported side k heard ep e slot symbol ≡ still_reported side m heard ep e slot symbol
unfolding still_reported
still_same side k m heard ep e slot symbol same = ap (filter (unheard heard)) same

-- where two knowledges report the same of each symbol whose moment is reached by a time, they report the same up to it, and the same is due
pub reported-same : (side : Side) (d : Delays) (es : List EndpointConfig) (k m : Known) (to : ℤ)
    → ((ep : ℕ) (e : EndpointConfig) (slot : Slot) (symbol : ℕ) → IsAt es ep e → air_of e.numerology slot symbol ≤ℤ (to -ℤ wait_of side d)
    → symbol_report side k ep e slot symbol ≡ symbol_report side m ep e slot symbol)
    → reported side d es k to ≡ reported side d es m to
unfolding reported
reported-same side d es k m to same =
    sweep-same (symbol_report side k) (symbol_report side m) es (first_clock -ℤ wait_of side d) ((to -ℤ wait_of side d) +ℤ pos 1) (λ ep e slot symbol tick low high swept.
    same ep e slot symbol swept.endpoint (at_start (air_of e.numerology slot symbol) tick (to -ℤ wait_of side d) swept.starts high))

pub due-same : (side : Side) (d : Delays) (es : List EndpointConfig) (k m : Known) (heard : List AirCell) (to : ℤ)
    → ((ep : ℕ) (e : EndpointConfig) (slot : Slot) (symbol : ℕ) → IsAt es ep e → air_of e.numerology slot symbol ≤ℤ (to -ℤ wait_of side d)
    → symbol_report side k ep e slot symbol ≡ symbol_report side m ep e slot symbol)
    → due side d es k heard to ≡ due side d es m heard to
unfolding due
due-same side d es k m heard to same =
    sweep-same (still_reported side k heard) (still_reported side m heard) es (first_clock -ℤ wait_of side d) ((to -ℤ wait_of side d) +ℤ pos 1) (λ ep e slot symbol tick low high swept.
    still_same side k m heard ep e slot symbol
    (same ep e slot symbol swept.endpoint (at_start (air_of e.numerology slot symbol) tick (to -ℤ wait_of side d) swept.starts high)))

no_later : (a b c : ℤ) → a ≤ℤ (b -ℤ pos 0) → b ≤ℤ c → a ≤ℤ c
no_later a b c h k = omega (arith, ints)

wait_over : (start to wait last : ℤ) → start ≤ℤ (to -ℤ wait) → to ≤ℤ (last -ℤ pos 1) → (start +ℤ wait) <ℤ last
wait_over start to wait last h k = omega (arith, ints)

-- a moment by a time that is past is past
past_by : (side : Side) (d : Delays) (start to last : ℤ) → start ≤ℤ (to -ℤ wait_of side d) → to ≤ℤ past_of side last → IsPast side d start last
past_by Ru d start to last by past = no_later start to last by past
past_by Du d start to last by past = wait_over start to (wait_of Du d) last by past

pub command_leaves_reported : CommandLeavesReported
command_leaves_reported es d c earlier given to limits proper order past =
    reported-same Ru d es (known_of (accepted d (c ∷ earlier)) given) (known_of (accepted d earlier) given) to (λ ep e slot symbol at by.
    command_leaves_reports Ru es d c earlier given ep e slot symbol limits proper order at (no_later (air_of e.numerology slot symbol) to c.at.0 by past))

pub command_leaves_due : CommandLeavesDue
command_leaves_due es d c earlier given heard to limits proper order past =
    due-same Ru d es (known_of (accepted d (c ∷ earlier)) given) (known_of (accepted d earlier) given) heard to (λ ep e slot symbol at by.
    command_leaves_reports Ru es d c earlier given ep e slot symbol limits proper order at (no_later (air_of e.numerology slot symbol) to c.at.0 by past))

pub data_leave_reported : DataLeaveReported
data_leave_reported side es d x earlier claimed to limits proper past =
    reported-same side d es (known_of claimed (timely side d (x ∷ earlier))) (known_of claimed (timely side d earlier)) to (λ ep e slot symbol at by.
    data_leave_reports side es d x earlier claimed ep e slot symbol limits proper at (past_by side d (air_of e.numerology slot symbol) to x.last.0 by past))

pub data_leave_due : DataLeaveDue
data_leave_due side es d x earlier claimed heard to limits proper past =
    due-same side d es (known_of claimed (timely side d (x ∷ earlier))) (known_of claimed (timely side d earlier)) heard to (λ ep e slot symbol at by.
    data_leave_reports side es d x earlier claimed ep e slot symbol limits proper at (past_by side d (air_of e.numerology slot symbol) to x.last.0 by past))
