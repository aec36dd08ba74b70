-- What is left of the messages of symbols.
use Rattle.std.proofs.Common.{◌≡◌, ℕ, ℤ, ◌≤ℤ◌, Bool, true, false, List, [], ◌∷◌, refl, ap, ◌∙◌}
use Rattle.std.specs.Prelude.{if◌then◌else◌, int_lt}
use Rattle.fh_base.specs.declared.values.Slot.{Slot}
use Rattle.window_config.specs.declared.endpoints.EndpointConfig.{EndpointConfig}
use Rattle.unit_model.specs.Order.{comes_before}
use Rattle.unit_model.specs.Starts.{start_at}
use Rattle.unit_model.specs.Uplink.{symbol_jobs}
use Rattle.unit_model.specs.declared.allocations.Allocation.{Allocation}
use Rattle.unit_model.specs.declared.jobs.UplinkJob.{UplinkJob}
use Rattle.unit_model.specs.declared.symbol_start.SymbolStart.{SymbolStart}
use Rattle.unit_symbols.specs.Cursors.{at_start, jobs_left, left_behind, left_jobs}
use Rattle.unit_symbols.specs.declared.cursor.JobCursor.{JobCursor}
use Rattle.fh_base.proofs.Orders.{not_under}
use Rattle.unit_laws.proofs.AheadLemmas.{no_jobs}
use Rattle.unit_symbols.proofs.LeftLemmas.{none_of_none as left_none}

-- ---- tests of times

abbrev with_start : SymbolStart → ℤ → SymbolStart
with_start m start = record { ep = m.ep; endpoint = m.endpoint; start = record { 0 = start }; slot = m.slot; symbol = m.symbol }

-- the order sees a symbol's start, whichever way it is told
pub start_before : (m x : SymbolStart) → (at_start m).start.0 ≡ m.start.0 → comes_before (at_start m) x ≡ comes_before m x
start_before m x e = ap (λ (t : ℤ). comes_before (with_start m t) x) e

pub start_behind : (m x : SymbolStart) → (at_start m).start.0 ≡ m.start.0 → comes_before x (at_start m) ≡ comes_before x m
start_behind m x e = ap (λ (t : ℤ). comes_before x (with_start m t)) e

-- of a slot with no section nothing is left
pub left_of_none : (uplink : ℕ → Slot → List Allocation) (cursor : JobCursor) (ep : ℕ) (e : EndpointConfig) (slot : Slot) (symbol : ℕ)
    → uplink ep slot ≡ [] → jobs_left uplink cursor ep e slot symbol ≡ []
unfolding jobs_left
left_of_none uplink cursor ep e slot symbol none =
    ap (λ (xs : List Allocation). left_jobs cursor (start_at ep e slot symbol) (symbol_jobs xs ep e slot symbol)) none
    ∙ ap (left_jobs cursor (start_at ep e slot symbol)) (no_jobs ep e slot symbol)
    ∙ left_none cursor (start_at ep e slot symbol)

-- ---- some messages

starts_since : (b : Bool) (start since : ℤ) (xs rest : List UplinkJob) (job : UplinkJob) → int_lt start since ≡ b
    → (if b then [] else xs) ≡ job ∷ rest → since ≤ℤ start
starts_since true start since xs rest job test is = absurd cc
starts_since false start since xs rest job test is = not_under start since test

-- a symbol of which a message is left starts since the cursor's time
pub left_since : (uplink : ℕ → Slot → List Allocation) (cursor : JobCursor) (m : SymbolStart) (job : UplinkJob) (rest : List UplinkJob)
    → jobs_left uplink cursor m.ep m.endpoint m.slot m.symbol ≡ job ∷ rest → cursor.since.0 ≤ℤ (at_start m).start.0
unfolding jobs_left
left_since uplink cursor m job rest is =
    starts_since (int_lt (at_start m).start.0 cursor.since.0) (at_start m).start.0 cursor.since.0
    (left_behind cursor.given cursor.last (at_start m) (symbol_jobs (uplink m.ep m.slot) m.ep m.endpoint m.slot m.symbol)) rest job refl is
