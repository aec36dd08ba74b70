-- How far the messages that a radio unit is to send were given, and what is left of them, by look-up (this project's profile).
use Rattle.std.specs.Prelude.{◌≡◌, ℕ, ℤ, Bool, true, nat_lt, ◌≤◌, ◌<ℤ◌, ◌≤ℤ◌, if◌then◌else◌, int_lt, List, [], ◌∷◌, drop, length, Option, Some, None}
use Rattle.std.specs.Int.{int_max}
use Rattle.fh_base.specs.declared.values.Slot.{Slot}
use Rattle.unit_model.specs.Order.{comes_before}
use Rattle.unit_model.specs.Starts.{start_at}
use Rattle.unit_model.specs.Sweeps.{OfSymbol}
use Rattle.unit_model.specs.Uplink.{symbol_jobs}
use Rattle.unit_model.specs.declared.allocations.Allocation.{Allocation}
use Rattle.unit_model.specs.declared.jobs.UplinkJob.{UplinkJob}
use Rattle.unit_model.specs.declared.symbol_start.SymbolStart.{SymbolStart}
use Rattle.unit_cells.specs.Cells.{CellsValue, cells_uplink}
use Rattle.unit_symbols.specs.Symbols.{IsSymbol}
use Rattle.unit_symbols.specs.declared.cursor.JobCursor.{JobCursor}
use Rattle.unit_symbols.specs.declared.cursor.NextJob.{NextJob}
use Rattle.unit_model.specs.declared.uplink.TheConstants.{SLOT_SECTIONS}

-- where so many messages of the symbol `last` were given, and none of a later one, this is left of a symbol's messages
abbrev pub left_behind : ℕ → Option SymbolStart → SymbolStart → List UplinkJob → List UplinkJob
left_behind given None m jobs = jobs
left_behind given (Some last) m jobs =
    if comes_before m last then [] else (if comes_before last m then jobs else drop given jobs)

-- all messages of symbols that start before a tick were given
abbrev pub left_jobs : JobCursor → SymbolStart → List UplinkJob → List UplinkJob
left_jobs cursor m jobs = if int_lt m.start.0 cursor.since.0 then [] else left_behind cursor.given cursor.last m jobs

-- what is left where so many were given, or all
abbrev pub rest_of : Option ℕ → List UplinkJob → List UplinkJob
rest_of None jobs = []
rest_of (Some given) jobs = drop given jobs

-- the last symbol of which messages were given starts before a clock, if there is one
abbrev pub is_past : ℤ → Option SymbolStart → Bool
is_past clock None = true
is_past clock (Some last) = int_lt last.start.0 clock

-- what is left of each symbol's messages, where these are the accepted uplink sections of each slot, the newest first
unfoldable pub jobs_left : (ℕ → Slot → List Allocation) → JobCursor → OfSymbol UplinkJob
jobs_left uplink cursor ep e slot symbol =
    left_jobs cursor (start_at ep e slot symbol) (symbol_jobs (uplink ep slot) ep e slot symbol)

-- a symbol at the tick at which it starts
abbrev pub at_start : SymbolStart → SymbolStart
at_start m = start_at m.ep m.endpoint m.slot m.symbol

abbrev pub left_in : (ℕ → Slot → List Allocation) → JobCursor → SymbolStart → List UplinkJob
left_in uplink cursor m = jobs_left uplink cursor m.ep m.endpoint m.slot m.symbol

-- a message is left of a symbol
abbrev pub is_job_left : CellsValue → JobCursor → SymbolStart → Bool
is_job_left v cursor m = nat_lt 0 (length (left_in (cells_uplink v) cursor m))

-- the first of all that is left
pub record IsFirstJob (v : CellsValue) (cursor : JobCursor) (n : NextJob) : Type 0 where
  pub symbol : IsSymbol v n.symbol
  pub rest : List UplinkJob
  pub first : left_in (cells_uplink v) cursor n.symbol ≡ n.job ∷ rest
  pub few : length (cells_uplink v n.symbol.ep n.symbol.slot) ≤ SLOT_SECTIONS
  pub before : (m : SymbolStart) → IsSymbol v m → comes_before m n.symbol ≡ true → left_in (cells_uplink v) cursor m ≡ []

-- what is left once it was given: the rest of its symbol, and the same of all that follow
pub record GivenOne (v : CellsValue) (old : JobCursor) (n : NextJob) (new : JobCursor) : Type 0 where
  pub since : new.since ≡ old.since
  pub last : new.last ≡ Some n.symbol
  pub here : (job : UplinkJob) (rest : List UplinkJob) → left_in (cells_uplink v) old n.symbol ≡ job ∷ rest
      → left_in (cells_uplink v) new n.symbol ≡ rest
  pub before : (uplink : ℕ → Slot → List Allocation) (m : SymbolStart) → comes_before (at_start m) n.symbol ≡ true → left_in uplink new m ≡ []
  pub behind : (uplink : ℕ → Slot → List Allocation) (m : SymbolStart) → comes_before n.symbol (at_start m) ≡ true
      → left_in uplink new m ≡ left_in uplink old m

-- at a later clock nothing is left of the symbols that start before it, and the same of the others
pub record Settled (clock : ℤ) (old new : JobCursor) : Type 0 where
  pub since : new.since.0 ≡ int_max old.since.0 clock
  pub last : (m : SymbolStart) → new.last ≡ Some m → old.last ≡ Some m
  pub before : (uplink : ℕ → Slot → List Allocation) (m : SymbolStart) → (at_start m).start.0 <ℤ clock → left_in uplink new m ≡ []
  pub behind : (uplink : ℕ → Slot → List Allocation) (m : SymbolStart) → clock ≤ℤ (at_start m).start.0 → left_in uplink new m ≡ left_in uplink old m
