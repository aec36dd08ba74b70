-- What is left of a symbol's messages.
use Rattle.std.proofs.Common.{◌≡◌, ℕ, ℤ, ◌-◌, ◌≤ℤ◌, inl, inr, subst, Bool, true, false, List, [], length, drop, refl, sym, ap, ◌∙◌, arith, Option, Some, None}
use Rattle.std.specs.Prelude.{nat_lt, int_lt, if◌then◌else◌, filter, reverse}
use Rattle.std.proofs.lemmas.Int.{ints}
use Rattle.std.proofs.lemmas.Bool.{cases_Bool}
use Rattle.fh_base.proofs.Orders.{both_ways}
use Rattle.std.proofs.lemmas.List.{length-drop, drop_all, nil_from_length}
use Rattle.std.proofs.lemmas.Bool.Decides.{nat_tests}
use Rattle.fh_base.specs.declared.values.Slot.{Slot}
use Rattle.window_config.specs.declared.endpoints.EndpointConfig.{EndpointConfig}
use Rattle.fh_base.specs.Lists.{in_order}
use Rattle.unit_model.specs.Order.{comes_before}
use Rattle.unit_model.specs.Starts.{jobs_at, start_at}
use Rattle.unit_model.specs.Uplink.{sends_in, symbol_jobs}
use Rattle.unit_model.specs.declared.allocations.Allocation.{Allocation}
use Rattle.unit_model.specs.declared.jobs.UplinkJob.{UplinkJob}
use Rattle.unit_model.specs.declared.symbol_start.SymbolStart.{SymbolStart}
use Rattle.unit_cells.specs.Cells.{CellsValue, cells_index, cells_uplink}
use Rattle.unit_symbols.specs.Searches.{InPlace}
use Rattle.unit_symbols.specs.Symbols.{FitsFrom, HasNone, InSlot, IsSymbol, OfEndpoint}
use Rattle.unit_symbols.specs.Cursors.{is_job_left, jobs_left, left_behind, left_jobs}
use Rattle.unit_symbols.specs.declared.cursor.JobCursor.{JobCursor}
use Rattle.unit_symbols.proofs.SortLemmas.{length_jobs}

pub some_left : (xs : List Allocation) (m : SymbolStart) (given count : ℕ) (left : List UplinkJob) → left ≡ drop given (jobs_at (reverse xs) m)
    → count ≡ length (filter (sends_in m.ep m.slot m.symbol) xs) → nat_lt given count ≡ nat_lt 0 (length left)
some_left xs m given count left is counted =
    let e : length left ≡ length (jobs_at (reverse xs) m) - given = ap length is ∙ length-drop given (jobs_at (reverse xs) m) in
    let f : length (jobs_at (reverse xs) m) ≡ count = length_jobs xs m ∙ sym counted in
    grind (arith, nat_tests)

-- ---- of a symbol whose slot's sections these are

pub left_at_start : (v : CellsValue) (cursor : JobCursor) (ep : ℕ) (e : EndpointConfig) (slot : Slot) (symbol : ℕ) (xs : List Allocation) (m : SymbolStart) (left : Bool)
    → reverse xs ≡ cells_uplink v ep slot → m ≡ start_at ep e slot symbol
    → left ≡ nat_lt 0 (length (left_jobs cursor m (jobs_at (reverse xs) m))) → left ≡ is_job_left v cursor m
unfolding jobs_left symbol_jobs
left_at_start v cursor ep e slot symbol xs m left uplink is left_is =
    left_is
    ∙ ap (λ (x : SymbolStart). nat_lt 0 (length (left_jobs cursor x (jobs_at (reverse xs) x)))) is
    ∙ ap (λ ys. nat_lt 0 (length (left_jobs cursor (start_at ep e slot symbol) (jobs_at ys (start_at ep e slot symbol))))) uplink
    ∙ ap (is_job_left v cursor) (sym is)

not_before : (a b : ℤ) → int_lt a b ≡ false → b ≤ℤ a
not_before a b e = grind (arith, ints)

-- something is left only of symbols that start at the cursor's time or later
pub left_since : (v : CellsValue) (cursor : JobCursor) (m : SymbolStart) → IsSymbol v m → is_job_left v cursor m ≡ true → cursor.since.0 ≤ℤ m.start.0
unfolding jobs_left
left_since v cursor m is left =
    let s = start_at m.ep m.endpoint m.slot m.symbol in
    let starts : s.start.0 ≡ m.start.0 = sym is.starts in
    elim (cases_Bool (int_lt s.start.0 cursor.since.0)) [
      | inl before ↦
          let none : is_job_left v cursor m ≡ false =
          ap (λ (b : Bool). nat_lt 0 (length (if b then [] else left_behind cursor.given cursor.last s (symbol_jobs (cells_uplink v m.ep m.slot) m.ep m.endpoint m.slot m.symbol)))) before in
          absurd (both_ways (is_job_left v cursor m) left none)
      | inr not ↦ subst (λ (x : ℤ). cursor.since.0 ≤ℤ x) starts (not_before s.start.0 cursor.since.0 not)
    ]

pub fits_since : (v : CellsValue) (cursor : JobCursor) (Over : SymbolStart → Type 0) → FitsFrom v (is_job_left v cursor) Over (Some cursor.since)
fits_since v cursor Over m w o = left_since v cursor m w.is w.fit

-- ---- where no section is held

pub none_of_none : (cursor : JobCursor) (m : SymbolStart) → left_jobs cursor m [] ≡ []
none_of_none cursor m = outside (int_lt m.start.0 cursor.since.0) _ (behind cursor.last)
  where
    inside : (early late : Bool) (given : ℕ) (jobs : List UplinkJob) → jobs ≡ [] → (if early then [] else (if late then jobs else drop given jobs)) ≡ []
    inside true late given jobs h = refl
    inside false true given jobs h = h
    inside false false given jobs h = ap (drop given) h ∙ drop_all given [] (omega arith)

    behind : (last : Option SymbolStart) → left_behind cursor.given last m [] ≡ []
    behind None = refl
    behind (Some last) = inside (comes_before m last) (comes_before last m) cursor.given [] refl

    outside : (b : Bool) (jobs : List UplinkJob) → jobs ≡ [] → (if b then [] else jobs) ≡ []
    outside true jobs h = refl
    outside false jobs h = h

nothing_sends : (v : CellsValue) (cursor : JobCursor) (m : SymbolStart) → cells_uplink v m.ep m.slot ≡ [] → is_job_left v cursor m ≡ false
unfolding jobs_left symbol_jobs in_order
nothing_sends v cursor m h =
    let s = start_at m.ep m.endpoint m.slot m.symbol in
    ap (λ xs. nat_lt 0 (length (left_jobs cursor s (jobs_at xs s)))) h ∙ ap (λ js. nat_lt 0 (length js)) (none_of_none cursor s)

pub none_of_endpoint : (v : CellsValue) (cursor : JobCursor) (ep : ℕ) → ((slot : Slot) → cells_uplink v ep slot ≡ []) → HasNone v (is_job_left v cursor) (OfEndpoint ep)
none_of_endpoint v cursor ep none m is of = nothing_sends v cursor m (ap (λ k. cells_uplink v k m.slot) of ∙ none m.slot)

pub none_in_place : (v : CellsValue) (cursor : JobCursor) (ep index : ℕ) → ((slot : Slot) → cells_index v ep slot ≡ index → cells_uplink v ep slot ≡ [])
    → HasNone v (is_job_left v cursor) (InPlace v ep index)
none_in_place v cursor ep index none m is of = nothing_sends v cursor m (ap (λ k. cells_uplink v k m.slot) of.0 ∙ none m.slot of.1)

pub none_in_slot : (v : CellsValue) (cursor : JobCursor) (ep : ℕ) (slot : Slot) (xs : List Allocation) → reverse xs ≡ cells_uplink v ep slot → length xs ≡ 0
    → HasNone v (is_job_left v cursor) (InSlot ep slot)
none_in_slot v cursor ep slot xs uplink h m is o =
    nothing_sends v cursor m
    (ap (λ k. cells_uplink v k m.slot) o.0 ∙ ap (λ s. cells_uplink v ep s) o.1 ∙ sym uplink ∙ ap reverse (nil_from_length xs h))
