-- A cursor after one message more, and at a later clock.
use Rattle.std.proofs.Common.{◌≡◌, ℕ, ℤ, ◌+◌, ◌-◌, ◌≤◌, ◌<ℤ◌, ◌≤ℤ◌, Bool, true, false, List, [], ◌∷◌, length, drop, refl, sym, ap, ◌∙◌, subst, arith}
use Rattle.std.specs.Prelude.{int_lt, nat_lt, if◌then◌else◌, min, Option, Some, None, reverse, filter, slice_get, unwrap_or, count_by}
use Rattle.std.specs.Int.{int_max}
use Rattle.std.proofs.lemmas.Int.{ints}
use Rattle.std.proofs.lemmas.Bool.{false_from_ne_true, ltb-false}
use Rattle.std.proofs.lemmas.List.{length-drop, drop-drop, nil_from_length, reverse-reverse, length-reverse}
use Rattle.std.proofs.lemmas.List.Sums.{length-filter, count_by-le-length}
use Rattle.fh_base.specs.declared.values.Slot.{Slot}
use Rattle.unit_model.specs.Order.{comes_before}
use Rattle.unit_model.specs.Starts.{jobs_at, start_at}
use Rattle.unit_model.specs.Uplink.{sends_in, symbol_jobs}
use Rattle.unit_model.specs.declared.allocations.Allocation.{Allocation}
use Rattle.unit_model.specs.declared.jobs.UplinkJob.{UplinkJob}
use Rattle.unit_model.specs.declared.symbol_start.SymbolStart.{SymbolStart}
use Rattle.window_config.specs.declared.endpoints.EndpointConfig.{EndpointConfig}
use Rattle.unit_cells.specs.Cells.{CellsValue, cells_uplink}
use Rattle.fh_base.specs.declared.values.Ticks.{Ticks}
use Rattle.unit_symbols.specs.Cursors.{GivenOne, IsFirstJob, Settled, at_start, is_job_left, is_past, jobs_left, left_behind, left_in, left_jobs, rest_of}
use Rattle.unit_symbols.specs.Symbols.{IsFirst, IsFirstFitting, IsSymbol}
use Rattle.unit_symbols.specs.declared.cursor.JobCursor.{JobCursor}
use Rattle.unit_symbols.specs.declared.cursor.NextJob.{NextJob}
use Rattle.unit_symbols.proofs.OrderLemmas.{before_third, not_after, not_before_itself}
use Rattle.unit_symbols.proofs.SymbolLemmas.{at_its_start}
use Rattle.unit_symbols.proofs.SortLemmas.{length_jobs}
use Rattle.unit_model.specs.declared.uplink.TheConstants.{SLOT_SECTIONS}
use Rattle.unit_model.proofs.ClaimLemmas.{start_before as starts_before}

-- ---- choices

nil_both : (b : Bool) → (let ys : List UplinkJob = if b then [] else [] in ys) ≡ []
nil_both true = refl
nil_both false = refl

some_then : (b : Bool) (xs rest : List UplinkJob) (job : UplinkJob) → (if b then [] else xs) ≡ job ∷ rest → (b ≡ false) × (xs ≡ job ∷ rest)
some_then true xs rest job h = absurd (cc)
some_then false xs rest job h = (refl, h)

abbrev by_order : Bool → Bool → ℕ → List UplinkJob → List UplinkJob
by_order early late given jobs = if early then [] else (if late then jobs else drop given jobs)

by_order_early : (early late : Bool) (given : ℕ) (jobs : List UplinkJob) → early ≡ true → by_order early late given jobs ≡ []
by_order_early true late given jobs h = refl
by_order_early false late given jobs h = absurd (cc)

by_order_late : (early late : Bool) (given : ℕ) (jobs : List UplinkJob) → early ≡ false → late ≡ true → by_order early late given jobs ≡ jobs
by_order_late true late given jobs h k = absurd (cc)
by_order_late false true given jobs h k = refl
by_order_late false false given jobs h k = absurd (cc)

by_order_same : (early late : Bool) (given : ℕ) (jobs : List UplinkJob) → early ≡ false → late ≡ false → by_order early late given jobs ≡ drop given jobs
by_order_same true late given jobs h k = absurd (cc)
by_order_same false true given jobs h k = absurd (cc)
by_order_same false false given jobs h k = refl

-- ---- after the message that was given

abbrev passed : JobCursor → NextJob → ℕ → JobCursor
passed old n given = record { since = old.since; last = Some n.symbol; given = given }

nothing_before : (old : JobCursor) (n : NextJob) (given : ℕ) (m : SymbolStart) (jobs : List UplinkJob) → comes_before m n.symbol ≡ true → left_jobs (passed old n given) m jobs ≡ []
nothing_before old n given m jobs h =
    ap (λ (xs : List UplinkJob). let ys : List UplinkJob = if int_lt m.start.0 old.since.0 then [] else xs in ys)
    (by_order_early (comes_before m n.symbol) (comes_before n.symbol m) given jobs h)
    ∙ nil_both (int_lt m.start.0 old.since.0)

-- all is left of a symbol that follows one of which something is
all_behind : (old : JobCursor) (last : Option SymbolStart) (given : ℕ) (n m : SymbolStart) (jobs rest some : List UplinkJob) (job : UplinkJob) → left_behind given last n some ≡ job ∷ rest
    → comes_before n m ≡ true → left_behind given last m jobs ≡ jobs
all_behind old None given n m jobs rest some job h k = refl
all_behind old (Some last) given n m jobs rest some job h k =
    let first : comes_before n last ≡ false = (some_then (comes_before n last) _ rest job h).0 in
    let late : comes_before last m ≡ true = before_third last n m first k in
    by_order_late (comes_before m last) (comes_before last m) given jobs (not_after last m late) late

same_behind : (old : JobCursor) (n : NextJob) (given : ℕ) (m : SymbolStart) (jobs some rest : List UplinkJob) (job : UplinkJob) → left_jobs old n.symbol some ≡ job ∷ rest
    → comes_before n.symbol m ≡ true → left_jobs (passed old n given) m jobs ≡ left_jobs old m jobs
same_behind old n given m jobs some rest job h k =
    ap (λ (xs : List UplinkJob). let ys : List UplinkJob = if int_lt m.start.0 old.since.0 then [] else xs in ys)
    (by_order_late (comes_before m n.symbol) (comes_before n.symbol m) given jobs (not_after n.symbol m k) k
    ∙ sym (all_behind old old.last old.given n.symbol m jobs rest some job (some_then (int_lt n.symbol.start.0 old.since.0) _ rest job h).1 k))

rest_here : (old : JobCursor) (n : NextJob) (given : ℕ) (jobs some rest : List UplinkJob) (job : UplinkJob) → left_jobs old n.symbol some ≡ job ∷ rest
    → left_jobs (passed old n given) n.symbol jobs ≡ drop given jobs
rest_here old n given jobs some rest job h =
    ap (λ (b : Bool). let ys : List UplinkJob = if b then [] else left_behind given (Some n.symbol) n.symbol jobs in ys)
    (some_then (int_lt n.symbol.start.0 old.since.0) _ rest job h).0
    ∙ by_order_same (comes_before n.symbol n.symbol) (comes_before n.symbol n.symbol) given jobs (not_before_itself n.symbol) (not_before_itself n.symbol)

-- one more of those of which so many were given
one_more_given : (r : Option ℕ) (given most : ℕ) (js rest : List UplinkJob) (job : UplinkJob) → rest_of r js ≡ job ∷ rest → given ≡ min (unwrap_or r 0 + 1) most → SLOT_SECTIONS ≤ most
    → length js ≤ SLOT_SECTIONS → drop given js ≡ rest
one_more_given None given most js rest job h is large few = absurd (cc)
one_more_given (Some g) given most js rest job h is large few =
    let some : length js - g ≡ length (job ∷ rest) = sym (length-drop g js) ∙ ap length h in
    let next : given ≡ g + 1 = omega arith in
    ap (λ k. drop k js) next ∙ sym (drop-drop 1 g js) ∙ ap (λ xs. drop 1 xs) h

few_jobs : (accepted : List Allocation) (ep : ℕ) (e : EndpointConfig) (slot : Slot) (symbol : ℕ) → length accepted ≤ SLOT_SECTIONS → length (symbol_jobs accepted ep e slot symbol) ≤ SLOT_SECTIONS
unfolding symbol_jobs
few_jobs accepted ep e slot symbol h =
    let xs = reverse accepted in
    let p = sends_in ep slot symbol in
    let counted : length (jobs_at accepted (start_at ep e slot symbol)) ≡ length (filter p xs) =
    ap (λ ys. length (jobs_at ys (start_at ep e slot symbol))) (sym (reverse-reverse accepted)) ∙ length_jobs xs (start_at ep e slot symbol) in
    let a : length (filter p xs) ≡ count_by p xs = length-filter p xs in
    let b : count_by p xs ≤ length xs = count_by-le-length p xs in
    let d : length xs ≡ length accepted = length-reverse accepted in
    omega arith

left_in_is : (v : CellsValue) (cursor : JobCursor) (m : SymbolStart) → IsSymbol v m
    → left_in (cells_uplink v) cursor m ≡ left_jobs cursor m (symbol_jobs (cells_uplink v m.ep m.slot) m.ep m.endpoint m.slot m.symbol)
unfolding jobs_left
left_in_is v cursor m j =
    ap (λ x. left_jobs cursor x (symbol_jobs (cells_uplink v m.ep m.slot) m.ep m.endpoint m.slot m.symbol)) (sym (at_its_start v m j))

pub given_one : (v : CellsValue) (old : JobCursor) (n : NextJob) (r : Option ℕ) (given most : ℕ) → ((jobs : List UplinkJob) → left_jobs old n.symbol jobs ≡ rest_of r jobs)
    → given ≡ min (unwrap_or r 0 + 1) most → SLOT_SECTIONS ≤ most → IsFirstJob v old n → GivenOne v old n (record { since = old.since; last = Some n.symbol; given = given })
unfolding jobs_left
given_one v old n r given most left is large f =
    let m = n.symbol in
    let js = symbol_jobs (cells_uplink v m.ep m.slot) m.ep m.endpoint m.slot m.symbol in
    let few : length js ≤ SLOT_SECTIONS = few_jobs (cells_uplink v m.ep m.slot) m.ep m.endpoint m.slot m.symbol f.few in
    let first : left_jobs old m js ≡ n.job ∷ f.rest = sym (left_in_is v old m f.symbol) ∙ f.first in
    record {
      since = refl;
      last = refl;
      here = λ job rest h.
          left_in_is v (passed old n given) m f.symbol
          ∙ rest_here old n given js js f.rest n.job first
          ∙ one_more_given r given most js rest job (sym (left js) ∙ sym (left_in_is v old m f.symbol) ∙ h) is large few;
      before = λ uplink x h. nothing_before old n given (at_start x) _ h;
      behind = λ uplink x h. same_behind old n given (at_start x) _ js f.rest n.job first h;
    }

-- ---- at a later clock

past_max : (s a clock since : ℤ) → since ≡ int_max a clock → s <ℤ clock → int_lt s since ≡ true
past_max s a clock since is h = grind (arith, ints)

not_past_max : (s a clock since : ℤ) → since ≡ int_max a clock → clock ≤ℤ s → int_lt s since ≡ int_lt s a
not_past_max s a clock since is h = grind (arith, ints)

none_before : (cursor : JobCursor) (m : SymbolStart) (jobs : List UplinkJob) → int_lt m.start.0 cursor.since.0 ≡ true → left_jobs cursor m jobs ≡ []
none_before cursor m jobs h = ap (λ (b : Bool). let ys : List UplinkJob = if b then [] else left_behind cursor.given cursor.last m jobs in ys) h

-- all is left of a symbol that starts later than the last
all_later : (last : Option SymbolStart) (clock : ℤ) (given : ℕ) (m : SymbolStart) (jobs : List UplinkJob) → is_past clock last ≡ true → clock ≤ℤ m.start.0
    → left_behind given last m jobs ≡ jobs
all_later None clock given m jobs h k = refl
all_later (Some last) clock given m jobs h k =
    let earlier : last.start.0 <ℤ m.start.0 = grind (arith, ints) in
    let late : comes_before last m ≡ true = starts_before last m earlier in
    by_order_late (comes_before m last) (comes_before last m) given jobs (not_after last m late) late

pub settled_past : (clock : ℤ) (old : JobCursor) (since : Ticks) → since.0 ≡ int_max old.since.0 clock → is_past clock old.last ≡ true
    → Settled clock old (record { since = since; last = None; given = 0 })
unfolding jobs_left
settled_past clock old since is past = record {
  since = is;
  last = λ m h. absurd (cc);
  before = λ uplink m h. none_before (record { since = since; last = None; given = 0 }) (at_start m) _ (past_max (at_start m).start.0 old.since.0 clock since.0 is h);
  behind = λ uplink m h.
      let js = symbol_jobs (uplink m.ep m.slot) m.ep m.endpoint m.slot m.symbol in
      ap (λ (b : Bool). let ys : List UplinkJob = if b then [] else js in ys) (not_past_max (at_start m).start.0 old.since.0 clock since.0 is h)
      ∙ ap (λ (xs : List UplinkJob). let ys : List UplinkJob = if int_lt (at_start m).start.0 old.since.0 then [] else xs in ys)
      (sym (all_later old.last clock old.given (at_start m) js past h));
}

pub settled_there : (clock : ℤ) (old : JobCursor) (since : Ticks) → since.0 ≡ int_max old.since.0 clock
    → Settled clock old (record { since = since; last = old.last; given = old.given })
unfolding jobs_left
settled_there clock old since is = record {
  since = is;
  last = λ m h. h;
  before = λ uplink m h. none_before (record { since = since; last = old.last; given = old.given }) (at_start m) _ (past_max (at_start m).start.0 old.since.0 clock since.0 is h);
  behind = λ uplink m h.
      let js = symbol_jobs (uplink m.ep m.slot) m.ep m.endpoint m.slot m.symbol in
      ap (λ (b : Bool). let ys : List UplinkJob = if b then [] else left_behind old.given old.last (at_start m) js in ys)
      (not_past_max (at_start m).start.0 old.since.0 clock since.0 is h);
}

-- ---- the first message that is left

nothing : (js : List UplinkJob) → nat_lt 0 (length js) ≡ false → js ≡ []
nothing js h = nil_from_length js (let k = ltb-false 0 (length js) h in omega arith)

jobs_here : (v : CellsValue) (m : SymbolStart) (xs : List Allocation) → IsSymbol v m → reverse xs ≡ cells_uplink v m.ep m.slot
    → symbol_jobs (cells_uplink v m.ep m.slot) m.ep m.endpoint m.slot m.symbol ≡ jobs_at (reverse xs) m
unfolding symbol_jobs
jobs_here v m xs j uplink = ap (λ ys. jobs_at ys (at_start m)) (sym uplink) ∙ ap (λ x. jobs_at (reverse xs) x) (sym (at_its_start v m j))

left_at : (v : CellsValue) (cursor : JobCursor) (m : SymbolStart) (xs : List Allocation) → IsSymbol v m → reverse xs ≡ cells_uplink v m.ep m.slot
    → left_in (cells_uplink v) cursor m ≡ left_jobs cursor m (jobs_at (reverse xs) m)
left_at v cursor m xs j uplink =
    left_in_is v cursor m j ∙ ap (left_jobs cursor m) (jobs_here v m xs j uplink)

first_of : (js : List UplinkJob) (job : UplinkJob) → Some job ≡ slice_get js 0 → js ≡ job ∷ drop 1 js
first_of [] job h = absurd (cc)
first_of (j ∷ js) job h = cc

pub found_first : (v : CellsValue) (cursor : JobCursor) (m : SymbolStart) (xs : List Allocation) (job : UplinkJob) → reverse xs ≡ cells_uplink v m.ep m.slot → length xs ≤ SLOT_SECTIONS
    → IsFirstFitting v (is_job_left v cursor) m → Some job ≡ slice_get (left_jobs cursor m (jobs_at (reverse xs) m)) 0
    → IsFirstJob v cursor (record { symbol = m; job = job })
found_first v cursor m xs job uplink few f is =
    let told = left_at v cursor m xs f.was.is uplink in
    record {
      symbol = f.was.is;
      rest = drop 1 (left_jobs cursor m (jobs_at (reverse xs) m));
      first = told ∙ first_of _ job is;
      few = let d : length (reverse xs) ≡ length xs = length-reverse xs in let e : length (cells_uplink v m.ep m.slot) ≡ length (reverse xs) = sym (ap length uplink) in omega arith;
      before = λ n j h. nothing _ (false_from_ne_true (is_job_left v cursor n) (λ left. let k = f.first n (record { is = j; fit = left }) in cc));
    }

-- something is left
pub some_found : (v : CellsValue) (cursor : JobCursor) (m : SymbolStart) (xs : List Allocation) → reverse xs ≡ cells_uplink v m.ep m.slot
    → IsFirstFitting v (is_job_left v cursor) m → None ≡ slice_get (left_jobs cursor m (jobs_at (reverse xs) m)) 0 → ⊥
some_found v cursor m xs uplink f is =
    not_none _ (subst (λ (js : List UplinkJob). nat_lt 0 (length js) ≡ true) (left_at v cursor m xs f.was.is uplink) f.was.fit) is
  where
    not_none : (js : List UplinkJob) → nat_lt 0 (length js) ≡ true → None ≡ slice_get js 0 → ⊥
    not_none [] h k = absurd (cc)
    not_none (j ∷ js) h k = absurd (cc)

pub none_found : (v : CellsValue) (cursor : JobCursor) → IsFirst v (is_job_left v cursor) None → (m : SymbolStart) → IsSymbol v m → left_in (cells_uplink v) cursor m ≡ []
none_found v cursor f m j = nothing _ (f m j)
