-- What a unit has to look up.
use Rattle.std.proofs.Common.{◌≡◌, ℕ, ◌+◌, ◌<◌, ◌≤◌, Bool, true, false, ◌&&◌, ◌||◌, List, [], ◌∷◌, ◌++◌, length, refl, sym, ap, ap₂, ◌∙◌, subst, arith}
use Rattle.std.specs.Prelude.{◌==◌, if◌then◌else◌, is_some, filter, reverse, map, cond}
use Rattle.std.specs.List.{list_any}
use Rattle.std.proofs.lemmas.Bool.{and_from, eq-eqb}
use Rattle.std.proofs.lemmas.List.{append-nil, reverse-append}
use Rattle.std.proofs.lemmas.List.Elements.{filter-append}
use Rattle.fh_base.specs.Air.{air_of}
use Rattle.unit_model.specs.Terms.{AirCell, is_down}
use Rattle.unit_model.specs.Blocks.{block_at, data_prb_count, data_slot, every_data_cell, first_data_prb, has_all}
use Rattle.unit_model.specs.Claims.{cell_at, cell_of, claim_at, covers, every_cell, first_prb, is_claimed, is_from, is_overlapped, overlaps, prb_count, repeats, same_slot, same_way, some_cell}
use Rattle.unit_model.specs.Commands.{is_uplink, uplink_in}
use Rattle.fh_base.specs.Lists.{every, in_order, some}
use Rattle.unit_model.specs.Proper.{IsAt, IsSlot}
use Rattle.unit_model.specs.Radiated.{air_cell}
use Rattle.unit_model.specs.Standing.{cell_heard, same_cell, uplink_of}
use Rattle.unit_model.specs.Uplink.{is_before, job_of, sends_in, symbol_jobs}
use Rattle.unit_model.specs.declared.allocations.Allocation.{Allocation}
use Rattle.unit_model.specs.declared.cells.Cell.{Cell}
use Rattle.unit_laws.specs.Lookups.{CoveredAreCells, RepeatsByLookup, OverlapsByLookup, HasAllByLookup, UplinkIsCounted, JobsAreOfTheirSlot, ReportedByLookup}
use Rattle.unit_laws.proofs.DifferLemmas.{other_swap}
use Rattle.unit_laws.proofs.DueLemmas.{filter_both}
use Rattle.unit_laws.specs.Touched.{is_uplink_of}
use Rattle.unit_model.proofs.ClaimLemmas.{within_carrier, is_in, way_self, slot_self, every_same, some_same, claimed_same, overlapped_same, from_within, covers_is}

-- ---- the cells that are covered

below_all : (symbol count all y : ℕ) → symbol + count ≤ all → y < symbol + count → y < all
below_all symbol count all y h k = omega arith

pub covered_cells : CoveredAreCells
covered_cells c a cell proper covered =
    let is = covers_is a cell covered in
    record {
      endpoint = subst (λ (k : ℕ). IsAt c.endpoints k a.endpoint) is.ep proper.endpoint;
      slot = subst (IsSlot a.endpoint.numerology) is.slot proper.slot;
      symbol = below_all a.symbol a.num_symbol _ cell.symbol proper.within (from_within a.symbol a.num_symbol cell.symbol is.symbol);
      prb = within_carrier a.endpoint.prbs a.start_prb a.num_prb cell.prb proper.prbs is.prb;
    }

covers_own : (a : Allocation) (y n : ℕ) → a.symbol ≤ y → y < a.symbol + a.num_symbol → first_prb a ≤ n → n < first_prb a + prb_count a → covers a (cell_of a y n) ≡ true
covers_own a y n p q r s =
    and_from (a.ep == a.ep) _ (eq-eqb a.ep a.ep refl)
    (and_from (same_way a.down a.down) _ (way_self a.down)
    (and_from (same_slot a.slot a.slot) _ (slot_self a.slot)
    (and_from (is_from a.symbol a.num_symbol y) (is_from (first_prb a) (prb_count a) n) (is_in a.symbol a.num_symbol y p q) (is_in (first_prb a) (prb_count a) n r s))))

-- a test of all cells rests on those that are covered
pub every_cell-same : (a : Allocation) (p q : Cell → Bool) → ((cell : Cell) → covers a cell ≡ true → p cell ≡ q cell) → every_cell a p ≡ every_cell a q
unfolding every_cell
every_cell-same a p q same =
    every_same a.symbol a.num_symbol (λ y. every (first_prb a) (prb_count a) (λ n. p (cell_of a y n))) (λ y. every (first_prb a) (prb_count a) (λ n. q (cell_of a y n)))
    (λ y above below.
    every_same (first_prb a) (prb_count a) (λ n. p (cell_of a y n)) (λ n. q (cell_of a y n)) (λ n over under. same (cell_of a y n) (covers_own a y n above below over under)))

pub some_cell-same : (a : Allocation) (p q : Cell → Bool) → ((cell : Cell) → covers a cell ≡ true → p cell ≡ q cell) → some_cell a p ≡ some_cell a q
unfolding some_cell
some_cell-same a p q same =
    some_same a.symbol a.num_symbol (λ y. some (first_prb a) (prb_count a) (λ n. p (cell_of a y n))) (λ y. some (first_prb a) (prb_count a) (λ n. q (cell_of a y n)))
    (λ y above below.
    some_same (first_prb a) (prb_count a) (λ n. p (cell_of a y n)) (λ n. q (cell_of a y n)) (λ n over under. same (cell_of a y n) (covers_own a y n above below over under)))

pub repeats_by_lookup : RepeatsByLookup
unfolding repeats
repeats_by_lookup a claims earlier agree =
    every_cell-same a (λ cell. is_claimed a.section a.mask (claims cell)) (λ cell. is_claimed a.section a.mask (claim_at earlier cell)) (λ cell covered.
    claimed_same a.section a.mask (claims cell) (claim_at earlier cell) (λ re below. agree cell re covered below))

pub overlaps_by_lookup : OverlapsByLookup
unfolding overlaps
overlaps_by_lookup a claims earlier agree =
    some_cell-same a (λ cell. is_overlapped a.section a.mask (claims cell)) (λ cell. is_overlapped a.section a.mask (claim_at earlier cell)) (λ cell covered.
    overlapped_same a.section a.mask (claims cell) (claim_at earlier cell) (λ re below. agree cell re covered below))

pub has_all_by_lookup : HasAllByLookup
unfolding has_all every_data_cell
has_all_by_lookup x blocks earlier agree =
    let own = λ (n : ℕ). cell_at x.ep x.head.down (data_slot x) x.section.symbol n in
    every_same (first_data_prb x) (data_prb_count x) (λ n. is_some (blocks (own n))) (λ n. is_some (block_at earlier (own n))) (λ n above below.
    ap is_some (agree (own n)
    (and_from (x.ep == x.ep) _ (eq-eqb x.ep x.ep refl)
    (and_from (same_way x.head.down x.head.down) _ (way_self x.head.down)
    (and_from (same_slot (data_slot x) (data_slot x)) _ (slot_self (data_slot x))
    (and_from (x.section.symbol == x.section.symbol) (is_from (first_data_prb x) (data_prb_count x) n) (eq-eqb x.section.symbol x.section.symbol refl)
    (is_in (first_data_prb x) (data_prb_count x) n above below)))))))

-- ---- the uplink sections of a slot

count_step : (b : Bool) (a : Allocation) (n : ℕ) (xs : List Allocation) → n ≡ length xs → n + (if b then 1 else 0) ≡ length (cond b (a ∷ xs) xs)
count_step true a n xs e = omega arith
count_step false a n xs e = omega arith

pub uplink_counted : UplinkIsCounted
uplink_counted ep slot [] = refl
uplink_counted ep slot (a ∷ earlier) =
    count_step (is_uplink_of ep slot a) a (uplink_in ep slot earlier) (uplink_of ep slot earlier) (uplink_counted ep slot earlier)

reverse_step : {A : Type 0} (b : Bool) (x : A) (xs : List A) → reverse xs ++ cond b (x ∷ []) [] ≡ reverse (cond b (x ∷ xs) xs)
reverse_step true x xs = sym (reverse-append (x ∷ []) xs)
reverse_step false x xs = append-nil (reverse xs)

pub filter-reverse : {A : Type 0} (p : A → Bool) (xs : List A) → filter p (reverse xs) ≡ reverse (filter p xs)
filter-reverse p [] = refl
filter-reverse p (x ∷ xs) =
    ap (filter p) (reverse-append (x ∷ []) xs) ∙ filter-append p (reverse xs) (x ∷ [])
    ∙ ap (λ ys. ys ++ filter p (x ∷ [])) (filter-reverse p xs) ∙ reverse_step (p x) x (filter p xs)

again : (a b c d : Bool) → (a && (b && (c && d))) ≡ ((a && (b && c)) && (a && (b && (c && d))))
again true true true d = refl
again true true false d = refl
again true false c d = refl
again false b c d = refl

pub jobs_of_their_slot : JobsAreOfTheirSlot
unfolding symbol_jobs
jobs_of_their_slot earlier ep e slot symbol =
    let s = sends_in ep slot symbol in
    let u = is_uplink_of ep slot in
    let both : filter s (reverse earlier) ≡ filter s (filter u (reverse earlier)) =
    filter_both u s s (λ a. again (is_uplink a) (a.ep == ep) (same_slot a.slot slot) (is_from a.symbol a.num_symbol symbol)) (reverse earlier) in
    ap (λ (xs : List Allocation). map (job_of ep (air_of e.numerology slot symbol) slot symbol) (in_order is_before xs))
    (both ∙ ap (filter s) (filter-reverse u earlier))

-- ---- reports

same_comm : (a b : AirCell) → same_cell a b ≡ same_cell b a
same_comm a b = go (same_cell a b) (same_cell b a) (other_swap a b) (other_swap b a)
  where
    go : (x y : Bool) → (x ≡ false → y ≡ false) → (y ≡ false → x ≡ false) → x ≡ y
    go true true p q = refl
    go false false p q = refl
    go true false p q = q refl
    go false true p q = sym (p refl)

any_same : (p q : AirCell → Bool) → ((a : AirCell) → p a ≡ q a) → (xs : List AirCell) → list_any p xs ≡ list_any q xs
any_same p q same [] = refl
any_same p q same (x ∷ xs) = ap₂ ◌||◌ (same x) (any_same p q same xs)

pub reported_by_lookup : ReportedByLookup
reported_by_lookup side e cell start claims block heard down =
    let r = air_cell side e cell start claims block in
    any_same (same_cell r) (cell_heard e cell) (λ a.
    same_comm r a
    ∙ ap (λ (w : Bool).
    same_way (is_down a.side) w && ((a.id == e.id) && (same_slot a.slot cell.slot && ((a.symbol == cell.symbol) && (a.prb == cell.prb))))) (sym down)) heard
