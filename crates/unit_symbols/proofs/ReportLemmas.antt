-- The report of a symbol's lent cells as far as a PRB, one PRB more, and what it says of the rings.
use Rattle.std.proofs.Common.{◌≡◌, ℕ, ◌+◌, ◌-◌, ◌<◌, ◌≤◌, ◌==◌, Bool, true, false, inl, inr, refl, List, [], ◌∷◌, ◌++◌, map, sym, ap, ◌∙◌, subst, arith, append_assoc, append-nil, Option, Some, Result, Ok, Err}
use Rattle.std.specs.Prelude.{OnOk, if◌then◌else◌}
use Rattle.std.proofs.lemmas.Bool.{cases_Bool}
use Rattle.std.proofs.lemmas.List.{map-append}
use Rattle.air_source.specs.declared.events.AirCell.{AirCell}
use Rattle.air_source.specs.declared.events.Event.{Event}
use Rattle.air_source.specs.declared.events.Event.TheVariants.{Cell as Reported}
use Rattle.air_source.specs.declared.events.Side.TheVariants.{Ru}
use Rattle.fh_base.specs.Lists.{each}
use Rattle.unit_model.specs.Radiated.{report_of, used_mask}
use Rattle.unit_model.specs.declared.cells.Block.{Block}
use Rattle.unit_model.specs.declared.cells.Claim.{Claim}
use Rattle.unit_model.specs.declared.symbol_start.SymbolStart.{SymbolStart}
use Rattle.slot_rings.specs.Places.{is_in_use}
use Rattle.slot_rings.specs.Symbols.{lent_block, lent_claim, lent_reported}
use Rattle.slot_rings.specs.declared.symbol_cells.SymbolCells.{SymbolCells}
use Rattle.slot_rings.specs.Rings.{RingValue, ring_claim, ring_reported}
use Rattle.slot_rings.specs.Symbols.{AreCellsOf}
use Rattle.unit_cells.specs.Cells.{CellsValue, block_from, claim_from, reported_from, ring_of}
use Rattle.unit_symbols.specs.DueSymbols.{CountsTold, ReportsTold, StopsAtCell, cell_in, left_at, left_told}
use Rattle.unit_symbols.specs.Tellings.{StopsAtPrb, StopsInOne, lent_below, lent_told}
use Rattle.unit_symbols.proofs.CountLemmas.{counts_none, counts_then}
use Rattle.fh_base.proofs.EachLemmas.{each_more, each_none, each_split}
use Rattle.fh_base.proofs.CommonLemmas.{each_same}
use Rattle.fh_base.proofs.Orders.{is_true}

-- ---- one PRB more

module _ {A : Type 0} (grew : A → List Event → A → Type 0) (cells : SymbolCells) (m : SymbolStart) where
  pub heard_none : (n : ℕ) (a : A) → lent_below cells m n ≡ [] → grew a [] a → grew a (map Reported (lent_below cells m n)) a
  heard_none n a empty none = subst (λ (told : List AirCell). grew a (map Reported told) a) (sym empty) none

  pub heard_more : (more : (a b c : A) (first second : List Event) → grew a first b → grew b second c → grew a (first ++ second) c)
      (n : ℕ) (a b c : A) → grew a (map Reported (lent_below cells m n)) b → grew b (map Reported (lent_told cells m n)) c → grew a (map Reported (lent_below cells m (n + 1))) c
  heard_more more n a b c before heard =
      subst (λ (es : List Event). grew a es c)
      (sym (map-append Reported (lent_below cells m n) (lent_told cells m n)) ∙ ap (λ (xs : List AirCell). map Reported xs) (sym (each_more n (lent_told cells m))))
      (more a b c (map Reported (lent_below cells m n)) (map Reported (lent_told cells m n)) before heard)

  pub stops_there : (stopped : A → Event → A → Type 0) (n : ℕ) (co cn : List ℕ) (a b c : A) → n < m.endpoint.prbs → grew a (map Reported (lent_below cells m n)) b
      → StopsInOne stopped (lent_told cells m n) co cn b c → StopsAtPrb grew stopped cells m n a c
  stops_there stopped n co cn a b c below heard stop = record {
    within = below;
    cell = stop.cell;
    is = stop.is;
    middle = b;
    heard = heard;
    stop = stop.stop;
  }

pub counts_zero : (told : List AirCell) (counts : List ℕ) → told ≡ [] → CountsTold told counts counts
counts_zero told counts empty = subst (λ (xs : List AirCell). CountsTold xs counts counts) (sym empty) (counts_none counts)

pub counts_more : (cells : SymbolCells) (m : SymbolStart) (n : ℕ) (old middle new : List ℕ) → CountsTold (lent_below cells m n) old middle → CountsTold (lent_told cells m n) middle new
    → CountsTold (lent_below cells m (n + 1)) old new
counts_more cells m n old middle new before told =
    subst (λ (xs : List AirCell). CountsTold xs old new) (sym (each_more n (lent_told cells m))) (counts_then (lent_below cells m n) (lent_told cells m n) old middle new before told)

-- ---- the PRBs outside of which no cell is in use

none_told : (from n : ℕ) (f : ℕ → List AirCell) → ((k : ℕ) → from ≤ k → k < from + n → f k ≡ []) → each from n f ≡ []
none_told from n f none = each_same from n f (λ k. []) none ∙ each_none from n (λ k. []) (λ k. refl)

module _ (cells : SymbolCells) (m : SymbolStart) (within : cells.span.end ≤ m.endpoint.prbs)
    (unused : (prb : ℕ) → prb < m.endpoint.prbs → (cells.span.first ≤ prb → cells.span.end ≤ prb) → is_in_use (lent_claim cells prb) ≡ false) where
  outside_none : (prb : ℕ) → prb < m.endpoint.prbs → (cells.span.first ≤ prb → cells.span.end ≤ prb) → lent_told cells m prb ≡ []
  outside_none prb below outside = elim (cases_Bool (lent_reported cells prb)) [
    | inl reported ↦ rw reported refl
    | inr fresh ↦
        let idle : (used_mask (lent_claim cells prb) == 0) ≡ true = is_true (used_mask (lent_claim cells prb) == 0) (unused prb below outside) in
        rw (fresh, idle) refl
  ]

  pub none_before : (n : ℕ) → n ≤ cells.span.first → n ≤ cells.span.end → lent_below cells m n ≡ []
  none_before n low high = none_told 0 n (lent_told cells m) (λ k above below.
      outside_none k (omega (arith, below, high, within)) (λ from. omega (arith, from, below, low)))

  pub none_behind : (n : ℕ) → cells.span.end ≤ n → n ≤ m.endpoint.prbs → lent_below cells m n ≡ lent_below cells m m.endpoint.prbs
  none_behind n low high =
      let count : m.endpoint.prbs ≡ n + (m.endpoint.prbs - n) = omega (arith, high) in
      sym (ap (λ (k : ℕ). lent_below cells m k) count
      ∙ each_split 0 n (m.endpoint.prbs - n) (lent_told cells m)
      ∙ ap (λ (xs : List AirCell). lent_below cells m n ++ xs)
      (none_told (0 + n) (m.endpoint.prbs - n) (lent_told cells m) (λ k above below.
      outside_none k (omega (arith, below, high)) (λ from. omega (arith, above, low))))
      ∙ append-nil (lent_below cells m n))

-- ---- what was lent is what the rings answer

-- what is left of the first n PRBs
abbrev pub left_below : CellsValue → SymbolStart → ℕ → List AirCell
left_below v m n = each 0 n (left_told v m)

-- the first n are all of them
pub all_below : (v : CellsValue) (m : SymbolStart) (n : ℕ) → n ≡ m.endpoint.prbs → left_below v m n ≡ left_at v m
unfolding left_at
all_below v m n e = ap (λ (k : ℕ). each 0 k (left_told v m)) e

module _ (v : CellsValue) (m : SymbolStart) (r : RingValue) (there : ring_of v m.ep ≡ Some r) (cells : SymbolCells) (are : AreCellsOf r m.slot m.symbol cells) where
  lent_left : (prb : ℕ) → lent_told cells m prb ≡ left_told v m prb
  lent_left prb =
      let claims : lent_claim cells prb ≡ ring_claim r (cell_in m prb) = λ i re. are.claims m.ep prb re i in
      ap (λ (t : Bool). if t then [] else report_of Ru m.endpoint (cell_in m prb) m.start.0 (lent_claim cells prb) (lent_block cells prb)) (are.reported m.ep prb)
      ∙ ap (λ (c : ℕ → Option Claim). if ring_reported r (cell_in m prb) then [] else report_of Ru m.endpoint (cell_in m prb) m.start.0 c (lent_block cells prb)) claims
      ∙ ap (λ (b : Option Block). if ring_reported r (cell_in m prb) then [] else report_of Ru m.endpoint (cell_in m prb) m.start.0 (ring_claim r (cell_in m prb)) b) (are.blocks m.ep prb)
      ∙ sym (ap (λ (o : Option RingValue). if reported_from o (cell_in m prb) then [] else report_of Ru m.endpoint (cell_in m prb) m.start.0 (claim_from o (cell_in m prb)) (block_from o (cell_in m prb))) there)

  pub below_left : (n : ℕ) → lent_below cells m n ≡ left_below v m n
  below_left n = each_same 0 n (lent_told cells m) (left_told v m) (λ k low high. lent_left k)

  pub all_left : (n : ℕ) → n ≡ m.endpoint.prbs → lent_below cells m n ≡ left_at v m
  all_left n e = below_left n ∙ all_below v m n e

  -- all that is left, about a PRB of which one cell is left
  parted : (n : ℕ) (cell : AirCell) → n < m.endpoint.prbs → left_told v m n ≡ cell ∷ []
      → left_at v m ≡ left_below v m n ++ cell ∷ each (n + 1) (m.endpoint.prbs - (n + 1)) (left_told v m)
  unfolding left_at
  parted n cell below one =
      let rest = each (n + 1) (m.endpoint.prbs - (n + 1)) (left_told v m) in
      let count : m.endpoint.prbs ≡ (n + 1) + (m.endpoint.prbs - (n + 1)) = omega (arith, below) in
      let place : 0 + (n + 1) ≡ n + 1 = omega arith in
      ap (λ (k : ℕ). each 0 k (left_told v m)) count
      ∙ each_split 0 (n + 1) (m.endpoint.prbs - (n + 1)) (left_told v m)
      ∙ ap (λ (k : ℕ). each 0 (n + 1) (left_told v m) ++ each k (m.endpoint.prbs - (n + 1)) (left_told v m)) place
      ∙ ap (λ (xs : List AirCell). xs ++ rest) (each_more n (left_told v m) ∙ ap (λ (xs : List AirCell). left_below v m n ++ xs) one)
      ∙ append_assoc (left_below v m n) (cell ∷ []) rest

  -- where the air stopped, those before are set as reported and counted
  pub stops_at : {A : Type 0} (grew : A → List Event → A → Type 0) (stopped : A → Event → A → Type 0) (n : ℕ) (new : CellsValue) (co cn : List ℕ) (a c : A)
      → ReportsTold m (left_below v m n) v new → CountsTold (lent_below cells m n) co cn → StopsAtPrb grew stopped cells m n a c
      → StopsAtCell grew stopped m v new co cn a c
  stops_at grew stopped n new co cn a c reports counts stop = record {
    told = left_below v m n;
    cell = stop.cell;
    rest = each (n + 1) (m.endpoint.prbs - (n + 1)) (left_told v m);
    is = parted n stop.cell stop.within (sym (lent_left n) ∙ stop.is);
    reports = reports;
    counts = subst (λ (xs : List AirCell). CountsTold xs co cn) (below_left n) counts;
    middle = stop.middle;
    heard = subst (λ (xs : List AirCell). grew a (map Reported xs) stop.middle) (below_left n) stop.heard;
    stop = stop.stop;
  }

-- ---- an answer

pub ok_then : {T E P Q R : Type 0} (r : Result T E) → OnOk r P → OnOk r Q → (P → Q → R) → OnOk r R
ok_then (Ok x) p q f = f p q
ok_then (Err e) p q f = tt
