-- What claims and blocks of a plan radiate.
use Rattle.std.proofs.Common.{◌≡◌, ℕ, zero, suc, ℤ, pos, ◌+◌, ◌*◌, ◌<◌, ◌≤◌, ◌+ℤ◌, ◌-ℤ◌, ◌⊎◌, inl, inr, Bool, true, false, not, ◌&&◌, ◌==◌, if◌then◌else◌, List, [], ◌∷◌, map, Option, Some, None, refl, ap, ap₂, sym, ◌∙◌, arith}
use Rattle.std.specs.Prelude.{All}
use Rattle.std.proofs.lemmas.Bool.{cases_Bool, cases_eq, and_parts, and_from, eq-eqb, eqb-true, or_right}
use Rattle.std.proofs.lemmas.Int.{ints}
use Rattle.std.specs.Cmp.{both_ways}
use Rattle.fh_base.specs.Air.{air_of}
use Rattle.fh_base.specs.declared.values.Slot.{Slot}
use Rattle.air_source.specs.declared.events.AirCell.{AirCell}
use Rattle.air_source.specs.declared.events.Side.TheVariants.{Ru}
use Rattle.bfp_codec.specs.declared.samples.Wide.{Wide}
use Rattle.window_config.specs.Configs.{IsConfig}
use Rattle.window_config.specs.Plans.{IsPlanLine}
use Rattle.window_config.specs.declared.config.Config.{Config}
use Rattle.window_config.specs.declared.endpoints.EndpointConfig.{EndpointConfig}
use Rattle.window_config.specs.declared.plan.PlanLine.{PlanLine}
use Rattle.unit_model.specs.Blocks.{block_at}
use Rattle.unit_model.specs.Claims.{cell_at, claim_at, claim_of, covers, in_mask, names}
use Rattle.unit_model.specs.Meetings.{Arrival}
use Rattle.unit_model.specs.Radiated.{cell_id, cell_report, first_clock, id_from, id_or, is_used, report_of, reported, samples_under, symbol_report, used_below, used_mask}
use Rattle.unit_model.specs.Reports.{accepted_of, ru_known, ru_reported, timely_of}
use Rattle.unit_model.specs.Sweeps.{sweep}
use Rattle.unit_model.specs.declared.allocations.Allocation.{Allocation}
use Rattle.unit_model.specs.declared.cells.Block.{Block}
use Rattle.unit_model.specs.declared.cells.Cell.{Cell}
use Rattle.unit_model.specs.declared.cells.Claim.{Claim}
use Rattle.unit_laws.proofs.ReportLemmas.{report_same}
use Rattle.unit_model.proofs.SweepLemmas.{sweep-same}
use Rattle.plan_model.specs.Lines.{line_allocation, planned}
use Rattle.plan_model.specs.Valid.{IsValid}
use Rattle.plan_model.specs.Validity.{clash, share_bit, share_cell}
use Rattle.plan_model.specs.declared.lines.PlannedLine.{PlannedLine}
use Rattle.plan_model.proofs.ClashLemmas.{both_cover, claimed}
use Rattle.schedule_laws.specs.Cells.{mask_below, planned_air, planned_cell, planned_event, planned_mask, planned_section, planned_symbol, radiates, ThePlanRadiates}
use Rattle.schedule_laws.specs.Data.{AreWritten, Blocks, planned_block, radiates_in}
use Rattle.schedule_laws.specs.Premise.{AllArrive, Texts}
use Rattle.plan_model.proofs.AcceptedLemmas.{AreAllowed}
use Rattle.schedule_laws.proofs.BlockLemmas.{decoded_once}
use Rattle.plan_model.proofs.ScheduleClashLemmas.{own_claim}
use Rattle.schedule_laws.proofs.CommandLemmas.{commanded_once}
use Rattle.plan_model.proofs.LineLemmas.{allowed, are_one}
use Rattle.fh_base.specs.Members.{IsIn}
use Rattle.fh_base.proofs.MemberLemmas.{among, any_in}
use Rattle.fh_base.proofs.MadeLists.{in_map, of_map}
use Rattle.fh_base.proofs.CommonLemmas.{each_same}

-- ---- masks

mask_same : (claims : ℕ → Option Claim) (test : ℕ → Bool) (n : ℕ) → ((re : ℕ) → re < n → is_used (claims re) ≡ test re) → used_below claims n ≡ mask_below test n
unfolding used_below mask_below
mask_same claims test zero h = refl
mask_same claims test (suc n) h =
    ap₂ (λ (low : ℕ) (b : Bool). 2 * low + (if b then 1 else 0)) (mask_same claims test n (λ re below. h re (omega arith))) (h n (omega arith))

pub has_element : (test : ℕ → Bool) (n : ℕ) → (mask_below test n ≡ 0) ⊎ ((re : ℕ) × (re < n) × (test re ≡ true))
unfolding mask_below
has_element test zero = inl refl
has_element test (suc n) = elim (has_element test n) [
  | inr w ↦ inr (w.0, (let b = w.1 in omega (arith, b)), w.2)
  | inl e ↦ elim (cases_Bool (test n)) [
    | inl is ↦ inr (n, omega arith, is)
    | inr other ↦ inl (ap₂ (λ (m : ℕ) (b : Bool). 2 * m + (if b then 1 else 0)) e other)
  ]
]

-- ---- the id of a cell in which all claims have one

abbrev pub IsUnder : ℕ → Option Claim → Type 0
IsUnder id None = Unit {0}
IsUnder id (Some c) = c.id ≡ id

id_first : (o : Option Claim) (id rest : ℕ) → IsUnder id o → rest ≡ id → id_or o rest ≡ id
id_first None id rest h e = e
id_first (Some c) id rest h e = h

some_first : (o : Option Claim) (id rest : ℕ) (c : Claim) → IsUnder id o → o ≡ Some c → id_or o rest ≡ id
some_first None id rest c h e = absurd cc
some_first (Some d) id rest c h e = h

pub id_is : (claims : ℕ → Option Claim) (id from n k : ℕ) (c : Claim) → ((re : ℕ) → re < from + n → IsUnder id (claims re)) → from ≤ k → k < from + n → claims k ≡ Some c → id_from claims from n ≡ id
unfolding id_from
id_is claims id from zero k c h low high e = absurd (omega arith)
id_is claims id from (suc n) k c h low high e = elim (cases_eq k from) [
  | inl here ↦ some_first (claims from) id (id_from claims (from + 1) n) c (h from (omega arith)) (ap claims (sym here) ∙ e)
  | inr ne ↦ id_first (claims from) id (id_from claims (from + 1) n) (h from (omega arith))
      (id_is claims id (from + 1) n k c (λ re below. h re (omega arith)) (omega (arith, ne)) (omega arith) e)
]

-- ---- a plan's claims

module _ (c : Config) (lines : List PlanLine) (config : IsConfig c) (fit : All IsPlanLine lines) (valid : IsValid c lines) where
  abbrev all_lines : List PlannedLine
  all_lines = planned c.endpoints lines

  abbrev all_named : List Allocation
  all_named = map line_allocation all_lines

  all_allowed : AreAllowed all_named
  all_allowed = allowed c lines config fit valid

  line_named : (cell : Cell) (re : ℕ) (b : Allocation) → IsIn b all_named → names b cell re ≡ true → (p : PlannedLine) × IsIn p all_lines × (names (line_allocation p) cell re ≡ true) × (claim_of b ≡ claim_of (line_allocation p))
  line_named cell re b m is =
      let p = of_map line_allocation b all_lines m in
      (p.0, p.1, ap (λ (a : Allocation). names a cell re) (sym p.2) ∙ is, ap (λ (a : Allocation). claim_of a) p.2)

  pub line_claims : (cell : Cell) (re : ℕ) (p : PlannedLine) → re < 12 → IsIn p all_lines → names (line_allocation p) cell re ≡ true → claim_at all_named cell re ≡ Some (claim_of (line_allocation p))
  line_claims cell re p below m is = own_claim all_named (line_allocation p) cell re all_allowed.clear below (in_map line_allocation p all_lines m) is

  used_is : (cell : Cell) (re : ℕ) → re < 12 → is_used (claim_at all_named cell re) ≡ radiates all_lines cell re
  used_is cell re below = both_ways (is_used (claim_at all_named cell re)) (radiates all_lines cell re) (forth (claim_at all_named cell re) refl) back
    where
      forth : (o : Option Claim) → claim_at all_named cell re ≡ o → is_used o ≡ true → radiates all_lines cell re ≡ true
      forth None e u = absurd cc
      forth (Some d) e u =
          let k = claimed all_named cell re d e in
          let p = line_named cell re k.b k.there k.names_it in
          let used : not (line_allocation p.0).idle ≡ true = ap (λ (x : Claim). not x.idle) (sym (k.is ∙ p.3)) ∙ u in
          any_in (λ (q : PlannedLine). not (line_allocation q).idle && names (line_allocation q) cell re) p.0 all_lines p.1 (and_from _ _ used p.2)

      back : radiates all_lines cell re ≡ true → is_used (claim_at all_named cell re) ≡ true
      back r =
          let k = among (λ (q : PlannedLine). not (line_allocation q).idle && names (line_allocation q) cell re) all_lines r in
          let parts = and_parts (not (line_allocation k.x).idle) (names (line_allocation k.x) cell re) k.is in
          ap (λ (o : Option Claim). is_used o) (line_claims cell re k.x below k.there parts.1) ∙ parts.0

  pub mask_is : (cell : Cell) → used_mask (claim_at all_named cell) ≡ planned_mask all_lines cell
  mask_is cell = mask_same (claim_at all_named cell) (radiates all_lines cell) 12 (used_is cell)

  -- all lines in a cell have one section id
  pub one_section : (cell : Cell) (p q : PlannedLine) → IsIn p all_lines → IsIn q all_lines → covers (line_allocation p) cell ≡ true → covers (line_allocation q) cell ≡ true → q.line.section ≡ p.line.section
  one_section cell p q m n a b = elim (cases_Bool (p.line.section == q.line.section)) [
    | inl same ↦ sym (eqb-true p.line.section q.line.section same)
    | inr differ ↦
        let both : clash (line_allocation p) (line_allocation q) ≡ true =
        and_from (share_cell (line_allocation p) (line_allocation q)) _ (both_cover (line_allocation p) (line_allocation q) cell a b) (or_right (share_bit p.line.mask q.line.mask) _ (ap not differ)) in
        ap (λ (r : PlannedLine). r.line.section) (sym (are_one c lines config fit valid p q m n both))
  ]

  pub all_under : (cell : Cell) (p : PlannedLine) (re : ℕ) → IsIn p all_lines → covers (line_allocation p) cell ≡ true → (o : Option Claim) → claim_at all_named cell re ≡ o → IsUnder p.line.section o
  all_under cell p re m is None e = tt
  all_under cell p re m is (Some d) e =
      let k = claimed all_named cell re d e in
      let q = line_named cell re k.b k.there k.names_it in
      let parts = and_parts (covers (line_allocation q.0) cell) (in_mask q.0.line.mask re) q.2 in
      ap (λ (x : Claim). x.id) (k.is ∙ q.3) ∙ one_section cell p q.0 m q.1 is parts.0

  pub section_is : (qs : List PlannedLine) (cell : Cell) (p : PlannedLine) → ((q : PlannedLine) → IsIn q qs → IsIn q all_lines) → IsIn p qs → radiates_in p cell ≡ true → planned_section qs cell ≡ p.line.section
  section_is [] cell p within m is = absurd m
  section_is (q ∷ qs) cell p within m is = elim (cases_Bool (radiates_in q cell)) [
    | inl now ↦
        let x = and_parts (not (line_allocation p).idle) (covers (line_allocation p) cell) is in
        let y = and_parts (not (line_allocation q).idle) (covers (line_allocation q) cell) now in
        rw now (one_section cell p q (within p m) (within q (inl refl)) x.1 y.1)
    | inr other ↦ elim m [
      | inl here ↦ absurd (no (sym is ∙ ap (λ (r : PlannedLine). radiates_in r cell) here ∙ other))
      | inr there ↦ rw other (section_is qs cell p (λ r k. within r (inr k)) there is)
    ]
  ]
    where
      no : true ≡ false → ⊥
      no q = cc

-- ---- what a plan radiates

pub own_samples : (id : ℕ) (samples : List Wide) → samples_under id (Some (record { id = id; samples = samples })) ≡ Some samples
own_samples id samples = ap (λ (b : Bool). let o : Option (List Wide) = if b then Some samples else None in o) (eq-eqb id id refl)

module _ (c : Config) (lines : List PlanLine) (text : Texts) (blocks : Blocks) (arrivals : List Arrival) (h : AllArrive c lines text arrivals) (w : AreWritten c (planned c.endpoints lines) text blocks) where
  abbrev ps : List PlannedLine
  ps = planned c.endpoints lines

  abbrev ls : List Allocation
  ls = map line_allocation ps

  planned_is : (qs : List PlannedLine) (cell : Cell) (p : PlannedLine) → IsIn p qs → radiates_in p cell ≡ true → planned_block blocks qs cell ≡ Some (record { id = planned_section qs cell; samples = blocks cell })
  planned_is [] cell p m is = absurd m
  planned_is (q ∷ qs) cell p m is = elim (cases_Bool (radiates_in q cell)) [
    | inl now ↦ rw now refl
    | inr other ↦ elim m [
      | inl here ↦ absurd (no (sym is ∙ ap (λ (r : PlannedLine). radiates_in r cell) here ∙ other))
      | inr there ↦ rw other (planned_is qs cell p there is)
    ]
  ]
    where
      no : true ≡ false → ⊥
      no q = cc

  -- ---- one cell

  abbrev plan_report : EndpointConfig → Cell → ℤ → List AirCell
  plan_report e cell start = report_of Ru e cell start (claim_at ls cell) (planned_block blocks ps cell)

  radiating : (e : EndpointConfig) (cell : Cell) (start : ℤ) (re : ℕ) → re < 12 → radiates ps cell re ≡ true → (planned_mask ps cell == 0) ≡ false
      → plan_report e cell start ≡ planned_event blocks ps e cell start ∷ []
  radiating e cell start re below r some =
      let k = among (λ (q : PlannedLine). not (line_allocation q).idle && names (line_allocation q) cell re) ps r in
      let p = k.x in
      let parts = and_parts (not (line_allocation p).idle) (names (line_allocation p) cell re) k.is in
      let cover = and_parts (covers (line_allocation p) cell) (in_mask p.line.mask re) parts.1 in
      let in_cell : radiates_in p cell ≡ true = and_from _ _ parts.0 cover.0 in
      let section = section_is c lines h.config h.lines_fit h.valid ps cell p (λ q m. m) k.there in_cell in
      let ids : cell_id (claim_at ls cell) ≡ planned_section ps cell =
      id_is (claim_at ls cell) p.line.section 0 12 re (claim_of (line_allocation p)) (λ i small. all_under c lines h.config h.lines_fit h.valid cell p i k.there cover.0 (claim_at ls cell i) refl) (omega arith) (omega (arith, below))
      (line_claims c lines h.config h.lines_fit h.valid cell re p below k.there parts.1) ∙ sym section in
      let block = planned_is ps cell p k.there in_cell in
      let samples : samples_under (planned_section ps cell) (planned_block blocks ps cell) ≡ Some (blocks cell) =
      ap (λ (o : Option Block). samples_under (planned_section ps cell) o) block ∙ own_samples (planned_section ps cell) (blocks cell) in
      let masks = mask_is c lines h.config h.lines_fit h.valid cell in
      rw (masks, some, ids, samples) refl

  cell_is : (e : EndpointConfig) (cell : Cell) (start : ℤ) → plan_report e cell start ≡ (if planned_mask ps cell == 0 then [] else planned_event blocks ps e cell start ∷ [])
  cell_is e cell start = elim (cases_Bool (planned_mask ps cell == 0)) [
    | inl none ↦ (let masks = mask_is c lines h.config h.lines_fit h.valid cell in rw (masks, none) refl)
    | inr some ↦ elim (has_element (radiates ps cell) 12) [
      | inl zero_mask ↦ absurd (no (sym (eq-eqb (planned_mask ps cell) 0 zero_mask) ∙ some))
      | inr k ↦ radiating e cell start k.0 k.1 k.2 some ∙ sym (ap (λ (b : Bool). let xs : List AirCell = if b then [] else planned_event blocks ps e cell start ∷ [] in xs) some)
    ]
  ]
    where
      no : true ≡ false → ⊥
      no q = cc

  -- ---- all of them

  symbol_is : (ep : ℕ) (e : EndpointConfig) (slot : Slot) (symbol : ℕ) → symbol_report Ru (ru_known c arrivals) ep e slot symbol ≡ planned_symbol blocks ps ep e slot symbol
  unfolding symbol_report
  symbol_is ep e slot symbol =
      each_same 0 e.prbs (cell_report Ru (ru_known c arrivals) ep e slot symbol) (planned_cell blocks ps ep e slot symbol) (λ prb above below.
      (let cell = cell_at ep true slot symbol prb in
      let claims = (commanded_once c lines text arrivals h).claims cell in
      let block = (decoded_once c lines text blocks arrivals h w).blocks_are cell refl in
      report_same Ru e cell (air_of e.numerology slot symbol) (claim_at (accepted_of c arrivals) cell) (claim_at ls cell) (block_at (timely_of Ru c arrivals) cell) (planned_block blocks ps cell) claims block
      ∙ cell_is e cell (air_of e.numerology slot symbol)))

  no_wait : (z : ℤ) → z -ℤ pos 0 ≡ z
  no_wait z = omega (arith, ints)

  pub plan_radiates : (to : ℤ) → ru_reported c arrivals to ≡ planned_air c blocks (planned c.endpoints lines) to
  unfolding reported
  plan_radiates to =
      ap₂ (λ (f t : ℤ). sweep (symbol_report Ru (ru_known c arrivals)) c.endpoints f (t +ℤ pos 1)) (no_wait first_clock) (no_wait to)
      ∙ sweep-same (symbol_report Ru (ru_known c arrivals)) (planned_symbol blocks ps) c.endpoints first_clock (to +ℤ pos 1) (λ ep e slot symbol tick low high swept. symbol_is ep e slot symbol)

pub the_plan_radiates : ThePlanRadiates
the_plan_radiates = plan_radiates
