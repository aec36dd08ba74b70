-- The blocks that a plan's data leave.
use Rattle.std.proofs.Common.{◌≡◌, ℕ, ◌-◌, ◌⊎◌, inl, inr, Bool, true, false, not, ◌==◌, if◌then◌else◌, List, [], ◌∷◌, Option, Some, None, refl, ap, sym, ◌∙◌}
use Rattle.std.specs.List.{slice_index_or}
use Rattle.std.proofs.lemmas.Bool.{cases_Bool, and_parts, and_from, eq-eqb, eqb-true, or_right}
use Rattle.air_source.specs.declared.events.Side.TheVariants.{Ru}
use Rattle.window_config.specs.declared.config.Config.{Config}
use Rattle.window_config.specs.declared.delays.Delays.{Delays}
use Rattle.window_config.specs.declared.plan.PlanLine.{PlanLine}
use Rattle.window_config.specs.declared.verdicts.Class.{Class}
use Rattle.window_config.specs.declared.verdicts.Class.TheVariants.{OnTime}
use Rattle.unit_model.specs.Blocks.{block_at, block_in, block_of, data_class, data_covers, data_prb_count, data_slot, first_data_prb, timely, with_timely}
use Rattle.unit_model.specs.Claims.{cell_at, covers, first_prb, is_from, prb_count, same_slot, same_way}
use Rattle.fh_base.specs.Lists.{or_else}
use Rattle.unit_model.specs.Meetings.{Arrival}
use Rattle.unit_model.specs.declared.allocations.Allocation.{Allocation}
use Rattle.unit_model.specs.declared.cells.Block.{Block}
use Rattle.unit_model.specs.declared.cells.Cell.{Cell}
use Rattle.unit_model.specs.declared.decoded.UserSection.{UserSection}
use Rattle.unit_laws.proofs.CellLemmas.{data_covers_is}
use Rattle.plan_model.specs.Lines.{line_allocation, planned}
use Rattle.plan_model.specs.Streams.{Part, part_in}
use Rattle.plan_model.specs.Validity.{clash, share_bit, share_cell}
use Rattle.plan_model.specs.declared.lines.PlannedLine.{PlannedLine}
use Rattle.plan_model.proofs.ClashLemmas.{both_cover}
use Rattle.schedule_laws.specs.Data.{AreDecodedOnce, AreWritten, Blocks, IsDataFor, planned_block, radiates_in, EachIsDecodedOnce}
use Rattle.schedule_laws.specs.Premise.{AllArrive, Texts}
use Rattle.plan_model.proofs.LineLemmas.{are_one}
use Rattle.schedule_laws.proofs.WholeLemmas.{IsTimely, each_timely, ds, line_sent, whole_once}
use Rattle.unit_model.proofs.ClaimLemmas.{way_self as way_own, slot_self as slot_own, covers_is}
use Rattle.fh_base.specs.Members.{IsIn}

-- ---- data that are all on time

all_timely : (delays : Delays) (xs : List UserSection) → ((d : UserSection) → IsIn d xs → data_class Ru delays d ≡ OnTime) → timely Ru delays xs ≡ xs
unfolding timely
all_timely delays [] h = refl
all_timely delays (d ∷ xs) h =
    ap (λ (k : Class). with_timely k d (timely Ru delays xs)) (h d (inl refl)) ∙ ap (λ (ys : List UserSection). d ∷ ys) (all_timely delays xs (λ e m. h e (inr m)))

-- ---- the block of a cell

not_covering : (d : UserSection) (cell : Cell) → data_covers d cell ≡ false → block_in d cell ≡ None
not_covering d cell h = ap (λ (b : Bool). let o : Option Block = if b then Some (block_of d cell) else None in o) h

covering : (d : UserSection) (cell : Cell) → data_covers d cell ≡ true → block_in d cell ≡ Some (block_of d cell)
covering d cell h = ap (λ (b : Bool). let o : Option Block = if b then Some (block_of d cell) else None in o) h

or_none : (x y : Option Block) → y ≡ None → or_else x y ≡ x
or_none None y e = e
or_none (Some b) y e = refl

or_found : (x y : Option Block) (b : Block) → (x ≡ None) ⊎ (x ≡ Some b) → y ≡ Some b → or_else x y ≡ Some b
or_found x y b (inl n) e = ap (λ (o : Option Block). or_else o y) n ∙ e
or_found x y b (inr s) e = ap (λ (o : Option Block). or_else o y) s

pub no_block : (xs : List UserSection) (cell : Cell) → ((d : UserSection) → IsIn d xs → data_covers d cell ≡ false) → block_at xs cell ≡ None
unfolding block_at
no_block [] cell h = refl
no_block (d ∷ xs) cell h = or_none (block_at xs cell) (block_in d cell) (not_covering d cell (h d (inl refl))) ∙ no_block xs cell (λ e m. h e (inr m))

-- one that all that cover it give, or none
one_or_none : (xs : List UserSection) (cell : Cell) (b : Block) → ((d : UserSection) → IsIn d xs → data_covers d cell ≡ true → block_of d cell ≡ b) → (block_at xs cell ≡ None) ⊎ (block_at xs cell ≡ Some b)
unfolding block_at
one_or_none [] cell b h = inl refl
one_or_none (d ∷ xs) cell b h = go (one_or_none xs cell b (λ e m. h e (inr m))) (cases_Bool (data_covers d cell))
  where
    go : (block_at xs cell ≡ None) ⊎ (block_at xs cell ≡ Some b) → (data_covers d cell ≡ true) ⊎ (data_covers d cell ≡ false)
        → (or_else (block_at xs cell) (block_in d cell) ≡ None) ⊎ (or_else (block_at xs cell) (block_in d cell) ≡ Some b)
    go before (inl is) = inr (or_found (block_at xs cell) (block_in d cell) b before (covering d cell is ∙ ap (λ (x : Block). Some x) (h d (inl refl) is)))
    go (inl n) (inr other) = inl (or_none (block_at xs cell) (block_in d cell) (not_covering d cell other) ∙ n)
    go (inr s) (inr other) = inr (or_none (block_at xs cell) (block_in d cell) (not_covering d cell other) ∙ s)

pub one_block : (xs : List UserSection) (cell : Cell) (b : Block) (d : UserSection) → ((e : UserSection) → IsIn e xs → data_covers e cell ≡ true → block_of e cell ≡ b) → IsIn d xs → data_covers d cell ≡ true
    → block_at xs cell ≡ Some b
unfolding block_at
one_block [] cell b d h m is = absurd m
one_block (e ∷ xs) cell b d h m is = go m (one_or_none xs cell b (λ f n. h f (inr n))) (cases_Bool (data_covers e cell)) (λ n. one_block xs cell b d (λ f k. h f (inr k)) n is)
  where
    no : true ≡ false → ⊥
    no q = cc

    go : (d ≡ e) ⊎ IsIn d xs → (block_at xs cell ≡ None) ⊎ (block_at xs cell ≡ Some b) → (data_covers e cell ≡ true) ⊎ (data_covers e cell ≡ false) → (IsIn d xs → block_at xs cell ≡ Some b)
        → or_else (block_at xs cell) (block_in e cell) ≡ Some b
    go n before (inl covers_e) rest = or_found (block_at xs cell) (block_in e cell) b before (covering e cell covers_e ∙ ap (λ (x : Block). Some x) (h e (inl refl) covers_e))
    go (inl here) before (inr other) rest = absurd (no (sym is ∙ ap (λ (z : UserSection). data_covers z cell) here ∙ other))
    go (inr there) before (inr other) rest = or_none (block_at xs cell) (block_in e cell) (not_covering e cell other) ∙ rest there

-- ---- the plan's block of a cell

pub data Radiating (ps : List PlannedLine) (cell : Cell) : Type 0 where
  radiated_by : (p : PlannedLine) → IsIn p ps → radiates_in p cell ≡ true → Radiating ps cell
  silent : ((p : PlannedLine) → IsIn p ps → radiates_in p cell ≡ false) → Radiating ps cell

pub find_radiating : (ps : List PlannedLine) (cell : Cell) → Radiating ps cell
find_radiating [] cell = silent (λ p m. absurd m)
find_radiating (q ∷ ps) cell = elim (cases_Bool (radiates_in q cell)) [
  | inl is ↦ radiated_by q (inl refl) is
  | inr other ↦ elim (find_radiating ps cell) [
    | radiated_by p m is ↦ radiated_by p (inr m) is
    | silent none ↦ silent (λ p m. elim m [ inl here ↦ (ap (λ (x : PlannedLine). radiates_in x cell) here ∙ other) | inr there ↦ none p there ])
  ]
]

block_of_line : Blocks → Cell → ℕ → Block
block_of_line blocks cell id = record { id = id; samples = blocks cell }

pub planned_none : (blocks : Blocks) (ps : List PlannedLine) (cell : Cell) → ((p : PlannedLine) → IsIn p ps → radiates_in p cell ≡ false) → planned_block blocks ps cell ≡ None
planned_none blocks [] cell h = refl
planned_none blocks (p ∷ ps) cell h = rw (h p (inl refl)) (planned_none blocks ps cell (λ q m. h q (inr m)))

pub planned_one : (blocks : Blocks) (ps : List PlannedLine) (cell : Cell) (id : ℕ) (p : PlannedLine) → ((q : PlannedLine) → IsIn q ps → radiates_in q cell ≡ true → q.line.section ≡ id) → IsIn p ps
    → radiates_in p cell ≡ true → planned_block blocks ps cell ≡ Some (record { id = id; samples = blocks cell })
planned_one blocks [] cell id p h m is = absurd m
planned_one blocks (q ∷ ps) cell id p h m is = elim (cases_Bool (radiates_in q cell)) [
  | inl now ↦ rw now (ap (λ (i : ℕ). let b : Block = record { id = i; samples = blocks cell } in Some b) (h q (inl refl) now))
  | inr other ↦ elim m [
    | inl here ↦ absurd (no (sym is ∙ ap (λ (x : PlannedLine). radiates_in x cell) here ∙ other))
    | inr there ↦ rw other (planned_one blocks ps cell id p (λ r k. h r (inr k)) there is)
  ]
]
  where
    no : true ≡ false → ⊥
    no q = cc

-- ---- a section and its line cover the same cells of the symbol

pub same_cell : (a b : Cell) → a.ep ≡ b.ep → a.down ≡ b.down → a.slot ≡ b.slot → a.symbol ≡ b.symbol → a.prb ≡ b.prb → a ≡ b
same_cell a b e1 e2 e3 e4 e5 =
    let same : (let x : Cell = record { ep = a.ep; down = a.down; slot = a.slot; symbol = a.symbol; prb = a.prb } in x)
    ≡ (let y : Cell = record { ep = b.ep; down = b.down; slot = b.slot; symbol = b.symbol; prb = b.prb } in y) = rw (e1, e2, e3, e4, e5) refl in
    same

pub same_block : (a b : Block) → a.id ≡ b.id → a.samples ≡ b.samples → a ≡ b
same_block a b e1 e2 =
    let same : (let x : Block = record { id = a.id; samples = a.samples } in x) ≡ (let y : Block = record { id = b.id; samples = b.samples } in y) = rw (e1, e2) refl in
    same

module _ (blocks : Blocks) (x : Part) (d : UserSection) (carries : IsDataFor blocks x d) (slot_is : data_slot d ≡ x.planned.line.slot) where
  abbrev a : Allocation
  a = line_allocation x.planned

  prbs_same : (n : ℕ) → is_from (first_data_prb d) (data_prb_count d) n ≡ is_from (first_prb a) (prb_count a) n
  prbs_same n = rw (carries.start_prb, carries.num_prb, carries.endpoint) refl

  first_same : first_data_prb d ≡ first_prb a
  first_same = rw (carries.start_prb, carries.num_prb) refl

  covers_line : (cell : Cell) → a.down ≡ true → is_from x.planned.line.symbol x.planned.line.count x.symbol ≡ true → data_covers d cell ≡ true → covers a cell ≡ true
  covers_line cell down within h =
      let w = data_covers_is d cell h in
      let ep : x.planned.ep ≡ cell.ep = sym carries.ep ∙ w.ep in
      let way : a.down ≡ cell.down = down ∙ sym carries.down ∙ w.down in
      let slot : x.planned.line.slot ≡ cell.slot = sym slot_is ∙ w.slot in
      let symbol : x.symbol ≡ cell.symbol = sym carries.symbol ∙ w.symbol in
      and_from _ _ (eq-eqb x.planned.ep cell.ep ep) (and_from _ _ (ap (λ t. same_way a.down t) (sym way) ∙ way_own a.down)
      (and_from _ _ (ap (λ t. same_slot x.planned.line.slot t) (sym slot) ∙ slot_own x.planned.line.slot)
      (and_from _ _ (ap (λ y. is_from x.planned.line.symbol x.planned.line.count y) (sym symbol) ∙ within) (sym (prbs_same cell.prb) ∙ w.prb))))

  line_covers : (cell : Cell) → x.symbol ≡ cell.symbol → a.down ≡ true → covers a cell ≡ true → data_covers d cell ≡ true
  line_covers cell symbol down h =
      let w = covers_is a cell h in
      let ep : d.ep ≡ cell.ep = carries.ep ∙ w.ep in
      let way : d.head.down ≡ cell.down = carries.down ∙ sym down ∙ w.down in
      let slot : data_slot d ≡ cell.slot = slot_is ∙ w.slot in
      and_from _ _ (eq-eqb d.ep cell.ep ep) (and_from _ _ (ap (λ t. same_way d.head.down t) (sym way) ∙ way_own d.head.down)
      (and_from _ _ (ap (λ t. same_slot (data_slot d) t) (sym slot) ∙ slot_own (data_slot d))
      (and_from _ _ (eq-eqb d.section.symbol cell.symbol (carries.symbol ∙ symbol)) (prbs_same cell.prb ∙ w.prb))))

  block_is : (cell : Cell) → data_covers d cell ≡ true → block_of d cell ≡ record { id = x.planned.line.section; samples = blocks cell }
  block_is cell h =
      let w = data_covers_is d cell h in
      let within : is_from (first_prb a) (prb_count a) cell.prb ≡ true = sym (prbs_same cell.prb) ∙ w.prb in
      let it : cell_at x.planned.ep true x.planned.line.slot x.symbol cell.prb ≡ cell =
      same_cell (cell_at x.planned.ep true x.planned.line.slot x.symbol cell.prb) cell (sym carries.ep ∙ w.ep) (sym carries.down ∙ w.down) (sym slot_is ∙ w.slot) (sym carries.symbol ∙ w.symbol) refl in
      same_block (block_of d cell) (record { id = x.planned.line.section; samples = blocks cell }) carries.id
      (ap (λ n. slice_index_or d.blocks (cell.prb - n) []) first_same ∙ carries.samples cell.prb within ∙ ap (λ (z : Cell). blocks z) it)

-- ---- all of it

module _ (c : Config) (lines : List PlanLine) (text : Texts) (blocks : Blocks) (arrivals : List Arrival) (h : AllArrive c lines text arrivals) (w : AreWritten c (planned c.endpoints lines) text blocks) where
  abbrev ps : List PlannedLine
  ps = planned c.endpoints lines

  abbrev all : List UserSection
  all = ds c lines text blocks arrivals h w

  timely_is : (d : UserSection) → IsIn d all → (x : Part) × IsTimely c lines text blocks arrivals h w x d
  timely_is d m = each_timely c lines text blocks arrivals h w d m

  timely_all : timely Ru c.delays all ≡ all
  timely_all = all_timely c.delays all (λ d m. (timely_is d m).1.class)

  -- two lines that radiate in a cell have one section id
  one_section : (cell : Cell) (p q : PlannedLine) → IsIn p ps → IsIn q ps → radiates_in p cell ≡ true → radiates_in q cell ≡ true → q.line.section ≡ p.line.section
  one_section cell p q m n a b = elim (cases_Bool (p.line.section == q.line.section)) [
    | inl same ↦ sym (eqb-true p.line.section q.line.section same)
    | inr differ ↦
        let x = and_parts (not (line_allocation p).idle) (covers (line_allocation p) cell) a in
        let y = and_parts (not (line_allocation q).idle) (covers (line_allocation q) cell) b in
        let both : clash (line_allocation p) (line_allocation q) ≡ true =
        and_from (share_cell (line_allocation p) (line_allocation q)) _ (both_cover (line_allocation p) (line_allocation q) cell x.1 y.1)
        (or_right (share_bit p.line.mask q.line.mask) _ (ap not differ)) in
        ap (λ (r : PlannedLine). r.line.section) (sym (are_one c lines h.config h.lines_fit h.valid p q m n both))
  ]

  section_radiates : (d : UserSection) → IsIn d all → (cell : Cell) → data_covers d cell ≡ true → (p : PlannedLine) × IsIn p ps × (radiates_in p cell ≡ true) × (block_of d cell ≡ block_of_line blocks cell p.line.section)
  unfolding block_of_line
  section_radiates d m cell is =
      let x = (timely_is d m).0 in
      let t = (timely_is d m).1 in
      let covered = covers_line blocks x d t.carries t.slot_is cell t.facts.down t.facts.symbol is in
      (x.planned, t.facts.from, and_from _ _ t.facts.used covered, block_is blocks x d t.carries t.slot_is cell is)

  block_planned : (cell : Cell) → cell.down ≡ true → Radiating ps cell → block_at all cell ≡ planned_block blocks ps cell
  unfolding block_of_line
  block_planned cell down (silent none) =
      no_block all cell (λ d m. elim (cases_Bool (data_covers d cell)) [
        | inr other ↦ other
        | inl is ↦ (let r = section_radiates d m cell is in absurd (no (sym r.2 ∙ none r.0 r.1)))
      ]) ∙ sym (planned_none blocks ps cell none)
    where
      no : true ≡ false → ⊥
      no q = cc
  block_planned cell down (radiated_by p m is) =
      let parts = and_parts (not (line_allocation p).idle) (covers (line_allocation p) cell) is in
      let covered = covers_is (line_allocation p) cell parts.1 in
      let p_down : (line_allocation p).down ≡ true = covered.down ∙ down in
      let d = line_sent c lines text blocks arrivals h w p cell.symbol m p_down parts.0 covered.symbol in
      let b = block_of_line blocks cell p.line.section in
      one_block all cell b d.0
      (λ e n covers_e. (let r = section_radiates e n cell covers_e in r.3 ∙ ap (λ i. block_of_line blocks cell i) (one_section cell p r.0 m r.1 is r.2)))
      d.1 (line_covers blocks (part_in cell.symbol p) d.0 d.2.carries d.2.slot_is cell refl p_down parts.1)
      ∙ sym (planned_one blocks ps cell p.line.section p (λ q n r. one_section cell p q m n is r) m is)

  pub decoded_once : AreDecodedOnce c (planned c.endpoints lines) text blocks arrivals
  decoded_once = record {
    whole = λ ep j below. whole_once c lines text blocks arrivals h w ep j below;
    each = λ d m.
        (let x = (timely_is d m).0 in
        let t = (timely_is d m).1 in
        record { part = x; planned_is = t.facts.from; carries = t.carries; slot = t.slot_is; class = t.class });
    every = λ p symbol m down idle within.
        (let d = line_sent c lines text blocks arrivals h w p symbol m down (ap not idle) within in record { section = d.0; came = d.1; carries = d.2.carries; slot = d.2.slot_is });
    blocks_are = λ cell down. ap (λ (xs : List UserSection). block_at xs cell) timely_all ∙ block_planned cell down (find_radiating ps cell);
  }

pub each_is_decoded_once : EachIsDecodedOnce
each_is_decoded_once = decoded_once
