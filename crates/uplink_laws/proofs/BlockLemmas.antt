-- The blocks that a plan's uplink data leave at the distributed unit.
use Rattle.std.proofs.Common.{◌≡◌, ℕ, ◌-◌, inl, inr, true, false, not, List, [], ◌∷◌, Some, refl, ap, sym, ◌∙◌, true≢false}
use Rattle.std.specs.List.{slice_index_or}
use Rattle.std.proofs.lemmas.Bool.{cases_Bool, and_parts, and_from, eq-eqb}
use Rattle.air_source.specs.declared.events.Side.TheVariants.{Du}
use Rattle.window_config.specs.declared.config.Config.{Config}
use Rattle.window_config.specs.declared.delays.Delays.{Delays}
use Rattle.window_config.specs.declared.plan.PlanKind.{PlanKind}
use Rattle.window_config.specs.declared.plan.PlanKind.TheVariants.{Down, Up, Idle}
use Rattle.window_config.specs.declared.plan.PlanLine.{PlanLine}
use Rattle.window_config.specs.declared.verdicts.Class.{Class}
use Rattle.window_config.specs.declared.verdicts.Class.TheVariants.{OnTime}
use Rattle.unit_model.specs.Blocks.{block_at, block_of, data_class, data_covers, data_prb_count, data_slot, first_data_prb, timely, with_timely}
use Rattle.unit_model.specs.Claims.{cell_at, covers, first_prb, is_from, prb_count, same_slot, same_way}
use Rattle.unit_model.specs.Meetings.{Arrival}
use Rattle.unit_model.specs.declared.allocations.Allocation.{Allocation}
use Rattle.unit_model.specs.declared.cells.Block.{Block}
use Rattle.unit_model.specs.declared.cells.Cell.{Cell}
use Rattle.unit_model.specs.declared.decoded.UserSection.{UserSection}
use Rattle.unit_laws.proofs.CellLemmas.{data_covers_is}
use Rattle.plan_model.specs.Lines.{line_allocation, is_down_kind, is_idle_kind, planned, is_up_line}
use Rattle.plan_model.specs.Streams.{Part, part_in}
use Rattle.plan_model.specs.declared.lines.PlannedLine.{PlannedLine}
use Rattle.schedule_laws.specs.Data.{Blocks, planned_block, radiates_in}
use Rattle.schedule_laws.proofs.BlockLemmas.{Radiating, find_radiating, no_block, one_block, planned_none, planned_one, radiated_by, same_block, same_cell, silent}
use Rattle.schedule_laws.proofs.CellLemmas.{one_section}
use Rattle.sent_frames.specs.Messages.{Source}
use Rattle.uplink_model.specs.Frames.{Antenna}
use Rattle.uplink_laws.specs.Data.{AreUplinksDecodedOnce, IsUplinkDataFor, antenna_blocks, EachUplinkIsDecodedOnce}
use Rattle.uplink_laws.specs.Premise.{BothArrive}
use Rattle.uplink_laws.proofs.DecodedLemmas.{IsTimely, ds, each_timely, line_sent, sections_of_wholes}
use Rattle.uplink_laws.proofs.ReadLemmas.{is_decoded}
use Rattle.unit_model.proofs.ClaimLemmas.{way_self as way_own, slot_self as slot_own, covers_is}
use Rattle.fh_base.specs.Members.{IsIn}

-- ---- data that are all on time

all_timely : (delays : Delays) (xs : List UserSection) → ((d : UserSection) → IsIn d xs → data_class Du delays d ≡ OnTime) → timely Du delays xs ≡ xs
unfolding timely
all_timely delays [] h = refl
all_timely delays (d ∷ xs) h =
    ap (λ (k : Class). with_timely k d (timely Du delays xs)) (h d (inl refl)) ∙ ap (λ (ys : List UserSection). d ∷ ys) (all_timely delays xs (λ e m. h e (inr m)))

-- ---- lines of the uplink

pub not_down : (k : PlanKind) → not (is_down_kind k) ≡ true → (is_down_kind k ≡ false) × (not (is_idle_kind k) ≡ true)
not_down Down h = absurd cc
not_down Up h = (refl, refl)
not_down Idle h = absurd cc

pub is_up : (k : PlanKind) → is_down_kind k ≡ false → not (is_down_kind k) ≡ true
is_up Down h = absurd cc
is_up Up h = refl
is_up Idle h = absurd cc

-- ---- a section and its line cover the same cells of the symbol

module _ (blocks : Blocks) (x : Part) (d : UserSection) (carries : IsUplinkDataFor blocks x d) (slot_is : data_slot d ≡ x.planned.line.slot) where
  abbrev a : Allocation
  a = line_allocation x.planned

  prbs_same : (n : ℕ) → is_from (first_data_prb d) (data_prb_count d) n ≡ is_from (first_prb a) (prb_count a) n
  prbs_same n = rw (carries.start_prb, carries.num_prb, carries.endpoint) refl

  first_same : first_data_prb d ≡ first_prb a
  first_same = rw (carries.start_prb, carries.num_prb) refl

  covers_line : (cell : Cell) → a.down ≡ false → is_from x.planned.line.symbol x.planned.line.count x.symbol ≡ true → data_covers d cell ≡ true → covers a cell ≡ true
  covers_line cell down within h =
      let w = data_covers_is d cell h in
      let ep : x.planned.ep ≡ cell.ep = sym carries.ep ∙ w.ep in
      let way : a.down ≡ cell.down = down ∙ sym carries.down ∙ w.down in
      let slot : x.planned.line.slot ≡ cell.slot = sym slot_is ∙ w.slot in
      let symbol : x.symbol ≡ cell.symbol = sym carries.symbol ∙ w.symbol in
      and_from _ _ (eq-eqb x.planned.ep cell.ep ep) (and_from _ _ (ap (λ t. same_way a.down t) (sym way) ∙ way_own a.down)
      (and_from _ _ (ap (λ t. same_slot x.planned.line.slot t) (sym slot) ∙ slot_own x.planned.line.slot)
      (and_from _ _ (ap (λ y. is_from x.planned.line.symbol x.planned.line.count y) (sym symbol) ∙ within) (sym (prbs_same cell.prb) ∙ w.prb))))

  line_covers : (cell : Cell) → x.symbol ≡ cell.symbol → a.down ≡ false → covers a cell ≡ true → data_covers d cell ≡ true
  line_covers cell symbol down h =
      let w = covers_is a cell h in
      let ep : d.ep ≡ cell.ep = carries.ep ∙ w.ep in
      let way : d.head.down ≡ cell.down = carries.down ∙ sym down ∙ w.down in
      let slot : data_slot d ≡ cell.slot = slot_is ∙ w.slot in
      and_from _ _ (eq-eqb d.ep cell.ep ep) (and_from _ _ (ap (λ t. same_way d.head.down t) (sym way) ∙ way_own d.head.down)
      (and_from _ _ (ap (λ t. same_slot (data_slot d) t) (sym slot) ∙ slot_own (data_slot d))
      (and_from _ _ (eq-eqb d.section.symbol cell.symbol (carries.symbol ∙ symbol)) (prbs_same cell.prb ∙ w.prb))))

  block_is : (cell : Cell) → data_covers d cell ≡ true → block_of d cell ≡ record { id = x.planned.line.section; samples = blocks cell }
  block_is cell h =
      let w = data_covers_is d cell h in
      let within : is_from (first_prb a) (prb_count a) cell.prb ≡ true = sym (prbs_same cell.prb) ∙ w.prb in
      let it : cell_at x.planned.ep false x.planned.line.slot x.symbol cell.prb ≡ cell =
      same_cell (cell_at x.planned.ep false x.planned.line.slot x.symbol cell.prb) cell (sym carries.ep ∙ w.ep) (sym carries.down ∙ w.down) (sym slot_is ∙ w.slot) (sym carries.symbol ∙ w.symbol) refl in
      same_block (block_of d cell) (record { id = x.planned.line.section; samples = blocks cell }) carries.id
      (ap (λ n. slice_index_or d.blocks (cell.prb - n) []) first_same ∙ carries.samples cell.prb within ∙ ap (λ (z : Cell). blocks z) it)

-- ---- all of it

module _ (c : Config) (lines : List PlanLine) (source : Source) (antenna : Antenna) (down up : List Arrival) (h : BothArrive c lines source antenna down up) where
  abbrev ps : List PlannedLine
  ps = planned c.endpoints lines

  abbrev blocks : Blocks
  blocks = antenna_blocks c antenna

  abbrev all : List UserSection
  all = ds c lines source antenna down up h

  timely_is : (d : UserSection) → IsIn d all → (x : Part) × IsTimely c lines source antenna down up h x d
  timely_is d m = each_timely c lines source antenna down up h d m

  timely_all : timely Du c.delays all ≡ all
  timely_all = all_timely c.delays all (λ d m. (timely_is d m).1.class)

  -- two lines that are taken in at a cell have one section id
  same_section : (cell : Cell) (p q : PlannedLine) → IsIn p ps → IsIn q ps → radiates_in p cell ≡ true → radiates_in q cell ≡ true → q.line.section ≡ p.line.section
  same_section cell p q m n is is_q =
      let x = and_parts (not (line_allocation p).idle) (covers (line_allocation p) cell) is in
      let y = and_parts (not (line_allocation q).idle) (covers (line_allocation q) cell) is_q in
      one_section c lines h.sendable.config h.sendable.lines_fit h.sendable.valid cell p q m n x.1 y.1

  abbrev line_block : Cell → ℕ → Block
  line_block cell id = record { id = id; samples = blocks cell }

  section_taken : (d : UserSection) → IsIn d all → (cell : Cell) → data_covers d cell ≡ true → (p : PlannedLine) × IsIn p ps × (radiates_in p cell ≡ true) × (block_of d cell ≡ line_block cell p.line.section)
  section_taken d m cell is =
      let x = (timely_is d m).0 in
      let t = (timely_is d m).1 in
      let kind = not_down x.planned.line.kind t.facts.uplink in
      let covered = covers_line blocks x d t.carries t.slot_is cell kind.0 t.facts.symbol is in
      (x.planned, t.facts.from, and_from _ _ kind.1 covered, block_is blocks x d t.carries t.slot_is cell is)

  block_planned : (cell : Cell) → cell.down ≡ false → Radiating ps cell → block_at all cell ≡ planned_block blocks ps cell
  block_planned cell way (silent none) =
      no_block all cell (λ d m. elim (cases_Bool (data_covers d cell)) [
        | inr other ↦ other
        | inl is ↦ (let r = section_taken d m cell is in absurd (true≢false (sym r.2 ∙ none r.0 r.1)))
      ]) ∙ sym (planned_none blocks ps cell none)
  block_planned cell way (radiated_by p m is) =
      let parts = and_parts (not (line_allocation p).idle) (covers (line_allocation p) cell) is in
      let covered = covers_is (line_allocation p) cell parts.1 in
      let p_down : (line_allocation p).down ≡ false = covered.down ∙ way in
      let d = line_sent c lines source antenna down up h p cell.symbol m (is_up p.line.kind p_down) covered.symbol in
      one_block all cell (line_block cell p.line.section) d.0
      (λ e n covers_e. (let r = section_taken e n cell covers_e in r.3 ∙ ap (λ i. line_block cell i) (same_section cell p r.0 m r.1 is r.2)))
      d.1 (line_covers blocks (part_in cell.symbol p) d.0 d.2.carries d.2.slot_is cell refl p_down parts.1)
      ∙ sym (planned_one blocks ps cell p.line.section p (λ q n r. same_section cell p q m n is r) m is)

  block_is_planned : (cell : Cell) → cell.down ≡ false → block_at (timely Du c.delays all) cell ≡ planned_block blocks ps cell
  block_is_planned cell way = ap (λ (xs : List UserSection). block_at xs cell) timely_all ∙ block_planned cell way (find_radiating ps cell)

  -- that of any line that covers the cell
  block_of_any : (cell : Cell) (p : PlannedLine) → IsIn p ps → is_up_line p ≡ true → covers (line_allocation p) cell ≡ true → block_at (timely Du c.delays all) cell ≡ Some (line_block cell p.line.section)
  block_of_any cell p m uplink is =
      let kind = not_down p.line.kind uplink in
      let taken : radiates_in p cell ≡ true = and_from _ _ kind.1 is in
      block_is_planned cell (sym (covers_is (line_allocation p) cell is).down ∙ kind.0)
      ∙ planned_one blocks ps cell p.line.section p (λ q n r. same_section cell p q m n taken r) m taken

  pub decoded_once : AreUplinksDecodedOnce c (planned c.endpoints lines) antenna up
  decoded_once = record {
    wholes_say = sections_of_wholes c lines source antenna down up h;
    messages = λ ep e n first last at there. is_decoded c lines source h.sendable antenna h.can ep e n at there first last;
    each = λ d m.
        (let x = (timely_is d m).0 in
        let t = (timely_is d m).1 in
        record { part = x; planned_is = t.facts.from; uplink = t.facts.uplink; carries = t.carries; slot = t.slot_is; class = t.class });
    every = λ p symbol m uplink within.
        (let d = line_sent c lines source antenna down up h p symbol m uplink within in record { section = d.0; came = d.1; carries = d.2.carries; slot = d.2.slot_is });
    blocks_are = block_is_planned;
    any_line = block_of_any;
  }

pub each_uplink_is_decoded_once : EachUplinkIsDecodedOnce
each_uplink_is_decoded_once = decoded_once
