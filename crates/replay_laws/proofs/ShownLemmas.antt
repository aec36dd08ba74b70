-- What a cell shows was received in time.
use Rattle.std.proofs.Common.{◌≡◌, ℕ, ℤ, pos, ◌+ℤ◌, ◌-ℤ◌, ◌-◌, ◌<◌, true, false, List, [], refl, sym, ap, ap₂, ◌∙◌, subst, arith, length}
use Rattle.std.specs.Prelude.{◌==◌, All, Some}
use Rattle.std.proofs.lemmas.Option.{slice_get-get_or}
use Rattle.std.proofs.lemmas.List.Elements.{All-contains}
use Rattle.fh_base.specs.Air.{air_of}
use Rattle.fh_base.specs.declared.values.Slot.{Slot}
use Rattle.bfp_codec.specs.declared.samples.Wide.{Wide}
use Rattle.air_source.specs.declared.events.AirCell.{AirCell}
use Rattle.air_source.specs.declared.events.Side.{Side}
use Rattle.air_source.specs.declared.events.Side.TheVariants.{Ru, Du}
use Rattle.window_config.specs.Windows.{data_window_of}
use Rattle.window_config.specs.declared.config.Config.{Config}
use Rattle.window_config.specs.declared.endpoints.EndpointConfig.{EndpointConfig}
use Rattle.window_config.specs.declared.delays.Delays.{Delays}
use Rattle.window_config.specs.declared.verdicts.Class.TheVariants.{OnTime}
use Rattle.window_config.proofs.Timing.{class_on_time, class_up_on_time}
use Rattle.unit_model.specs.Blocks.{block_at, data_class, data_covers, data_prb_count, data_slot, data_start, first_data_prb}
use Rattle.unit_model.specs.Claims.{cell_at, claim_at, in_mask, is_from}
use Rattle.unit_model.specs.Meetings.{Arrival}
use Rattle.unit_model.specs.Proper.{IsAt, IsProperData, IsTime}
use Rattle.unit_model.specs.Radiated.{Known, air_cell, cell_id, cell_report, first_clock, reported, samples_under, symbol_report, used_mask, wait_of}
use Rattle.unit_model.specs.Reports.{accepted_of, commands_of, data_of, timely_of}
use Rattle.unit_model.specs.Standing.{AreInTime}
use Rattle.unit_model.specs.declared.allocations.Allocation.{Allocation}
use Rattle.unit_model.specs.declared.cells.Block.{Block}
use Rattle.unit_model.specs.declared.cells.Cell.{Cell}
use Rattle.unit_model.specs.declared.cells.Claim.{Claim}
use Rattle.unit_model.specs.declared.decoded.UserSection.{UserSection}
use Rattle.unit_laws.specs.Far.{IsHeardData}
use Rattle.unit_laws.proofs.AcceptanceLemmas.{accepted_is_acceptable}
use Rattle.unit_laws.proofs.CellLemmas.{data_covers_is}
use Rattle.unit_laws.proofs.FarLemmas.{endpoints_equal}
use Rattle.unit_laws.proofs.HistoryLemmas.{data_are_heard, data_are_proper}
use Rattle.unit_laws.proofs.DifferLemmas.{all_kept}
use Rattle.unit_model.proofs.SweepLemmas.{each_related, sweep_related}
use Rattle.replay_laws.proofs.CameLemmas.{arrivals_in_time}
use Rattle.replay_laws.specs.Moments.{all_arrivals, end_of_time}
use Rattle.replay_laws.specs.Passing.{AreLandings}
use Rattle.replay_laws.specs.Traffic.{Traffic, known_at, landings_at}
use Rattle.replay_laws.specs.Shown.{ElementIsGiven, GaveElement, GaveSamples, HaveOneId, IsInTime, IsInWindow, PlannedElement, ShownOnlyInTime}
use Rattle.replay_laws.proofs.GivenLemmas.{IsGiven, IsUnder, block_given, claim_given, one_id, planned_given, samples_are_under}
use Rattle.replay_laws.proofs.MaskLemmas.{cell_id_is, in_use, used_is_busy}
use Rattle.replay_laws.proofs.OnceLemmas.{cells_are_reported}
use Rattle.unit_model.proofs.ClaimLemmas.{starts_before as from_first, from_within}
use Rattle.unit_laws.proofs.DueLemmas.{one_or_none}
use Rattle.air_source.specs.Units.{is_down}

-- ---- PRBs

inside : (n first count size : ℕ) → is_from first count n ≡ true → size ≡ count → n - first < size
inside n first count size covered e =
    let low = from_first first count n covered in
    let high = from_within first count n covered in
    omega (arith, low, high, e)

-- ---- by unit

in_window_then : (side : Side) (d : Delays) (x : UserSection) → data_class side d x ≡ OnTime → IsInWindow side d x.first.0 x.last.0 (data_start x)
in_window_then Ru d x on_time = (class_on_time x.first.0 x.last.0 (data_start x) (data_window_of d)).0 on_time
in_window_then Du d x on_time = (class_up_on_time x.first.0 x.last.0 (data_start x) d.ta4).0 on_time

blocks_known : (side : Side) (c : Config) (planned : List Allocation) (arrivals : List Arrival) (cell : Cell)
    → (known_at side c planned arrivals).blocks cell ≡ block_at (timely_of side c arrivals) cell
blocks_known Ru c planned arrivals cell = refl
blocks_known Du c planned arrivals cell = refl

-- the cell of a report
abbrev told_cell : Side → Config → List Allocation → List Arrival → ℕ → EndpointConfig → Slot → ℕ → ℕ → AirCell
told_cell side c planned arrivals ep e slot symbol prb =
    let cell = cell_at ep (is_down side) slot symbol prb in
    let k = known_at side c planned arrivals in
    air_cell side e cell (air_of e.numerology slot symbol) (k.claims cell) (k.blocks cell)

-- the elements in use of a cell were commanded in time
commanded : (c : Config) (planned : List Allocation) (arrivals : List Arrival) (ep : ℕ) (e : EndpointConfig) (slot : Slot) (symbol prb re : ℕ) → re < 12
    → in_mask (used_mask (claim_at (accepted_of c arrivals) (cell_at ep true slot symbol prb))) re ≡ true
    → GaveElement c arrivals ep (told_cell Ru c planned arrivals ep e slot symbol prb) re
commanded c planned arrivals ep e slot symbol prb re small named =
    let cell = cell_at ep true slot symbol prb in
    let claims = claim_at (accepted_of c arrivals) cell in
    let b = used_is_busy (claims re) (in_use claims re small named) in
    let g = claim_given c.delays (commands_of Ru c arrivals) cell re b.claim b.is in
    record {
      later = g.later;
      command = g.command;
      earlier = g.earlier;
      landed = g.parts;
      named = g.named;
      busy = ap (λ (k : Claim). k.idle) g.is ∙ b.busy;
      on_time = (accepted_is_acceptable c.delays _ g.command g.accepted_is).on_time;
      accepted_is = g.accepted_is;
      section =
          ap (λ (k : Claim). k.id) g.is
          ∙ sym (cell_id_is claims re b.claim small b.is (λ other l few is. one_id c.delays (commands_of Ru c arrivals) cell other re l b.claim few small is b.is));
    }

-- or planned
planned_so : (c : Config) (planned : List Allocation) (arrivals : List Arrival) → ((cell : Cell) → HaveOneId planned cell) → (ep : ℕ) (e : EndpointConfig) (slot : Slot) (symbol prb re : ℕ)
    → re < 12 → in_mask (used_mask (claim_at planned (cell_at ep false slot symbol prb))) re ≡ true
    → PlannedElement planned ep (told_cell Du c planned arrivals ep e slot symbol prb) re
planned_so c planned arrivals one_planned ep e slot symbol prb re small named =
    let cell = cell_at ep false slot symbol prb in
    let claims = claim_at planned cell in
    let b = used_is_busy (claims re) (in_use claims re small named) in
    let g = planned_given planned cell re b.claim b.is in
    record {
      allocation = g.allocation;
      there = g.there;
      named = g.named;
      busy = ap (λ (k : Claim). k.idle) g.is ∙ b.busy;
      section =
          ap (λ (k : Claim). k.id) g.is
          ∙ sym (cell_id_is claims re b.claim small b.is (λ other l few is. one_planned cell other re l b.claim few small is b.is));
    }

element_given : (side : Side) (c : Config) (planned : List Allocation) (arrivals : List Arrival) → ((cell : Cell) → HaveOneId planned cell)
    → (ep : ℕ) (e : EndpointConfig) (slot : Slot) (symbol prb re : ℕ) → re < 12
    → in_mask (told_cell side c planned arrivals ep e slot symbol prb).mask re ≡ true
    → ElementIsGiven side c planned arrivals ep (told_cell side c planned arrivals ep e slot symbol prb) re
element_given Ru c planned arrivals one_planned ep e slot symbol prb re small named = commanded c planned arrivals ep e slot symbol prb re small named
element_given Du c planned arrivals one_planned ep e slot symbol prb re small named =
    planned_so c planned arrivals one_planned ep e slot symbol prb re small named

-- ---- one cell

module _ (side : Side) (c : Config) (planned : List Allocation) (arrivals : List Arrival) (clock : ℤ) (came : AreInTime clock arrivals)
    (times : All (λ a. IsTime a.at) arrivals) (one_planned : (cell : Cell) → HaveOneId planned cell) (ep : ℕ) (e : EndpointConfig) (slot : Slot) (symbol prb : ℕ) where
  abbrev known : Known
  known = known_at side c planned arrivals

  abbrev cell : Cell
  cell = cell_at ep (is_down side) slot symbol prb

  abbrev shown : AirCell
  shown = air_cell side e cell (air_of e.numerology slot symbol) (known.claims cell) (known.blocks cell)

  -- data that cover the cell name its start
  starts_then : (x : UserSection) → IsAt c.endpoints ep e → IsHeardData c.endpoints clock x → data_covers x cell ≡ true → data_start x ≡ air_of e.numerology slot symbol
  starts_then x is heard covered =
      let parts = data_covers_is x cell covered in
      let same = endpoints_equal c.endpoints x.ep ep x.endpoint e heard.endpoint is parts.ep in
      ap (λ (f : EndpointConfig). air_of f.numerology (data_slot x) x.section.symbol) same
      ∙ ap₂ (λ (s : Slot) (y : ℕ). air_of e.numerology s y) parts.slot parts.symbol

  -- and have a block for its PRB
  inside_blocks : (x : UserSection) → IsProperData c.endpoints x → data_covers x cell ≡ true → prb - first_data_prb x < length x.blocks
  inside_blocks x proper covered = inside prb (first_data_prb x) (data_prb_count x) (length x.blocks) (data_covers_is x cell covered).prb proper.blocks

  samples_gave : IsAt c.endpoints ep e → (samples : List Wide) (u : IsUnder (cell_id (known.claims cell)) (block_at (timely_of side c arrivals) cell) samples)
      → (g : IsGiven side c.delays (data_of side c arrivals) cell u.block) → GaveSamples side c arrivals ep shown samples
  samples_gave is samples u g =
      let heard = All-contains (IsHeardData c.endpoints clock) (data_of side c arrivals) g.x (data_are_heard side c clock arrivals came) g.inside in
      let proper = All-contains (IsProperData c.endpoints) (data_of side c arrivals) g.x (data_are_proper side c clock arrivals came times) g.inside in
      let same = ap (λ (b : Block). b.samples) g.is ∙ u.samples_are in
      record {
        part = g.x;
        landed = g.inside;
        covers = g.covers;
        on_time = g.on_time;
        order = heard.order;
        in_window =
            subst (λ (t : ℤ). IsInWindow side c.delays g.x.first.0 g.x.last.0 t) (starts_then g.x is heard g.covers) (in_window_then side c.delays g.x g.on_time);
        section = ap (λ (b : Block). b.id) g.is ∙ u.id_is;
        samples_are = same;
        samples_there =
            slice_get-get_or g.x.blocks (prb - first_data_prb g.x) [] (inside_blocks g.x proper g.covers) ∙ ap (λ (xs : List Wide). Some xs) same;
      }

  cell_in_time : IsAt c.endpoints ep e → IsInTime side c planned arrivals shown
  cell_in_time is = record {
    side_is = refl;
    ep = ep;
    endpoint = e;
    endpoint_is = is;
    id = refl;
    at = refl;
    elements_given = element_given side c planned arrivals one_planned ep e slot symbol prb;
    samples_given = λ samples there.
        let u = samples_are_under (cell_id (known.claims cell)) (block_at (timely_of side c arrivals) cell) samples
        (sym (ap (samples_under (cell_id (known.claims cell))) (blocks_known side c planned arrivals cell)) ∙ there) in
        samples_gave is samples u (block_given side c.delays (data_of side c arrivals) cell u.block u.is);
  }

-- ---- all cells

symbol_in_time : (side : Side) (c : Config) (planned : List Allocation) (arrivals : List Arrival) (clock : ℤ) → AreInTime clock arrivals → All (λ a. IsTime a.at) arrivals
    → ((cell : Cell) → HaveOneId planned cell) → (ep : ℕ) (e : EndpointConfig) (slot : Slot) (symbol : ℕ) → IsAt c.endpoints ep e
    → All (IsInTime side c planned arrivals) (symbol_report side (known_at side c planned arrivals) ep e slot symbol)
unfolding symbol_report
symbol_in_time side c planned arrivals clock came times one_planned ep e slot symbol is =
    let P = IsInTime side c planned arrivals in
    let k = known_at side c planned arrivals in
    let f = cell_report side k ep e slot symbol in
    each_related (λ xs ys. All P xs) (all_kept P) 0 e.prbs f f (λ prb above below.
    one_or_none P (used_mask (k.claims (cell_at ep (is_down side) slot symbol prb)) == 0) (shown side c planned arrivals clock came times one_planned ep e slot symbol prb)
    (cell_in_time side c planned arrivals clock came times one_planned ep e slot symbol prb is))

pub landings_of_side : (side : Side) (t : Traffic) → AreLandings t.at_ru → AreLandings t.at_du → AreLandings (landings_at side t)
landings_of_side Ru t ru du = ru
landings_of_side Du t ru du = du

pub shown_only_in_time : ShownOnlyInTime
unfolding reported
shown_only_in_time c t ru du one_planned side =
    let arrivals = all_arrivals (landings_at side t) in
    let proper = arrivals_in_time (landings_at side t) (end_of_time +ℤ pos 1) (landings_of_side side t ru du) in
    let P = IsInTime side c t.planned arrivals in
    let g = symbol_report side (known_at side c t.planned arrivals) in
    subst (All P) (sym (cells_are_reported side c t))
    (sweep_related (λ xs ys. All P xs) (all_kept P) g g c.endpoints (first_clock -ℤ wait_of side c.delays) ((end_of_time -ℤ wait_of side c.delays) +ℤ pos 1)
    (λ ep e slot symbol tick low high swept.
    symbol_in_time side c t.planned arrivals ((end_of_time +ℤ pos 1) -ℤ pos 1) proper.0 proper.1 one_planned ep e slot symbol swept.endpoint))
