-- What one step in the ring of one endpoint leaves of all that the rings keep.
use Rattle.std.proofs.Common.{◌≡◌, ◌≢◌, ℕ, ℤ, ◌<◌, ◌≤ℤ◌, Bool, true, false, List, set, refl, sym, ap, ◌∙◌, subst, arith, ◌⊎◌, inl, inr, Option, Some}
use Rattle.std.specs.Prelude.{All, slice_get, get_or}
use Rattle.std.specs.Option.{option_map}
use Rattle.std.proofs.lemmas.Bool.{cases_Bool, cases_eq}
use Rattle.std.proofs.lemmas.Int.{ints}
use Rattle.std.proofs.lemmas.Option.{slice_get-map, slice_get_within}
use Rattle.fh_base.specs.Numbering.{symbols_of}
use Rattle.fh_base.specs.declared.numerology.Numerology.{Numerology}
use Rattle.fh_base.specs.declared.values.Slot.{Slot}
use Rattle.window_config.specs.declared.config.Config.{Config}
use Rattle.window_config.specs.declared.delays.Delays.{Delays}
use Rattle.window_config.specs.declared.endpoints.EndpointConfig.{EndpointConfig}
use Rattle.window_config.specs.declared.rings.Reach.{Reach}
use Rattle.unit_model.specs.Claims.{claim_at, same_slot}
use Rattle.unit_model.specs.Terms.{Side, is_down}
use Rattle.unit_model.specs.Proper.{IsAt, IsSlot}
use Rattle.unit_model.specs.Standing.{IsCell, uplink_of}
use Rattle.unit_model.specs.declared.allocations.Allocation.{Allocation}
use Rattle.unit_model.specs.declared.cells.Cell.{Cell}
use Rattle.unit_model.specs.declared.decoded.UserSection.{UserSection}
use Rattle.unit_laws.specs.Far.{IsReached, IsReachedData, WasLive}
use Rattle.unit_model.specs.Sides.{IsLiveFor, IsLiveOn, reach_of}
use Rattle.unit_laws.proofs.FarLemmas.{endpoints_equal}
use Rattle.slot_rings.specs.Places.{PlaceValue, blank, is_place_of, place_block, place_claim, place_reported, place_uplink}
use Rattle.slot_rings.specs.Rings.{IsRingCell, RingValue, TouchesOnly, has_slot, place_index, place_of, ring_block, ring_claim, ring_reported, ring_uplink}
use Rattle.slot_rings.proofs.PlaceLemmas.{of_is}
use Rattle.unit_cells.specs.Cells.{AreRings, CellsValue, HoldsLive, IsOf, block_from, cells_block, cells_claim, cells_reported, cells_has, cells_uplink, claim_from, reported_from, endpoint_in, endpoints_of, has_from, ring_of, uplink_from}
use Rattle.unit_cells.specs.Keeping.{Keeps, SameReported}
use Rattle.unit_cells.specs.Told.{told_block_at}
use Rattle.unit_cells.proofs.ApartLemmas.{one_slot}
use Rattle.unit_cells.proofs.StepLemmas.{same_index}
use Rattle.unit_model.proofs.ClaimLemmas.{same_slot_is as slot_is, slot_self as slot_own}
use Rattle.fh_base.proofs.Options.{some_is as some_equal}
use Rattle.std.specs.Int.Signed.{≤ℤ_refl}
use Rattle.ecpri_fragments.proofs.Numbers.{put_other as get_set_other, put_own as get_set_same}

-- the ring of an endpoint is that endpoint's
pub ring_endpoint : (v : CellsValue) (k : ℕ) (e : EndpointConfig) (r : RingValue) → IsAt (endpoints_of v) k e → ring_of v k ≡ Some r → r.endpoint ≡ e
ring_endpoint v k e r at is =
    some_equal r.endpoint e (ap (option_map endpoint_in) (sym is) ∙ sym (slice_get-map endpoint_in v.rings k) ∙ at)

-- the endpoints of the rings are those of the configuration
pub at_rings : (side : Side) (c : Config) (v : CellsValue) (k : ℕ) (e : EndpointConfig) → IsOf side c v → IsAt c.endpoints k e → IsAt (endpoints_of v) k e
at_rings side c v k e of at = subst (λ (es : List EndpointConfig). IsAt es k e) (sym of.endpoints) at

pub at_config : (side : Side) (c : Config) (v : CellsValue) (k : ℕ) (e : EndpointConfig) → IsOf side c v → IsAt (endpoints_of v) k e → IsAt c.endpoints k e
at_config side c v k e of at = subst (λ (es : List EndpointConfig). IsAt es k e) of.endpoints at

pub cell_of_ring : (r : RingValue) (cell : Cell) (e : EndpointConfig) → r.endpoint ≡ e → IsSlot e.numerology cell.slot → cell.symbol < symbols_of e.numerology
    → cell.prb < e.prbs → IsRingCell r cell
cell_of_ring r cell e same slot symbol prb = record {
  slot = subst (λ (x : EndpointConfig). IsSlot x.numerology cell.slot) (sym same) slot;
  symbol = subst (λ (x : EndpointConfig). cell.symbol < symbols_of x.numerology) (sym same) symbol;
  prb = subst (λ (x : EndpointConfig). cell.prb < x.prbs) (sym same) prb;
}

-- a cell of an endpoint is one of its ring
pub cell_in_ring : (c : Config) (e : EndpointConfig) (r : RingValue) (cell : Cell) → r.endpoint ≡ e → IsCell c e cell → IsRingCell r cell
cell_in_ring c e r cell same is = cell_of_ring r cell e same is.slot is.symbol is.prb

-- a slot that shares the place of another one has it not
pub parted : (r : RingValue) (slot s : Slot) → has_slot r slot ≡ true → place_index r s ≡ place_index r slot → has_slot r s ≡ true → s ≡ slot
parted r slot s has share here =
    let owner : (place_of r slot).slot ≡ Some slot = of_is (place_of r slot).slot slot has in
    let same : place_of r s ≡ place_of r slot = ap (λ (i : ℕ). get_or r.places i blank) share in
    let own : is_place_of (Some slot) s ≡ true = ap (λ (o : Option Slot). is_place_of o s) (sym owner) ∙ ap (λ (p : PlaceValue). is_place_of p.slot s) (sym same) ∙ here in
    sym (slot_is slot s own)

pub was_later : (n : Numerology) (r : Reach) (clock to : ℤ) (slot : Slot) → clock ≤ℤ to → WasLive n r clock slot → WasLive n r to slot
was_later n r clock to slot order was = record { when = was.when; come = omega (arith, ints, was.come); live = was.live }

-- what is known of a slot is as it was
pub record SameAt (k : ℕ) (s : Slot) (old new : CellsValue) : Type 0 where
  pub claims : (cell : Cell) (re : ℕ) → cell.ep ≡ k → cell.slot ≡ s → cells_claim new cell re ≡ cells_claim old cell re
  pub blocks : (cell : Cell) → cell.ep ≡ k → cell.slot ≡ s → cells_block new cell ≡ cells_block old cell
  pub reported : (cell : Cell) → cell.ep ≡ k → cell.slot ≡ s → cells_reported new cell ≡ cells_reported old cell
  pub uplink : cells_uplink new k s ≡ cells_uplink old k s

same_ring : (k : ℕ) (s : Slot) (old new : CellsValue) → ring_of new k ≡ ring_of old k → SameAt k s old new
same_ring k s old new e = record {
  claims = λ cell re at here. ap (λ (o : Option RingValue). claim_from o cell re) (rings cell.ep at);
  blocks = λ cell at here. ap (λ (o : Option RingValue). block_from o cell) (rings cell.ep at);
  reported = λ cell at here. ap (λ (o : Option RingValue). reported_from o cell) (rings cell.ep at);
  uplink = ap (λ (o : Option RingValue). uplink_from o s) e;
}
  where
    rings : (j : ℕ) → j ≡ k → ring_of new j ≡ ring_of old j
    rings j at = ap (ring_of new) at ∙ e ∙ sym (ap (ring_of old) at)

same_place : (k : ℕ) (s : Slot) (old new : CellsValue) (before after : RingValue) → ring_of old k ≡ Some before → ring_of new k ≡ Some after
    → after.endpoint ≡ before.endpoint → place_of after s ≡ place_of before s → SameAt k s old new
same_place k s old new before after was is endpoint place = record {
  claims = λ cell re at here.
      now (λ o. claim_from o cell re) cell.ep at ∙ claim cell re here ∙ sym (then_ (λ o. claim_from o cell re) cell.ep at);
  blocks = λ cell at here. now (λ o. block_from o cell) cell.ep at ∙ block cell here ∙ sym (then_ (λ o. block_from o cell) cell.ep at);
  reported = λ cell at here. now (λ o. reported_from o cell) cell.ep at ∙ reported cell here ∙ sym (then_ (λ o. reported_from o cell) cell.ep at);
  uplink =
      ap (λ (o : Option RingValue). uplink_from o s) is ∙ ap (λ (p : PlaceValue). place_uplink p s) place
      ∙ sym (ap (λ (o : Option RingValue). uplink_from o s) was);
}
  where
    now : {A : Type 0} (f : Option RingValue → A) (j : ℕ) → j ≡ k → f (ring_of new j) ≡ f (Some after)
    now f j at = ap f (ap (ring_of new) at ∙ is)

    then_ : {A : Type 0} (f : Option RingValue → A) (j : ℕ) → j ≡ k → f (ring_of old j) ≡ f (Some before)
    then_ f j at = ap f (ap (ring_of old) at ∙ was)

    there : (t : Slot) → t ≡ s → place_of after t ≡ place_of before t
    there t e = ap (place_of after) e ∙ place ∙ sym (ap (place_of before) e)

    claim : (cell : Cell) (re : ℕ) → cell.slot ≡ s → ring_claim after cell re ≡ ring_claim before cell re
    claim cell re here =
        ap (λ (p : PlaceValue). place_claim after.endpoint.prbs p cell re) (there cell.slot here)
        ∙ ap (λ (e : EndpointConfig). place_claim e.prbs (place_of before cell.slot) cell re) endpoint

    block : (cell : Cell) → cell.slot ≡ s → ring_block after cell ≡ ring_block before cell
    block cell here =
        ap (λ (p : PlaceValue). place_block after.endpoint.prbs p cell) (there cell.slot here)
        ∙ ap (λ (e : EndpointConfig). place_block e.prbs (place_of before cell.slot) cell) endpoint

    reported : (cell : Cell) → cell.slot ≡ s → ring_reported after cell ≡ ring_reported before cell
    reported cell here =
        ap (λ (p : PlaceValue). place_reported after.endpoint.prbs p cell) (there cell.slot here)
        ∙ ap (λ (e : EndpointConfig). place_reported e.prbs (place_of before cell.slot) cell) endpoint

-- slots that are live by the rings' own numbers are so by those of the configuration
pub held_for : (side : Side) (c : Config) (v : CellsValue) (r : RingValue) → IsOf side c v → HoldsLive v.side v.delays r → HoldsLive side c.delays r
held_for side c v r of holds = subst (λ (s : Side). HoldsLive s c.delays r) of.side_is (subst (λ (d : Delays). HoldsLive v.side d r) of.delays holds)

-- One step in the ring of endpoint `ep`, in the place of a slot that is live at the clock.
pub record IsStep (side : Side) (c : Config) (clock : ℤ) (ep : ℕ) (e : EndpointConfig) (slot : Slot) (before after : RingValue) (old new : CellsValue) : Type 0 where
  pub of : IsOf side c old
  pub held : AreRings old
  pub at : IsAt c.endpoints ep e
  pub is_slot : IsSlot e.numerology slot
  pub live : IsLiveOn side c.delays e clock slot
  pub was : ring_of old ep ≡ Some before
  pub rings : new.rings ≡ set old.rings ep after
  pub side_is : new.side ≡ old.side
  pub delays : new.delays ≡ old.delays
  pub touches : TouchesOnly slot before after
  pub has : has_slot after slot ≡ true

module _ (side : Side) (c : Config) (clock : ℤ) (ep : ℕ) (e : EndpointConfig) (slot : Slot) (before after : RingValue) (old new : CellsValue)
    (step : IsStep side c clock ep e slot before after old new) where
  pub ring_is : before.endpoint ≡ e
  ring_is = ring_endpoint old ep e before (at_rings side c old ep e step.of step.at) step.was

  pub now_is : ring_of new ep ≡ Some after
  now_is =
      ap (λ (rs : List RingValue). slice_get rs ep) step.rings ∙ get_set_same old.rings ep after (slice_get_within old.rings ep before step.was)

  others : (k : ℕ) → k ≢ ep → ring_of new k ≡ ring_of old k
  others k ne = ap (λ (rs : List RingValue). slice_get rs k) step.rings ∙ get_set_other old.rings ep k after ne

  holds : HoldsLive side c.delays before
  holds = held_for side c old before step.of (step.held.wide ep before step.was)

  -- a live slot of this endpoint is this one, or has another place
  other_place : (s : Slot) → IsSlot e.numerology s → IsLiveOn side c.delays e clock s → s ≢ slot → place_of after s ≡ place_of before s
  other_place s is_slot live ne =
      step.touches.others s (λ share.
      ne (one_slot side c.delays before clock s slot holds
      (subst (λ (x : EndpointConfig). IsSlot x.numerology s) (sym ring_is) is_slot)
      (subst (λ (x : EndpointConfig). IsSlot x.numerology slot) (sym ring_is) step.is_slot)
      (subst (λ (x : EndpointConfig). IsLiveOn side c.delays x clock s) (sym ring_is) live)
      (subst (λ (x : EndpointConfig). IsLiveOn side c.delays x clock slot) (sym ring_is) step.live) share))

  pub same_elsewhere : (k : ℕ) (s : Slot) (f : EndpointConfig) → IsAt c.endpoints k f → IsSlot f.numerology s → IsLiveFor side c clock k s
      → (k ≡ ep → s ≡ slot → ⊥) → SameAt k s old new
  same_elsewhere k s f at is_slot live ne = elim (cases_eq k ep) [
    | inr other ↦ same_ring k s old new (others k other)
    | inl own ↦
        let same : f ≡ e = endpoints_equal c.endpoints k ep f e at step.at own in
        let is_e : IsSlot e.numerology s = subst (λ (x : EndpointConfig). IsSlot x.numerology s) same is_slot in
        let live_e : IsLiveOn side c.delays e clock s = subst (λ (x : EndpointConfig). IsLiveOn side c.delays x clock s) same (live f at) in
        same_place k s old new before after (ap (ring_of old) own ∙ step.was) (ap (ring_of new) own ∙ now_is) step.touches.endpoint (other_place s is_e live_e (ne own))
  ]

  pub here_or_not : (k : ℕ) (s : Slot) → ((k ≡ ep) × (s ≡ slot)) ⊎ (k ≡ ep → s ≡ slot → ⊥)
  here_or_not k s = elim (cases_eq k ep) [
    | inr other ↦ inr (λ own same. other own)
    | inl own ↦ elim (cases_Bool (same_slot s slot)) [
      | inl same ↦ inl (own, slot_is s slot same)
      | inr apart ↦ inr (λ _ same. different s apart same)
    ]
  ]
    where
      unequal : (b : Bool) → b ≡ false → b ≡ true → ⊥
      unequal b p q = cc

      different : (s : Slot) → same_slot s slot ≡ false → s ≡ slot → ⊥
      different s apart same = unequal (same_slot s slot) apart (ap (same_slot s) (sym same) ∙ slot_own s)

  pub reached_still : ((f : EndpointConfig) (k : ℕ) (s : Slot) → IsAt c.endpoints k f → cells_has old k s ≡ true → WasLive f.numerology (reach_of side c.delays) clock s)
      → (f : EndpointConfig) (k : ℕ) (s : Slot) → IsAt c.endpoints k f → cells_has new k s ≡ true → WasLive f.numerology (reach_of side c.delays) clock s
  reached_still reached f k s at has = elim (cases_eq k ep) [
    | inr other ↦ reached f k s at (ap (λ (o : Option RingValue). has_from o s) (sym (others k other)) ∙ has)
    | inl own ↦
        let has_after : has_slot after s ≡ true = ap (λ (o : Option RingValue). has_from o s) (sym now_is ∙ sym (ap (ring_of new) own)) ∙ has in
        elim (cases_eq (place_index before s) (place_index before slot)) [
          | inl share ↦
              let shared : place_index after s ≡ place_index after slot = same_index slot s before after step.touches ∙ share ∙ sym (same_index slot slot before after step.touches) in
              let same : s ≡ slot = parted after slot s step.has shared has_after in
              let here : WasLive e.numerology (reach_of side c.delays) clock slot = record { when = clock; come = ≤ℤ_refl clock; live = step.live } in
              let there : WasLive e.numerology (reach_of side c.delays) clock s = subst (WasLive e.numerology (reach_of side c.delays) clock) (sym same) here in
              subst (λ (x : EndpointConfig). WasLive x.numerology (reach_of side c.delays) clock s) (sym (endpoints_equal c.endpoints k ep f e at step.at own)) there
          | inr apart ↦
              let place : place_of after s ≡ place_of before s = step.touches.others s apart in
              let was : has_slot before s ≡ true = ap (λ (p : PlaceValue). is_place_of p.slot s) (sym place) ∙ has_after in
              reached f k s at (ap (λ (o : Option RingValue). has_from o s) (ap (ring_of old) own ∙ step.was) ∙ was)
        ]
  ]

  -- the same cells are reported where those of the slot are
  pub reports_still : ((cell : Cell) → cell.ep ≡ ep → cell.slot ≡ slot → ring_reported after cell ≡ ring_reported before cell) → SameReported side c clock old new
  reports_still own f cell is live = elim (here_or_not cell.ep cell.slot) [
    | inl here ↦
        ap (λ (o : Option RingValue). reported_from o cell) (ap (ring_of new) here.0 ∙ now_is) ∙ own cell here.0 here.1
        ∙ sym (ap (λ (o : Option RingValue). reported_from o cell) (ap (ring_of old) here.0 ∙ step.was))
    | inr ne ↦ (same_elsewhere cell.ep cell.slot f is.endpoint is.slot live ne).reported cell refl refl
  ]

  module _ (acc acc' : List Allocation) (ds ds' : List UserSection) (keeps : Keeps side c clock old acc ds) where
    -- The rings keep other lists, where those tell this of the slot, and the same of all else.
    pub lifted : ((cell : Cell) (re : ℕ) → IsCell c e cell → IsLiveFor side c clock cell.ep cell.slot → cell.ep ≡ ep → cell.slot ≡ slot → re < 12 → ring_claim after cell re ≡ claim_at acc' cell re)
        → ((cell : Cell) (re : ℕ) → (cell.ep ≡ ep → cell.slot ≡ slot → ⊥) → claim_at acc' cell re ≡ claim_at acc cell re)
        → ((cell : Cell) → IsCell c e cell → cell.down ≡ is_down side → IsLiveFor side c clock cell.ep cell.slot → cell.ep ≡ ep → cell.slot ≡ slot → ring_block after cell ≡ told_block_at ds' cell)
        → ((cell : Cell) → (cell.ep ≡ ep → cell.slot ≡ slot → ⊥) → told_block_at ds' cell ≡ told_block_at ds cell)
        → ring_uplink after slot ≡ uplink_of ep slot acc'
        → ((k : ℕ) (s : Slot) → (k ≡ ep → s ≡ slot → ⊥) → uplink_of k s acc' ≡ uplink_of k s acc)
        → All (IsReached c.endpoints (reach_of side c.delays) clock) acc' → All (IsReachedData c.endpoints (reach_of side c.delays) clock) ds'
        → Keeps side c clock new acc' ds'
    lifted own_claims other_claims own_blocks other_blocks own_uplink other_uplink accepted timely = record {
      claims = λ f cell re is live below. elim (here_or_not cell.ep cell.slot) [
        | inl here ↦
            ap (λ (o : Option RingValue). claim_from o cell re) (ap (ring_of new) here.0 ∙ now_is)
            ∙ own_claims cell re (cell_along f cell is here.0) live here.0 here.1 below
        | inr ne ↦
            (same_elsewhere cell.ep cell.slot f is.endpoint is.slot live ne).claims cell re refl refl
            ∙ keeps.claims f cell re is live below ∙ sym (other_claims cell re ne)
      ];
      blocks = λ f cell is down live. elim (here_or_not cell.ep cell.slot) [
        | inl here ↦
            ap (λ (o : Option RingValue). block_from o cell) (ap (ring_of new) here.0 ∙ now_is)
            ∙ own_blocks cell (cell_along f cell is here.0) down live here.0 here.1
        | inr ne ↦
            (same_elsewhere cell.ep cell.slot f is.endpoint is.slot live ne).blocks cell refl refl
            ∙ keeps.blocks f cell is down live ∙ sym (other_blocks cell ne)
      ];
      uplink = λ f k s at is live. elim (here_or_not k s) [
        | inl here ↦
            ap (λ (o : Option RingValue). uplink_from o s) (ap (ring_of new) here.0 ∙ now_is)
            ∙ ap (ring_uplink after) here.1 ∙ own_uplink ∙ ap (λ (j : ℕ). uplink_of j slot acc') (sym here.0) ∙ ap (λ (t : Slot). uplink_of k t acc') (sym here.1)
        | inr ne ↦ (same_elsewhere k s f at is live ne).uplink ∙ keeps.uplink f k s at is live ∙ sym (other_uplink k s ne)
      ];
      reached = reached_still keeps.reached;
      accepted = accepted;
      timely = timely;
    }
      where
        cell_along : (f : EndpointConfig) (cell : Cell) → IsCell c f cell → cell.ep ≡ ep → IsCell c e cell
        cell_along f cell is own = subst (λ (x : EndpointConfig). IsCell c x cell) (endpoints_equal c.endpoints cell.ep ep f e is.endpoint step.at own) is

-- rings whose delays and endpoints stay are those of the same configuration
pub of_still : (side : Side) (c : Config) (old new : CellsValue) → new.side ≡ old.side → new.delays ≡ old.delays → endpoints_of new ≡ endpoints_of old → IsOf side c old → IsOf side c new
of_still side c old new same delays endpoints of = record { side_is = same ∙ of.side_is; delays = delays ∙ of.delays; endpoints = endpoints ∙ of.endpoints }
