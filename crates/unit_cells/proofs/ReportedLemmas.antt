-- To set cells as reported changes nothing else.
use Rattle.std.proofs.Common.{◌≡◌, ◌≢◌, ℕ, ℤ, ◌<◌, ◌≤◌, true, false, List, sym, ap, ◌∙◌, ◌⊎◌, inl, inr, Option, Some}
use Rattle.std.specs.Prelude.{◌||◌, slice_get}
use Rattle.std.proofs.lemmas.Bool.{cases_Bool, cases_eq, false_from_ne_true}
use Rattle.std.proofs.lemmas.Option.{slice_get_within}
use Rattle.fh_base.specs.declared.values.Slot.{Slot}
use Rattle.unit_model.specs.Terms.{Side}
use Rattle.window_config.specs.declared.config.Config.{Config}
use Rattle.window_config.specs.declared.endpoints.EndpointConfig.{EndpointConfig}
use Rattle.unit_model.specs.Claims.{cell_at, same_slot}
use Rattle.unit_model.specs.declared.allocations.Allocation.{Allocation}
use Rattle.unit_model.specs.declared.cells.Cell.{Cell}
use Rattle.unit_model.specs.declared.decoded.UserSection.{UserSection}
use Rattle.slot_rings.specs.Places.{PlaceValue, is_in_use, is_place_of, place_block, place_claim, place_reported, place_uplink}
use Rattle.slot_rings.specs.Rings.{IsRingCell, RingValue, has_slot, place_index, place_of, ring_block, ring_claim, ring_reported, ring_uplink}
use Rattle.unit_cells.specs.Cells.{CellsValue, IsCellIn, block_from, cells_claim, cells_reported, cells_has, claim_from, reported_from, has_from, ring_of, uplink_from}
use Rattle.unit_cells.specs.Keeping.{Keeps, SameKnown}
use Rattle.unit_cells.specs.Steps.{InRing, SetsReported}
use Rattle.unit_cells.proofs.KeepLemmas.{cell_of_ring, parted, ring_endpoint}
use Rattle.unit_cells.proofs.StepLemmas.{same_index}
use Rattle.unit_cells.proofs.TimeLemmas.{no_block_from, no_claim_from, no_reported_from, no_uplink_from}
use Rattle.unit_model.proofs.ClaimLemmas.{same_slot_is as slot_is, slot_self as slot_own}
use Rattle.fh_base.proofs.Orders.{unequal}
use Rattle.ecpri_fragments.proofs.Numbers.{put_other as get_set_other, put_own as get_set_same}

pub keeps_same : (side : Side) (c : Config) (clock : ℤ) (old new : CellsValue) (acc : List Allocation) (ds : List UserSection) → SameKnown old new → Keeps side c clock old acc ds → Keeps side c clock new acc ds
keeps_same side c clock old new acc ds same keeps = record {
  claims = λ e cell re is live below. same.claims cell re ∙ keeps.claims e cell re is live below;
  blocks = λ e cell is down live. same.blocks cell ∙ keeps.blocks e cell is down live;
  uplink = λ e k s at is live. same.uplink k s ∙ keeps.uplink e k s at is live;
  reached = λ e k s at has. keeps.reached e k s at (sym (same.places k s) ∙ has);
  accepted = keeps.accepted;
  timely = keeps.timely;
}

pub either_slot : (s t : Slot) → (s ≡ t) ⊎ (s ≡ t → ⊥)
either_slot s t = elim (cases_Bool (same_slot s t)) [
  | inl same ↦ inl (slot_is s t same)
  | inr apart ↦ inr (λ e. unequal (same_slot s t) apart (ap (same_slot s) (sym e) ∙ slot_own s))
]

-- another slot has the same place, or had none and has none
pub record HasNeither (s : Slot) (before after : RingValue) : Type 0 where
  pub had : has_slot before s ≡ false
  pub has : has_slot after s ≡ false

module _ (slot : Slot) (symbol count : ℕ) (before after : RingValue) (m : SetsReported slot symbol count before after) (had : has_slot before slot ≡ true) where
  other : (s : Slot) → (s ≡ slot → ⊥) → (place_of after s ≡ place_of before s) ⊎ HasNeither s before after
  other s ne = elim (cases_eq (place_index before s) (place_index before slot)) [
    | inr apart ↦ inl (m.touches.others s apart)
    | inl share ↦
        let shared : place_index after s ≡ place_index after slot = same_index slot s before after m.touches ∙ share ∙ sym (same_index slot slot before after m.touches) in
        inr (record {
          had = false_from_ne_true (has_slot before s) (λ h. ne (parted before slot s had share h));
          has = false_from_ne_true (has_slot after s) (λ h. ne (parted after slot s m.has shared h));
        })
  ]

  pub reported_claims : (cell : Cell) (re : ℕ) → ring_claim after cell re ≡ ring_claim before cell re
  reported_claims cell re = elim (either_slot cell.slot slot) [
    | inl own ↦ m.claims cell re own
    | inr ne ↦ elim (other cell.slot ne) [
      | inl place ↦
          ap (λ (p : PlaceValue). place_claim after.endpoint.prbs p cell re) place
          ∙ ap (λ (e : EndpointConfig). place_claim e.prbs (place_of before cell.slot) cell re) m.touches.endpoint
      | inr none ↦ no_claim_from (Some after) cell re none.has ∙ sym (no_claim_from (Some before) cell re none.had)
    ]
  ]

  pub reported_blocks : (cell : Cell) → ring_block after cell ≡ ring_block before cell
  reported_blocks cell = elim (either_slot cell.slot slot) [
    | inl own ↦ m.blocks cell own
    | inr ne ↦ elim (other cell.slot ne) [
      | inl place ↦
          ap (λ (p : PlaceValue). place_block after.endpoint.prbs p cell) place
          ∙ ap (λ (e : EndpointConfig). place_block e.prbs (place_of before cell.slot) cell) m.touches.endpoint
      | inr none ↦ no_block_from (Some after) cell none.has ∙ sym (no_block_from (Some before) cell none.had)
    ]
  ]

  pub reported_uplink : (s : Slot) → ring_uplink after s ≡ ring_uplink before s
  reported_uplink s = elim (either_slot s slot) [
    | inl own ↦ ap (ring_uplink after) own ∙ m.uplink ∙ ap (ring_uplink before) (sym own)
    | inr ne ↦ elim (other s ne) [
      | inl place ↦ ap (λ (p : PlaceValue). place_uplink p s) place
      | inr none ↦ no_uplink_from (Some after) s none.has ∙ sym (no_uplink_from (Some before) s none.had)
    ]
  ]

  pub reported_places : (s : Slot) → has_slot after s ≡ has_slot before s
  reported_places s = elim (either_slot s slot) [
    | inl own ↦ ap (has_slot after) own ∙ m.has ∙ sym had ∙ ap (has_slot before) (sym own)
    | inr ne ↦ elim (other s ne) [
      | inl place ↦ ap (λ (p : PlaceValue). is_place_of p.slot s) place
      | inr none ↦ none.has ∙ sym none.had
    ]
  ]

  pub reported_done : (cell : Cell) → IsRingCell before cell → (cell.slot ≡ slot → cell.symbol ≡ symbol → count ≤ cell.prb) → ring_reported after cell ≡ ring_reported before cell
  reported_done cell is apart = elim (either_slot cell.slot slot) [
    | inl own ↦ m.others cell is own (apart own)
    | inr ne ↦ elim (other cell.slot ne) [
      | inl place ↦
          ap (λ (p : PlaceValue). place_reported after.endpoint.prbs p cell) place
          ∙ ap (λ (e : EndpointConfig). place_reported e.prbs (place_of before cell.slot) cell) m.touches.endpoint
      | inr none ↦ no_reported_from (Some after) cell none.has ∙ sym (no_reported_from (Some before) cell none.had)
    ]
  ]

module _ (ep : ℕ) (slot : Slot) (symbol count : ℕ) (old new : CellsValue) (m : InRing ep (SetsReported slot symbol count) old new) (has : cells_has old ep slot ≡ true) where
  now_is : ring_of new ep ≡ Some m.after
  now_is = ap (λ (rs : List RingValue). slice_get rs ep) m.rings ∙ get_set_same old.rings ep m.after (slice_get_within old.rings ep m.before m.was)

  others : (k : ℕ) → k ≢ ep → ring_of new k ≡ ring_of old k
  others k ne = ap (λ (rs : List RingValue). slice_get rs k) m.rings ∙ get_set_other old.rings ep k m.after ne

  had : has_slot m.before slot ≡ true
  had = ap (λ (o : Option RingValue). has_from o slot) (sym m.was) ∙ has

  -- a lookup that is the same in the ring is the same
  by_ring : {A : Type 0} (f : Option RingValue → A) (k : ℕ) → f (Some m.after) ≡ f (Some m.before) → f (ring_of new k) ≡ f (ring_of old k)
  by_ring f k e = elim (cases_eq k ep) [
    | inl own ↦ ap f (ap (ring_of new) own ∙ now_is) ∙ e ∙ sym (ap f (ap (ring_of old) own ∙ m.was))
    | inr ne ↦ ap f (others k ne)
  ]

  pub reported_known : SameKnown old new
  reported_known = record {
    claims = λ cell re. by_ring (λ o. claim_from o cell re) cell.ep (reported_claims slot symbol count m.before m.after m.stepped had cell re);
    blocks = λ cell. by_ring (λ o. block_from o cell) cell.ep (reported_blocks slot symbol count m.before m.after m.stepped had cell);
    uplink = λ k s. by_ring (λ o. uplink_from o s) k (reported_uplink slot symbol count m.before m.after m.stepped had s);
    places = λ k s. by_ring (λ o. has_from o s) k (reported_places slot symbol count m.before m.after m.stepped had s);
  }

  pub reported_just : (prb : ℕ) → prb < count → cells_reported new (cell_at ep true slot symbol prb)
      ≡ (cells_reported old (cell_at ep true slot symbol prb) || is_in_use (cells_claim old (cell_at ep true slot symbol prb)))
  reported_just prb below =
      ap (λ (o : Option RingValue). reported_from o (cell_at ep true slot symbol prb)) now_is
      ∙ m.stepped.here ep prb below
      ∙ sym (ap (λ (o : Option RingValue). reported_from o (cell_at ep true slot symbol prb) || is_in_use (λ re. claim_from o (cell_at ep true slot symbol prb) re)) m.was)

  pub reported_others : (cell : Cell) → IsCellIn old cell → (cell.ep ≡ ep → cell.slot ≡ slot → cell.symbol ≡ symbol → count ≤ cell.prb) → cells_reported new cell ≡ cells_reported old cell
  reported_others cell is apart = elim (cases_eq cell.ep ep) [
    | inr ne ↦ ap (λ (o : Option RingValue). reported_from o cell) (others cell.ep ne)
    | inl own ↦
        let there : ring_of old cell.ep ≡ Some m.before = ap (ring_of old) own ∙ m.was in
        let same : m.before.endpoint ≡ is.endpoint = ring_endpoint old cell.ep is.endpoint m.before is.at there in
        let in_ring : IsRingCell m.before cell = cell_of_ring m.before cell is.endpoint same is.slot_is is.symbol is.prb in
        ap (λ (o : Option RingValue). reported_from o cell) (ap (ring_of new) own ∙ now_is)
        ∙ reported_done slot symbol count m.before m.after m.stepped had cell in_ring (apart own)
        ∙ sym (ap (λ (o : Option RingValue). reported_from o cell) there)
  ]
