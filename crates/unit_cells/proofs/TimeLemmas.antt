-- What the rings keep as time passes.
use Rattle.std.proofs.Common.{◌≡◌, ℕ, ℤ, ◌≤ℤ◌, false, List, [], ◌∷◌, refl, sym, ap, ◌∙◌, subst, inl, inr, Option, Some, None}
use Rattle.std.specs.Prelude.{All}
use Rattle.std.proofs.lemmas.Bool.{cases_Bool}
use Rattle.std.proofs.lemmas.List.Elements.{All-head, All-tail, All-weaker}
use Rattle.fh_base.specs.declared.values.Slot.{Slot}
use Rattle.window_config.specs.declared.config.Config.{Config}
use Rattle.window_config.specs.declared.endpoints.EndpointConfig.{EndpointConfig}
use Rattle.window_config.specs.declared.rings.Reach.{Reach}
use Rattle.unit_model.specs.Blocks.{data_covers, data_slot}
use Rattle.unit_model.specs.Terms.{Side}
use Rattle.unit_model.specs.Proper.{IsAt}
use Rattle.unit_model.specs.declared.allocations.Allocation.{Allocation}
use Rattle.unit_model.specs.declared.cells.Block.{Block}
use Rattle.unit_model.specs.declared.cells.Cell.{Cell}
use Rattle.unit_model.specs.declared.decoded.UserSection.{UserSection}
use Rattle.fh_base.specs.Lists.{or_else}
use Rattle.unit_laws.specs.Far.{IsFar, IsReached, IsReachedData}
use Rattle.unit_model.specs.Sides.{IsLiveFor, IsLiveOn, reach_of}
use Rattle.unit_laws.proofs.CellLemmas.{data_covers_is}
use Rattle.unit_laws.proofs.FarLemmas.{endpoints_equal, far_no_uplink, far_unclaimed, not_far, far_other}
use Rattle.unit_laws.proofs.TickLemmas.{live_later}
use Rattle.slot_rings.specs.Rings.{RingValue}
use Rattle.unit_cells.specs.Cells.{CellsValue, block_from, cells_has, cells_reported, claim_from, reported_from, has_from, ring_of, uplink_from}
use Rattle.unit_cells.specs.Keeping.{Keeps}
use Rattle.unit_cells.specs.Told.{told_block_at, told_block_in}
use Rattle.unit_cells.proofs.KeepLemmas.{was_later}
use Rattle.unit_cells.proofs.ToldLemmas.{told-cons}
use Rattle.unit_laws.proofs.ChangeLemmas.{or_else_none as or_none}

-- ---- a slot that has no place

pub no_claim_from : (o : Option RingValue) (cell : Cell) (re : ℕ) → has_from o cell.slot ≡ false → claim_from o cell re ≡ None
no_claim_from None cell re h = refl
no_claim_from (Some r) cell re h = rw h refl

pub no_block_from : (o : Option RingValue) (cell : Cell) → has_from o cell.slot ≡ false → block_from o cell ≡ None
no_block_from None cell h = refl
no_block_from (Some r) cell h = rw h refl

pub no_reported_from : (o : Option RingValue) (cell : Cell) → has_from o cell.slot ≡ false → reported_from o cell ≡ false
no_reported_from None cell h = refl
no_reported_from (Some r) cell h = rw h refl

pub no_uplink_from : (o : Option RingValue) (slot : Slot) → has_from o slot ≡ false → uplink_from o slot ≡ []
no_uplink_from None slot h = refl
no_uplink_from (Some r) slot h = rw h refl

-- ---- a slot that is not live yet

-- it has no place
pub far_no_place : (side : Side) (c : Config) (clock : ℤ) (v : CellsValue) (acc : List Allocation) (ds : List UserSection) (e : EndpointConfig) (ep : ℕ) (slot : Slot)
    → Keeps side c clock v acc ds → IsAt c.endpoints ep e → IsFar e.numerology (reach_of side c.delays) clock slot → cells_has v ep slot ≡ false
far_no_place side c clock v acc ds e ep slot keeps at far = elim (cases_Bool (cells_has v ep slot)) [
  | inl has ↦ absurd (not_far e.numerology (reach_of side c.delays) clock slot (keeps.reached e ep slot at has) far)
  | inr none ↦ none
]

-- so none of its cells is reported
pub far_not_reported : (side : Side) (c : Config) (clock : ℤ) (v : CellsValue) (acc : List Allocation) (ds : List UserSection) (e : EndpointConfig) (cell : Cell)
    → Keeps side c clock v acc ds → IsAt c.endpoints cell.ep e → IsFar e.numerology (reach_of side c.delays) clock cell.slot → cells_reported v cell ≡ false
far_not_reported side c clock v acc ds e cell keeps at far = no_reported_from (ring_of v cell.ep) cell (far_no_place side c clock v acc ds e cell.ep cell.slot keeps at far)

far_not_told : (es : List EndpointConfig) (r : Reach) (clock : ℤ) (ds : List UserSection) (e : EndpointConfig) (cell : Cell)
    → All (IsReachedData es r clock) ds → IsAt es cell.ep e → IsFar e.numerology r clock cell.slot → told_block_at ds cell ≡ None
unfolding told_block_at
far_not_told es r clock [] e cell all at far = refl
far_not_told es r clock (d ∷ earlier) e cell all at far =
    let before : told_block_at earlier cell ≡ None = far_not_told es r clock earlier e cell (All-tail (IsReachedData es r clock) d earlier all) at far in
    let first : IsReachedData es r clock d = All-head (IsReachedData es r clock) d earlier all in
    elim (cases_Bool (data_covers d cell)) [
      | inr other ↦
          let none : told_block_in d cell ≡ None = rw other refl in
          told-cons d earlier cell ∙ ap (λ (o : Option Block). or_else (told_block_at earlier cell) o) none ∙ or_none (told_block_at earlier cell) ∙ before
      | inl own ↦
          let is = data_covers_is d cell own in
          absurd (far_other es r clock d.ep cell.ep d.endpoint e (data_slot d) cell.slot first.endpoint at is.ep is.slot first.live far)
    ]

-- ---- later

reached_later : (es : List EndpointConfig) (r : Reach) (clock to : ℤ) → clock ≤ℤ to → (a : Allocation) → IsReached es r clock a → IsReached es r to a
reached_later es r clock to order a is = record { endpoint = is.endpoint; live = was_later a.endpoint.numerology r clock to a.slot order is.live }

reached_data_later : (es : List EndpointConfig) (r : Reach) (clock to : ℤ) → clock ≤ℤ to → (d : UserSection) → IsReachedData es r clock d → IsReachedData es r to d
reached_data_later es r clock to order d is = record { endpoint = is.endpoint; live = was_later d.endpoint.numerology r clock to (data_slot d) order is.live }

pub live_at : (side : Side) (c : Config) (clock : ℤ) (e : EndpointConfig) (ep : ℕ) (slot : Slot) → IsAt c.endpoints ep e
    → IsLiveOn side c.delays e clock slot → IsLiveFor side c clock ep slot
live_at side c clock e ep slot at live f there =
    subst (λ (x : EndpointConfig). IsLiveOn side c.delays x clock slot)
    (endpoints_equal c.endpoints ep ep e f at there refl) live

-- what the rings keep at a clock, they keep at a later one
pub keeps_later : (side : Side) (c : Config) (clock to : ℤ) (v : CellsValue) (acc : List Allocation) (ds : List UserSection) → clock ≤ℤ to → Keeps side c clock v acc ds
    → Keeps side c to v acc ds
keeps_later side c clock to v acc ds order keeps = record {
  claims = λ e cell re is live below.
      elim (live_later e.numerology (reach_of side c.delays) clock to cell.slot order (live e is.endpoint)) [
        | inl now ↦ keeps.claims e cell re is (live_at side c clock e cell.ep cell.slot is.endpoint now) below
        | inr far ↦
            no_claim_from (ring_of v cell.ep) cell re (far_no_place side c clock v acc ds e cell.ep cell.slot keeps is.endpoint far)
            ∙ sym (far_unclaimed c.endpoints (reach_of side c.delays) clock acc e cell re keeps.accepted is.endpoint far)
      ];
  blocks = λ e cell is down live.
      elim (live_later e.numerology (reach_of side c.delays) clock to cell.slot order (live e is.endpoint)) [
        | inl now ↦ keeps.blocks e cell is down (live_at side c clock e cell.ep cell.slot is.endpoint now)
        | inr far ↦
            no_block_from (ring_of v cell.ep) cell (far_no_place side c clock v acc ds e cell.ep cell.slot keeps is.endpoint far)
            ∙ sym (far_not_told c.endpoints (reach_of side c.delays) clock ds e cell keeps.timely is.endpoint far)
      ];
  uplink = λ e ep slot at is live.
      elim (live_later e.numerology (reach_of side c.delays) clock to slot order (live e at)) [
        | inl now ↦ keeps.uplink e ep slot at is (live_at side c clock e ep slot at now)
        | inr far ↦
            no_uplink_from (ring_of v ep) slot (far_no_place side c clock v acc ds e ep slot keeps at far)
            ∙ sym (far_no_uplink c.endpoints (reach_of side c.delays) clock acc e ep slot keeps.accepted at far)
      ];
  reached = λ e ep slot at has. was_later e.numerology (reach_of side c.delays) clock to slot order (keeps.reached e ep slot at has);
  accepted = All-weaker (IsReached c.endpoints (reach_of side c.delays) clock) (IsReached c.endpoints (reach_of side c.delays) to)
      (reached_later c.endpoints (reach_of side c.delays) clock to order) acc keeps.accepted;
  timely = All-weaker (IsReachedData c.endpoints (reach_of side c.delays) clock) (IsReachedData c.endpoints (reach_of side c.delays) to)
      (reached_data_later c.endpoints (reach_of side c.delays) clock to order) ds keeps.timely;
}
