-- Steps of one ring, one after the other.
use Rattle.std.proofs.Common.{◌≡◌, ◌≢◌, ℕ, pos, ◌+◌, ◌<◌, ◌∙◌, true, false, List, [], ◌∷◌, length, refl, ap, sym, subst, arith, Option, Some}
use Rattle.std.proofs.lemmas.Bool.Decides.{nat_tests}
use Rattle.bfp_codec.specs.declared.samples.Wide.{Wide}
use Rattle.std.specs.Int.{int_gap, int_rem_euclid}
use Rattle.fh_base.specs.Numbering.{slot_number, symbols_of}
use Rattle.fh_base.specs.declared.values.Slot.{Slot}
use Rattle.window_config.specs.declared.endpoints.EndpointConfig.{EndpointConfig}
use Rattle.unit_model.specs.Claims.{cell_at, cell_of, is_from}
use Rattle.fh_base.specs.Lists.{or_else}
use Rattle.unit_model.specs.Proper.{IsSlot}
use Rattle.unit_model.specs.declared.allocations.Allocation.{Allocation}
use Rattle.unit_model.specs.declared.cells.Block.{Block}
use Rattle.unit_model.specs.declared.cells.Cell.{Cell}
use Rattle.unit_model.specs.declared.cells.Claim.{Claim}
use Rattle.unit_model.specs.declared.verdicts.CommandVerdict.{CommandVerdict}
use Rattle.slot_rings.specs.Rings.{IsRingCell, RingValue, SameBlocks, SameClaims, SameSlotReported, SameUplink, TouchesOnly, place_index, ring_block, ring_claim, ring_uplink}
use Rattle.slot_rings.specs.Runs.{packed_block}
use Rattle.slot_rings.specs.Verdicts.{claim_after, uplink_after, verdict_by}
use Rattle.slot_rings.proofs.PlaceLemmas.{verdict_same}
use Rattle.unit_cells.specs.Steps.{Claims, Fills, Takes}

pub same_index : (slot s : Slot) (old new : RingValue) → TouchesOnly slot old new → place_index new s ≡ place_index old s
same_index slot s old new touches =
    ap (λ (e : EndpointConfig). int_gap (pos 0) (int_rem_euclid (slot_number e.numerology s) (pos (length new.places)))) touches.endpoint
    ∙ ap (λ (n : ℕ). int_gap (pos 0) (int_rem_euclid (slot_number old.endpoint.numerology s) (pos n))) touches.size

pub touches_both : (slot : Slot) (old mid new : RingValue) → TouchesOnly slot old mid → TouchesOnly slot mid new → TouchesOnly slot old new
touches_both slot old mid new one two = record {
  endpoint = two.endpoint ∙ one.endpoint;
  size = two.size ∙ one.size;
  others = λ s ne. two.others s (λ share. ne (sym (same_index slot s old mid one) ∙ share ∙ same_index slot slot old mid one)) ∙ one.others s ne;
}

pub ring_cell_along : (old new : RingValue) (cell : Cell) → new.endpoint ≡ old.endpoint → IsRingCell old cell → IsRingCell new cell
ring_cell_along old new cell e is = record {
  slot = subst (λ (x : EndpointConfig). IsSlot x.numerology cell.slot) (sym e) is.slot;
  symbol = subst (λ (x : EndpointConfig). cell.symbol < symbols_of x.numerology) (sym e) is.symbol;
  prb = subst (λ (x : EndpointConfig). cell.prb < x.prbs) (sym e) is.prb;
}

pub taken : (a : Allocation) (v : CommandVerdict) (old mid new : RingValue)
    → SameClaims a.slot old mid → SameBlocks a.slot old mid → SameSlotReported a.slot old mid → SameUplink a.slot old mid → TouchesOnly a.slot old mid
    → v ≡ verdict_by (ring_claim mid) (length (ring_uplink mid a.slot)) a → Claims a v mid new → Takes a v old new
taken a v old mid new claims blocks reported uplink touches verdict c = record {
  verdict =
      verdict ∙ ap (λ us. verdict_by (ring_claim mid) (length us) a) uplink
      ∙ verdict_same (ring_claim mid) (ring_claim old) (length (ring_uplink old a.slot)) a (λ y n re. claims (cell_of a y n) re refl);
  claims = record {
    claims = λ cell re is ep at below.
        c.claims cell re (ring_cell_along old mid cell touches.endpoint is) ep at below
        ∙ ap (λ (x : Option Claim). claim_after v a cell re x) (claims cell re at);
    uplink = c.uplink ∙ ap (uplink_after v a) uplink;
    has = c.has;
    blocks = λ cell at. c.blocks cell at ∙ blocks cell at;
    reported = λ cell at. c.reported cell at ∙ reported cell at;
    touches = touches_both a.slot old mid new touches c.touches;
  };
}

pub filled : (slot : Slot) (symbol first id : ℕ) (run : List (List Wide)) (old mid new : RingValue)
    → SameClaims slot old mid → SameBlocks slot old mid → SameSlotReported slot old mid → SameUplink slot old mid → TouchesOnly slot old mid
    → Fills slot symbol first id run mid new → Fills slot symbol first id run old new
filled slot symbol first id run old mid new claims blocks reported uplink touches f = record {
  here = λ ep k below. f.here ep k below ∙ ap (λ (o : Option Block). or_else o (Some (packed_block id run k))) (blocks (cell_at ep true slot symbol (first + k)) refl);
  others = λ cell is at ne. f.others cell (ring_cell_along old mid cell touches.endpoint is) at ne ∙ blocks cell at;
  has = f.has;
  claims = λ cell re at. f.claims cell re at ∙ claims cell re at;
  reported = λ cell at. f.reported cell at ∙ reported cell at;
  uplink = f.uplink ∙ uplink;
  touches = touches_both slot old mid new touches f.touches;
}

-- ---- one cell

pub one_of : (ep : ℕ) (slot : Slot) (symbol prb k id : ℕ) (samples : List Wide) (old new : RingValue) → k < 1
    → ring_block new (cell_at ep true slot symbol prb) ≡ or_else (ring_block old (cell_at ep true slot symbol prb)) (Some (record { id = id; samples = samples }))
    → ring_block new (cell_at ep true slot symbol (prb + k)) ≡ or_else (ring_block old (cell_at ep true slot symbol (prb + k))) (Some (packed_block id (samples ∷ []) k))
one_of ep slot symbol prb k id samples old new below is =
    let first : 0 ≡ k = omega arith in
    let same : prb ≡ prb + 0 = omega arith in
    subst (λ (j : ℕ). ring_block new (cell_at ep true slot symbol (prb + j)) ≡ or_else (ring_block old (cell_at ep true slot symbol (prb + j))) (Some (packed_block id (samples ∷ []) j))) first
    (subst (λ (n : ℕ). ring_block new (cell_at ep true slot symbol n) ≡ or_else (ring_block old (cell_at ep true slot symbol n)) (Some (packed_block id (samples ∷ []) 0))) same is)

pub not_one : (prb n : ℕ) → is_from prb 1 n ≡ false → n ≢ prb
not_one prb n h = grind (arith, nat_tests)

-- ---- the cells of a run

pub below_count : (k m n : ℕ) → m ≡ n → k < m → k < n
below_count k m n e h = omega arith

pub out_count : (first m n prb : ℕ) → m ≡ n → is_from first m prb ≡ false → is_from first n prb ≡ false
out_count first m n prb e h = ap (λ (x : ℕ). is_from first x prb) (sym e) ∙ h
