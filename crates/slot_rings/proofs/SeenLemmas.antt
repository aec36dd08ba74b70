-- What the ring answers of a cell, by the lists of its place.
use Rattle.std.proofs.Common.{◌≡◌, ℕ, zero, suc, ◌+◌, ◌<◌, ◌≤◌, inl, inr, Bool, true, false, not, ◌&&◌, ◌==◌, List, length, get_or, refl, ap, ap₂, sym, ◌∙◌, arith, Option, Some, None, is_some}
use Rattle.std.specs.Prelude.{IfSome}
use Rattle.std.proofs.lemmas.Bool.{cases_Bool}
use Rattle.fh_base.specs.declared.values.Slot.{Slot}
use Rattle.unit_model.specs.Claims.{cell_at}
use Rattle.fh_base.specs.Lists.{every, some}
use Rattle.unit_model.specs.Radiated.{used_below, used_mask}
use Rattle.unit_model.specs.declared.allocations.Allocation.{Allocation}
use Rattle.unit_model.specs.declared.cells.Block.{Block}
use Rattle.unit_model.specs.declared.cells.Cell.{Cell}
use Rattle.unit_model.specs.declared.cells.Claim.{Claim}
use Rattle.slot_rings.specs.Blocks.{block_lent}
use Rattle.slot_rings.specs.Places.{PlaceValue, claim_in, no_claims, is_place_of, is_due, is_in_use, claims_seen, blocks_seen, is_reported, place_claim, place_block, place_reported, place_uplink, cell_number}
use Rattle.slot_rings.specs.Rings.{RingValue, place_of, ring_claim, ring_block, ring_reported, ring_uplink}
use Rattle.slot_rings.specs.Symbols.{AreCellsOf, lent_claim}
use Rattle.slot_rings.specs.Verdicts.{verdict_by}
use Rattle.slot_rings.specs.declared.blocks.LentBlocks.{LentBlocks}
use Rattle.slot_rings.specs.declared.claims.CellClaims.{CellClaims}
use Rattle.slot_rings.specs.declared.symbol_cells.SymbolCells.{SymbolCells}
use Rattle.slot_rings.proofs.PlaceLemmas.{seen, verdict_same}
use Rattle.unit_model.proofs.ClaimLemmas.{every_same, some_same}

used_same : (f g : ℕ → Option Claim) → ((re : ℕ) → f re ≡ g re) → (n : ℕ) → used_below f n ≡ used_below g n
unfolding used_below
used_same f g same zero = refl
used_same f g same (suc n) = let here = same n in let before = used_same f g same n in rw (here, before) refl

block_seen : (prbs : ℕ) (p : PlaceValue) (cell : Cell) → get_or (blocks_seen p cell.slot) (cell_number prbs cell.symbol cell.prb) None ≡ place_block prbs p cell
block_seen prbs p cell = elim (cases_Bool (is_place_of p.slot cell.slot)) [
  | inl own ↦ rw own refl
  | inr other ↦ rw other refl
]

flag_seen : (prbs : ℕ) (p : PlaceValue) (cell : Cell) → cell.down ≡ true → is_reported (claims_seen p cell.slot cell.down) (cell_number prbs cell.symbol cell.prb) ≡ place_reported prbs p cell
flag_seen prbs p cell down = elim (cases_Bool (is_place_of p.slot cell.slot)) [
  | inl own ↦ rw (own, down) refl
  | inr other ↦ rw other refl
]

module _ (r : RingValue) (slot : Slot) (symbol prb ep : ℕ) (m : CellClaims)
    (m_is : m ≡ get_or (claims_seen (place_of r slot) slot true) (cell_number r.endpoint.prbs symbol prb) no_claims) where
  one_seen : (re : ℕ) → claim_in m re ≡ ring_claim r (cell_at ep true slot symbol prb) re
  one_seen re = ap (λ (x : CellClaims). claim_in x re) m_is ∙ sym (seen r.endpoint.prbs (place_of r slot) (cell_at ep true slot symbol prb) re)

  pub mask_seen : used_mask (claim_in m) ≡ used_mask (ring_claim r (cell_at ep true slot symbol prb))
  mask_seen = used_same _ _ one_seen 12

row_at : (prbs symbol base n : ℕ) → base ≡ cell_number prbs symbol 0 → base + n ≡ cell_number prbs symbol n
row_at prbs symbol base n e = omega (arith, e)

-- the cells of a symbol, lent as what its place's lists have from the first of them on
pub cells_lent : (r : RingValue) (slot : Slot) (symbol base : ℕ) (cells : SymbolCells) (ms : List CellClaims)
    → base ≡ cell_number r.endpoint.prbs symbol 0
    → ms ≡ claims_seen (place_of r slot) slot true
    → ((k : ℕ) → get_or cells.claims.now k no_claims ≡ get_or ms (base + k) no_claims)
    → ((k : ℕ) → block_lent cells.blocks k ≡ get_or (blocks_seen (place_of r slot) slot) (base + k) None)
    → cells.span.end ≤ r.endpoint.prbs
    → ((prb : ℕ) → prb < r.endpoint.prbs → (cells.span.first ≤ prb → cells.span.end ≤ prb) → is_in_use (lent_claim cells prb) ≡ false)
    → AreCellsOf r slot symbol cells
cells_lent r slot symbol base cells ms base_is ms_is claims blocks within unused = record {
  claims = λ ep prb re.
      one_seen r slot symbol prb ep (get_or cells.claims.now prb no_claims)
      (claims prb ∙ ap (λ (l : List CellClaims). get_or l (base + prb) no_claims) ms_is
      ∙ ap (λ (k : ℕ). get_or (claims_seen (place_of r slot) slot true) k no_claims) (row_at r.endpoint.prbs symbol base prb base_is)) re;
  blocks = λ ep prb.
      blocks prb
      ∙ ap (λ (k : ℕ). get_or (blocks_seen (place_of r slot) slot) k None) (row_at r.endpoint.prbs symbol base prb base_is)
      ∙ block_seen r.endpoint.prbs (place_of r slot) (cell_at ep true slot symbol prb);
  reported = λ ep prb.
      ap (λ (m : CellClaims). m.reported) (claims prb) ∙ ap (λ (l : List CellClaims). is_reported l (base + prb)) ms_is
      ∙ ap (λ (k : ℕ). is_reported (claims_seen (place_of r slot) slot true) k) (row_at r.endpoint.prbs symbol base prb base_is)
      ∙ flag_seen r.endpoint.prbs (place_of r slot) (cell_at ep true slot symbol prb) refl;
  within = within;
  unused = unused;
}

pub due_seen : (r : RingValue) (slot : Slot) (symbol base ep : ℕ) (ms : List CellClaims) → base ≡ cell_number r.endpoint.prbs symbol 0
    → ms ≡ claims_seen (place_of r slot) slot true
    → some 0 r.endpoint.prbs (λ n. is_due (claim_in (get_or ms (base + n) no_claims)) (is_reported ms (base + n)))
    ≡ some 0 r.endpoint.prbs (λ prb. is_due (ring_claim r (cell_at ep true slot symbol prb)) (ring_reported r (cell_at ep true slot symbol prb)))
due_seen r slot symbol base ep ms base_is ms_is = some_same 0 r.endpoint.prbs _ _ (λ n low high.
    let at = row_at r.endpoint.prbs symbol base n base_is in
    let m_is : get_or ms (base + n) no_claims ≡ get_or (claims_seen (place_of r slot) slot true) (cell_number r.endpoint.prbs symbol n) no_claims =
    ap (λ (l : List CellClaims). get_or l (base + n) no_claims) ms_is ∙ ap (λ (k : ℕ). get_or (claims_seen (place_of r slot) slot true) k no_claims) at in
    let d_is : is_reported ms (base + n) ≡ ring_reported r (cell_at ep true slot symbol n) =
    ap (λ (l : List CellClaims). is_reported l (base + n)) ms_is ∙ ap (λ (k : ℕ). is_reported (claims_seen (place_of r slot) slot true) k) at
    ∙ flag_seen r.endpoint.prbs (place_of r slot) (cell_at ep true slot symbol n) refl in
    ap₂ (λ (u : ℕ) (d : Bool). not (u == 0) && not d) (mask_seen r slot symbol n ep _ m_is) d_is)

-- the block of a cell, and whether each of some cells has one, of what a place lends
module _ (r : RingValue) (slot : Slot) (lent : LentBlocks) (lent_is : (k : ℕ) → block_lent lent k ≡ get_or (blocks_seen (place_of r slot) slot) k None) where
  pub block_there : (symbol prb number ep : ℕ) → number ≡ cell_number r.endpoint.prbs symbol prb
      → block_lent lent number ≡ ring_block r (cell_at ep true slot symbol prb)
  block_there symbol prb number ep is = lent_is number
      ∙ ap (λ (k : ℕ). get_or (blocks_seen (place_of r slot) slot) k None) is
      ∙ block_seen r.endpoint.prbs (place_of r slot) (cell_at ep true slot symbol prb)

  pub all_seen : (symbol first count base ep : ℕ) → base ≡ cell_number r.endpoint.prbs symbol 0
      → every first count (λ n. is_some (block_lent lent (base + n))) ≡ every first count (λ prb. is_some (ring_block r (cell_at ep true slot symbol prb)))
  all_seen symbol first count base ep base_is = every_same first count _ _ (λ n low high.
      ap (λ (o : Option Block). is_some o) (block_there symbol n (base + n) ep (row_at r.endpoint.prbs symbol base n base_is)))

pub verdict_seen : (r : RingValue) (a : Allocation) (prbs : ℕ) (p : PlaceValue) → p ≡ place_of r a.slot → prbs ≡ r.endpoint.prbs
    → verdict_by (place_claim prbs p) (length (place_uplink p a.slot)) a ≡ verdict_by (ring_claim r) (length (ring_uplink r a.slot)) a
verdict_seen r a prbs p p_is prbs_is =
    ap (λ (q : PlaceValue). verdict_by (place_claim prbs q) (length (place_uplink q a.slot)) a) p_is
    ∙ ap (λ (n : ℕ). verdict_by (place_claim n (place_of r a.slot)) (length (place_uplink (place_of r a.slot) a.slot)) a) prbs_is
    ∙ verdict_same (place_claim r.endpoint.prbs (place_of r a.slot)) (ring_claim r) _ a (λ y n re. refl)

pub if_some : {A : Type 0} (o : Option A) {P : A → Type 0} → ((x : A) → o ≡ Some x → P x) → IfSome o P
if_some None f = tt
if_some (Some x) f = f x refl
