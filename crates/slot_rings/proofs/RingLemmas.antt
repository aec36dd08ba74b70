-- The ring: a call changes one place.
use Rattle.std.proofs.Common.{◌≡◌, ℕ, ℤ, pos, negsuc, ◌+◌, ◌<◌, ◌≤◌, inl, inr, Bool, true, false, length, get_or, set, refl, ap, ap₂, not, ◌==◌, sym, ◌∙◌, subst, arith, length-set, get_or-set_same, get_or-set_other, Option, Some, None, if◌then◌else◌}
use Rattle.std.specs.Int.{int_gap, int_rem_euclid}
use Rattle.std.specs.Prelude.{◌||◌}
use Rattle.std.proofs.lemmas.Bool.{cases_eq, cases_Bool, false_from_ne_true}
use Rattle.std.proofs.lemmas.List.{get_or_read}
use Rattle.std.proofs.lemmas.Nat.{mod_below}
use Rattle.fh_base.specs.declared.kind.Kind.{Kind}
use Rattle.fh_base.specs.declared.kind.Kind.TheVariants.{Ordinary, Offset, Extended}
use Rattle.fh_base.specs.declared.numerology.Numerology.{Numerology}
use Rattle.fh_base.specs.declared.values.Slot.{Slot}
use Rattle.fh_base.specs.Kinds.{kind_symbols}
use Rattle.fh_base.specs.Numbering.{slot_number, symbols_of}
use Rattle.unit_model.specs.Claims.{cell_at}
use Rattle.unit_model.specs.Proper.{IsSlot}
use Rattle.unit_model.specs.declared.allocations.Allocation.{Allocation}
use Rattle.unit_model.specs.declared.cells.Cell.{Cell}
use Rattle.unit_model.specs.declared.cells.Claim.{Claim}
use Rattle.slot_rings.specs.Places.{IsOpened, IsWiped, PlaceValue, blank, is_in_use, is_reported, unreported, is_place_of, claims_of, claims_seen, claim_in, no_claims, place_claim, place_block, place_reported, place_uplink, cell_number}
use Rattle.slot_rings.specs.Rings.{RingValue, IsRing, SharePlace, SameClaims, SameBlocks, SameSlotReported, SameUplink, place_index, place_of, with_place, ring_claim, ring_block, ring_reported, ring_uplink, has_slot}
use Rattle.slot_rings.specs.declared.claims.CellClaims.{CellClaims}
use Rattle.unit_model.specs.declared.verdicts.CommandVerdict.TheVariants.{Accepted}
use Rattle.slot_rings.specs.Verdicts.{verdict_by, claim_after}
use Rattle.slot_rings.proofs.SeenLemmas.{mask_seen, verdict_seen}
use Rattle.slot_rings.proofs.PlaceLemmas.{of_own, no_claim}
use Rattle.fh_base.specs.declared.symbols.TheConstants.{SLOT_SYMBOLS}
use Rattle.unit_model.proofs.ClaimLemmas.{same_slot_is as slot_is}

pub symbols_are : (n : Numerology) → symbols_of n ≤ SLOT_SYMBOLS
symbols_are n = go n.kind
  where
    go : (k : Kind) → kind_symbols k ≤ SLOT_SYMBOLS
    go (Ordinary spacing) = omega arith
    go (Offset spacing offset cp) = omega arith
    go Extended = omega arith

pub index_within : (r : RingValue) (s : Slot) → 0 < length r.places → place_index r s < length r.places
index_within r s some = go (slot_number r.endpoint.numerology s)
  where
    go : (z : ℤ) → int_gap (pos 0) (int_rem_euclid z (pos (length r.places))) < length r.places
    go (pos a) = omega (arith, mod_below a (length r.places) some)
    go (negsuc a) = omega (arith, some)

-- ---- another place at an index

abbrev pub put : RingValue → ℕ → PlaceValue → RingValue
put r i q = record { endpoint = r.endpoint; places = set r.places i q }

index_put : (r : RingValue) (i : ℕ) (q : PlaceValue) (s : Slot) → place_index (put r i q) s ≡ place_index r s
index_put r i q s = ap (λ (n : ℕ). int_gap (pos 0) (int_rem_euclid (slot_number r.endpoint.numerology s) (pos n))) (length-set r.places i q)

pub put_own : (r : RingValue) (i : ℕ) (q : PlaceValue) (s : Slot) → IsRing r → i ≡ place_index r s → place_of (put r i q) s ≡ q
put_own r i q s ring i_is =
    ap (λ (j : ℕ). get_or (set r.places i q) j blank) (index_put r i q s ∙ sym i_is)
    ∙ get_or-set_same r.places i q blank (subst (λ (j : ℕ). j < length r.places) (sym i_is) (index_within r s ring.some))

pub put_ring : (r : RingValue) (i : ℕ) (q : PlaceValue) → IsRing r → i < length r.places
    → q.prbs ≡ r.endpoint.prbs → ((s : Slot) → q.slot ≡ Some s → IsSlot r.endpoint.numerology s × (place_index r s ≡ i))
    → IsRing (put r i q)
put_ring r i q ring within prbs home =
    let len = length-set r.places i q in
    record {
      some = omega (arith, len, ring.some);
      few = omega (arith, len, ring.few);
      prbs_some = ring.prbs_some;
      prbs_few = ring.prbs_few;
      widths = λ j below. elim (cases_eq j i) [
        | inl e ↦ subst (λ (p : PlaceValue). p.prbs ≡ r.endpoint.prbs) (sym (here j e)) prbs
        | inr ne ↦ subst (λ (p : PlaceValue). p.prbs ≡ r.endpoint.prbs) (sym (get_or-set_other r.places i j q blank ne)) (ring.widths j (omega (arith, len, below)))
      ];
      homes = λ j s below is. elim (cases_eq j i) [
        | inl e ↦
            let h = home s (ap (λ (p : PlaceValue). p.slot) (sym (here j e)) ∙ is) in
            (h.0, index_put r i q s ∙ h.1 ∙ sym e)
        | inr ne ↦
            let h = ring.homes j s (omega (arith, len, below)) (ap (λ (p : PlaceValue). p.slot) (sym (get_or-set_other r.places i j q blank ne)) ∙ is) in
            (h.0, index_put r i q s ∙ h.1)
      ];
    }
  where
    here : (j : ℕ) → j ≡ i → get_or (set r.places i q) j blank ≡ q
    here j e = ap (λ (k : ℕ). get_or (set r.places i q) k blank) e ∙ get_or-set_same r.places i q blank within

-- a place that stays its slot's
pub put_kept : (r : RingValue) (i : ℕ) (p q : PlaceValue) → IsRing r → i < length r.places → p ≡ get_or r.places i p → q.slot ≡ p.slot → q.prbs ≡ p.prbs
    → IsRing (put r i q)
put_kept r i p q ring within read slot prbs =
    let there : p ≡ get_or r.places i blank = get_or_read r.places i p within read blank in
    put_ring r i q ring within
    (prbs ∙ ap (λ (x : PlaceValue). x.prbs) there ∙ ring.widths i within)
    (λ s is. ring.homes i s within (ap (λ (x : PlaceValue). x.slot) (sym there) ∙ sym slot ∙ is))

read_prbs : (r : RingValue) (i : ℕ) (p : PlaceValue) → IsRing r → i < length r.places → p ≡ get_or r.places i p → p.prbs ≡ r.endpoint.prbs
read_prbs r i p ring within read = ap (λ (x : PlaceValue). x.prbs) (get_or_read r.places i p within read blank) ∙ ring.widths i within

some_own : (s t : Slot) → Some s ≡ Some t → s ≡ t
some_own s t e = cc

pub put_opened : (r : RingValue) (i : ℕ) (p q : PlaceValue) (slot : Slot) → IsRing r → i < length r.places → p ≡ get_or r.places i p
    → IsSlot r.endpoint.numerology slot → i ≡ place_index r slot → IsOpened slot p q → IsRing (put r i q)
put_opened r i p q slot ring within read is i_is opened =
    let there : p ≡ get_or r.places i blank = get_or_read r.places i p within read blank in
    put_ring r i q ring within
    (opened.prbs ∙ ap (λ (x : PlaceValue). x.prbs) there ∙ ring.widths i within)
    (λ s e.
    let s_is : slot ≡ s = some_own slot s (sym opened.slot ∙ e) in
    (subst (λ (x : Slot). IsSlot r.endpoint.numerology x) s_is is, subst (λ (x : Slot). place_index r x ≡ i) s_is (sym i_is)))

-- what was read is the slot's place
pub read_width : (r s : RingValue) (i : ℕ) (p : PlaceValue) → IsRing r → r ≡ s → i < length s.places → p ≡ get_or r.places i p → p.prbs ≡ s.endpoint.prbs
read_width r s i p ring same within read =
    read_prbs r i p ring (subst (λ (x : RingValue). i < length x.places) (sym same) within) read ∙ ap (λ (x : RingValue). x.endpoint.prbs) same

pub read_is : (r s : RingValue) (i : ℕ) (p : PlaceValue) (slot : Slot) → IsRing r → r ≡ s → i ≡ place_index s slot → p ≡ get_or r.places i p → p ≡ place_of s slot
read_is r s i p slot ring same i_is read =
    let i_there : i ≡ place_index r slot = i_is ∙ ap (λ (x : RingValue). place_index x slot) (sym same) in
    let within : i < length r.places = subst (λ (j : ℕ). j < length r.places) (sym i_there) (index_within r slot ring.some) in
    get_or_read r.places i p within read blank ∙ ap (λ (x : RingValue). get_or x.places i blank) same ∙ ap (λ (j : ℕ). get_or s.places j blank) i_is

pub claims_moved : (prbs : ℕ) (a : Allocation) (p p' q q' : PlaceValue) (cell : Cell) (re : ℕ) → p ≡ p' → q' ≡ q
    → place_claim prbs q cell re ≡ claim_after Accepted a cell re (place_claim prbs p cell re)
    → place_claim prbs q' cell re ≡ claim_after Accepted a cell re (place_claim prbs p' cell re)
claims_moved prbs a p p' q q' cell re was is fact =
    ap (λ (x : PlaceValue). place_claim prbs x cell re) is ∙ fact ∙ ap (λ (x : PlaceValue). claim_after Accepted a cell re (place_claim prbs x cell re)) was

-- the slot of the place at an index
pub own_at : (r : RingValue) (i : ℕ) (p : PlaceValue) (s : Slot) → IsRing r → i < length r.places → p ≡ get_or r.places i p → p.slot ≡ Some s
    → (has_slot r s ≡ true) × (place_index r s ≡ i)
own_at r i p s ring within read is =
    let there : p ≡ get_or r.places i blank = get_or_read r.places i p within read blank in
    let owner : (get_or r.places i blank).slot ≡ Some s = ap (λ (x : PlaceValue). x.slot) (sym there) ∙ is in
    let home = ring.homes i s within owner in
    let at : (place_of r s).slot ≡ Some s = subst (λ (j : ℕ). (get_or r.places j blank).slot ≡ Some s) (sym home.1) owner in
    (ap (λ (o : Option Slot). is_place_of o s) at ∙ of_own s, home.1)

-- ---- a slot that has its place

own_block : (r : RingValue) (cell : Cell) (slot : Slot) → cell.slot ≡ slot → has_slot r slot ≡ true
    → ring_block r cell ≡ get_or (place_of r slot).blocks (cell_number r.endpoint.prbs cell.symbol cell.prb) None
own_block r cell slot at own =
    let there : place_of r cell.slot ≡ place_of r slot = ap (λ (s : Slot). place_of r s) at in
    let owner : is_place_of (place_of r slot).slot cell.slot ≡ true = ap (λ (s : Slot). is_place_of (place_of r slot).slot s) at ∙ own in
    ap (λ (p : PlaceValue). place_block r.endpoint.prbs p cell) there ∙ rw owner refl

own_reported : (r : RingValue) (cell : Cell) (slot : Slot) → cell.slot ≡ slot → has_slot r slot ≡ true
    → ring_reported r cell ≡ is_reported (place_of r slot).down (cell_number r.endpoint.prbs cell.symbol cell.prb)
own_reported r cell slot at own =
    let there : place_of r cell.slot ≡ place_of r slot = ap (λ (s : Slot). place_of r s) at in
    let owner : is_place_of (place_of r slot).slot cell.slot ≡ true = ap (λ (s : Slot). is_place_of (place_of r slot).slot s) at ∙ own in
    ap (λ (p : PlaceValue). place_reported r.endpoint.prbs p cell) there ∙ rw owner refl

pub block_still : (old new : RingValue) (slot : Slot) (cell : Cell) → new.endpoint ≡ old.endpoint
    → has_slot old slot ≡ true → has_slot new slot ≡ true → cell.slot ≡ slot
    → get_or (place_of new slot).blocks (cell_number old.endpoint.prbs cell.symbol cell.prb) None ≡ get_or (place_of old slot).blocks (cell_number old.endpoint.prbs cell.symbol cell.prb) None
    → ring_block new cell ≡ ring_block old cell
block_still old new slot cell endpoint was is at same =
    own_block new cell slot at is
    ∙ ap (λ (n : ℕ). get_or (place_of new slot).blocks (cell_number n cell.symbol cell.prb) None) (ap (λ e. e.prbs) endpoint)
    ∙ same ∙ sym (own_block old cell slot at was)

pub block_other : (old new : RingValue) (slot : Slot) (cell : Cell) (k : ℕ) → new.endpoint ≡ old.endpoint
    → has_slot old slot ≡ true → has_slot new slot ≡ true → cell.slot ≡ slot → (cell_number old.endpoint.prbs cell.symbol cell.prb ≡ k → ⊥)
    → ((i : ℕ) → (i ≡ k → ⊥) → get_or (place_of new slot).blocks i None ≡ get_or (place_of old slot).blocks i None)
    → ring_block new cell ≡ ring_block old cell
block_other old new slot cell k endpoint was is at apart others = block_still old new slot cell endpoint was is at (others _ apart)

pub reported_still : (old new : RingValue) (slot : Slot) (cell : Cell) → new.endpoint ≡ old.endpoint
    → has_slot old slot ≡ true → has_slot new slot ≡ true → cell.slot ≡ slot
    → is_reported (place_of new slot).down (cell_number old.endpoint.prbs cell.symbol cell.prb) ≡ is_reported (place_of old slot).down (cell_number old.endpoint.prbs cell.symbol cell.prb)
    → ring_reported new cell ≡ ring_reported old cell
reported_still old new slot cell endpoint was is at same =
    own_reported new cell slot at is
    ∙ ap (λ (n : ℕ). is_reported (place_of new slot).down (cell_number n cell.symbol cell.prb)) (ap (λ e. e.prbs) endpoint)
    ∙ same ∙ sym (own_reported old cell slot at was)

-- claims, where cells are set as reported
claim_still : (prbs : ℕ) (p q : PlaceValue) (cell : Cell) (re : ℕ) → q ≡ record p { down = q.down }
    → ((i : ℕ) → unreported (get_or q.down i no_claims) ≡ unreported (get_or p.down i no_claims)) → place_claim prbs q cell re ≡ place_claim prbs p cell re
claim_still prbs p q cell re kept same =
    ap (λ (x : PlaceValue). place_claim prbs x cell re) kept
    ∙ ap (λ (o : Option Claim). let all : Option Claim = if is_place_of p.slot cell.slot then o else None in all) (way cell.down)
  where
    way : (b : Bool) → claim_in (get_or (claims_of (record p { down = q.down }) b) (cell_number prbs cell.symbol cell.prb) no_claims) re
        ≡ claim_in (get_or (claims_of p b) (cell_number prbs cell.symbol cell.prb) no_claims) re
    way true = ap (λ (m : CellClaims). claim_in m re) (same (cell_number prbs cell.symbol cell.prb))
    way false = refl

pub claims_still : (old new : RingValue) (slot : Slot) → new.endpoint ≡ old.endpoint → place_of new slot ≡ record (place_of old slot) { down = (place_of new slot).down }
    → ((i : ℕ) → unreported (get_or (place_of new slot).down i no_claims) ≡ unreported (get_or (place_of old slot).down i no_claims)) → SameClaims slot old new
claims_still old new slot endpoint kept same cell re at =
    ap (λ (s : Slot). place_claim new.endpoint.prbs (place_of new s) cell re) at
    ∙ claim_still new.endpoint.prbs (place_of old slot) (place_of new slot) cell re kept same
    ∙ ap (λ (n : ℕ). place_claim n (place_of old slot) cell re) (ap (λ e. e.prbs) endpoint)
    ∙ ap (λ (s : Slot). place_claim old.endpoint.prbs (place_of old s) cell re) (sym at)

-- a cell of a row, by the number of its first one
row_cell : (prbs symbol prb : ℕ) → cell_number prbs symbol prb ≡ cell_number prbs symbol 0 + prb
row_cell prbs symbol prb = omega arith

-- a cell that is set as reported if it is in use
pub used_reported : (old new : RingValue) (slot : Slot) (symbol ep prb : ℕ) → new.endpoint ≡ old.endpoint → has_slot old slot ≡ true → has_slot new slot ≡ true
    → is_reported (place_of new slot).down (cell_number old.endpoint.prbs symbol 0 + prb)
    ≡ (is_reported (place_of old slot).down (cell_number old.endpoint.prbs symbol 0 + prb)
    || is_in_use (claim_in (get_or (place_of old slot).down (cell_number old.endpoint.prbs symbol 0 + prb) no_claims)))
    → ring_reported new (cell_at ep true slot symbol prb) ≡ (ring_reported old (cell_at ep true slot symbol prb) || is_in_use (ring_claim old (cell_at ep true slot symbol prb)))
used_reported old new slot symbol ep prb endpoint was is step =
    let cell = cell_at ep true slot symbol prb in
    let at = row_cell old.endpoint.prbs symbol prb in
    let m_is : get_or (place_of old slot).down (cell_number old.endpoint.prbs symbol 0 + prb) no_claims
    ≡ get_or (claims_seen (place_of old slot) slot true) (cell_number old.endpoint.prbs symbol prb) no_claims =
    rw was (ap (λ (k : ℕ). get_or (place_of old slot).down k no_claims) (sym at)) in
    own_reported new cell slot refl is
    ∙ ap (λ (n : ℕ). is_reported (place_of new slot).down (cell_number n symbol prb)) (ap (λ e. e.prbs) endpoint)
    ∙ ap (λ (k : ℕ). is_reported (place_of new slot).down k) at
    ∙ step
    ∙ ap₂ (λ (d : Bool) (u : ℕ). d || not (u == 0))
    (ap (λ (k : ℕ). is_reported (place_of old slot).down k) (sym at) ∙ sym (own_reported old cell slot refl was))
    (mask_seen old slot symbol prb ep _ m_is)

-- ---- a slot that is given its place

module _ (prbs : ℕ) (p q : PlaceValue) (cell : Cell) (is : IsOpened cell.slot p q) where
  owned : is_place_of q.slot cell.slot ≡ true
  owned = ap (λ (o : Option Slot). is_place_of o cell.slot) is.slot ∙ of_own cell.slot

  opened_claim : (re : ℕ) → place_claim prbs q cell re ≡ place_claim prbs p cell re
  opened_claim re = elim (cases_Bool (is_place_of p.slot cell.slot)) [
    | inl own ↦ ap (λ (x : PlaceValue). place_claim prbs x cell re) (is.own own)
    | inr other ↦ rw (other, owned) (ap (λ (m : CellClaims). claim_in m re) (none cell.down (is.other other)) ∙ no_claim re)
  ]
    where
      none : (b : Bool) → IsWiped q → get_or (claims_of q b) (cell_number prbs cell.symbol cell.prb) no_claims ≡ no_claims
      none true wiped = wiped.down (cell_number prbs cell.symbol cell.prb)
      none false wiped = wiped.up (cell_number prbs cell.symbol cell.prb)

  opened_block : place_block prbs q cell ≡ place_block prbs p cell
  opened_block = elim (cases_Bool (is_place_of p.slot cell.slot)) [
    | inl own ↦ ap (λ (x : PlaceValue). place_block prbs x cell) (is.own own)
    | inr other ↦ rw (other, owned) ((is.other other).blocks (cell_number prbs cell.symbol cell.prb))
  ]

  opened_reported : place_reported prbs q cell ≡ place_reported prbs p cell
  opened_reported = elim (cases_Bool (is_place_of p.slot cell.slot)) [
    | inl own ↦ ap (λ (x : PlaceValue). place_reported prbs x cell) (is.own own)
    | inr other ↦ rw (other, owned) (ap (λ (m : CellClaims). m.reported) ((is.other other).down (cell_number prbs cell.symbol cell.prb)))
  ]

opened_uplink : (p q : PlaceValue) (slot : Slot) → IsOpened slot p q → place_uplink q slot ≡ place_uplink p slot
opened_uplink p q slot is = elim (cases_Bool (is_place_of p.slot slot)) [
  | inl own ↦ ap (λ (x : PlaceValue). place_uplink x slot) (is.own own)
  | inr other ↦
      let o : is_place_of q.slot slot ≡ true = ap (λ (x : Option Slot). is_place_of x slot) is.slot ∙ of_own slot in
      rw (other, o) (is.other other).uplink
]

module _ (old new : RingValue) (slot : Slot) (ring : IsRing old) (only : new ≡ with_place old slot (place_of new slot)) (is : IsOpened slot (place_of old slot) (place_of new slot)) where
  prbs_same : new.endpoint.prbs ≡ old.endpoint.prbs
  prbs_same = ap (λ (r : RingValue). r.endpoint.prbs) only

  opened_at : (cell : Cell) → cell.slot ≡ slot → IsOpened cell.slot (place_of old cell.slot) (place_of new cell.slot)
  opened_at cell at = subst (λ (s : Slot). IsOpened s (place_of old s) (place_of new s)) (sym at) is

  pub opened_has : has_slot new slot ≡ true
  opened_has = ap (λ (o : Option Slot). is_place_of o slot) is.slot ∙ of_own slot

  pub opened_claims : SameClaims slot old new
  opened_claims cell re at =
      ap (λ (n : ℕ). place_claim n (place_of new cell.slot) cell re) prbs_same
      ∙ opened_claim old.endpoint.prbs (place_of old cell.slot) (place_of new cell.slot) cell (opened_at cell at) re

  pub opened_blocks : SameBlocks slot old new
  opened_blocks cell at =
      ap (λ (n : ℕ). place_block n (place_of new cell.slot) cell) prbs_same
      ∙ opened_block old.endpoint.prbs (place_of old cell.slot) (place_of new cell.slot) cell (opened_at cell at)

  pub opened_all_reported : SameSlotReported slot old new
  opened_all_reported cell at =
      ap (λ (n : ℕ). place_reported n (place_of new cell.slot) cell) prbs_same
      ∙ opened_reported old.endpoint.prbs (place_of old cell.slot) (place_of new cell.slot) cell (opened_at cell at)

  pub opened_uplinks : SameUplink slot old new
  opened_uplinks = opened_uplink (place_of old slot) (place_of new slot) slot is

  pub opened_parted : (s : Slot) → SharePlace old s slot → (s ≡ slot → ⊥) → has_slot new s ≡ false
  opened_parted s share ne =
      ap (λ (o : Option Slot). is_place_of o s) (ap (λ (r : RingValue). (place_of r s).slot) only
      ∙ ap (λ (p : PlaceValue). p.slot) (put_own old (place_index old slot) (place_of new slot) s ring (sym share)) ∙ is.slot)
      ∙ false_from_ne_true _ (λ same. ne (sym (slot_is slot s same)))

-- ---- a claim in a slot that has its place

pub ring_accepted : (r : RingValue) (a : Allocation) → a.endpoint ≡ r.endpoint → verdict_by (ring_claim r) (length (ring_uplink r a.slot)) a ≡ Accepted
    → verdict_by (place_claim a.endpoint.prbs (place_of r a.slot)) (length (place_uplink (place_of r a.slot) a.slot)) a ≡ Accepted
ring_accepted r a is accepted = verdict_seen r a a.endpoint.prbs (place_of r a.slot) refl (ap (λ e. e.prbs) is) ∙ accepted
