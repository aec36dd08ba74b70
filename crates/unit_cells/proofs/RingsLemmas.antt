-- One ring among all, in place of what it was.
use Rattle.std.proofs.Common.{◌≡◌, ℕ, ℤ, pos, ◌+◌, ◌<◌, ◌+ℤ◌, ◌<ℤ◌, List, [], ◌∷◌, ◌++◌, length, set, get_or, map, refl, sym, ap, ◌∙◌, subst, arith, inl, inr, Bool, true, false, take, Option, Some, None, Result, Ok, Err, IfOk, to_z, of_z}
use mir.Syntax.{w64}
use Rattle.std.proofs.lemmas.Int.{ints}
use Rattle.std.specs.Prelude.{All, slice_get}
use Rattle.std.specs.Option.{option_map}
use Rattle.std.proofs.Math.Seq.{map-set_same}
use Rattle.std.proofs.lemmas.Bool.{cases_eq}
use Rattle.std.proofs.lemmas.List.{length-map, map-append, take_more}
use Rattle.std.proofs.lemmas.List.Elements.{All-nil}
use Rattle.std.proofs.lemmas.Option.{get_or_from_slice_get, slice_get-map, slice_get_read, slice_get_within}
use Rattle.fh_base.specs.Numbering.{IsSlotOf, slot_number}
use Rattle.fh_base.specs.declared.values.Slot.{Slot}
use Rattle.window_config.specs.Limits.{IsBound, IsWithinLimits}
use Rattle.window_config.specs.Rings.{IsLive}
use Rattle.window_config.specs.declared.config.Config.{Config}
use Rattle.window_config.specs.declared.delays.Delays.{Delays}
use Rattle.window_config.specs.declared.endpoints.EndpointConfig.{EndpointConfig}
use Rattle.unit_model.specs.Claims.{claim_at}
use Rattle.unit_model.specs.Terms.{Side}
use Rattle.unit_model.specs.Proper.{IsAt}
use Rattle.unit_model.specs.declared.cells.Cell.{Cell}
use Rattle.unit_laws.specs.Far.{IsReached, IsReachedData}
use Rattle.unit_model.specs.Sides.{IsLiveOn, reach_of}
use Rattle.slot_rings.specs.Rings.{IsEmpty, RingValue, TouchesOnly}
use Rattle.unit_cells.specs.Cells.{AreRings, CellsValue, HoldsLive, block_from, cells_block, cells_claim, cells_reported, cells_has, cells_uplink, claim_from, reported_from, endpoint_in, endpoints_of, has_from, ring_of, uplink_from}
use Rattle.unit_cells.specs.Keeping.{Keeps}
use Rattle.unit_cells.specs.Told.{told_block_at}
use Rattle.unit_cells.specs.Steps.{InRing}
use Rattle.fh_base.proofs.Options.{some_is as some_equal}
use Rattle.ecpri_fragments.proofs.Numbers.{put_other as get_set_other, put_own as get_set_same}

pub at_within : (v : CellsValue) (ep : ℕ) (e : EndpointConfig) → IsAt (endpoints_of v) ep e → ep < length v.rings
at_within v ep e at = subst (λ (n : ℕ). ep < n) (length-map v.rings endpoint_in) (slice_get_within (endpoints_of v) ep e at)

abbrev pub rings_with : Side → Delays → List RingValue → CellsValue
rings_with side d rs = record { side = side; delays = d; rings = rs }

pub read_is : (side : Side) (d : Delays) (rs : List RingValue) (v : CellsValue) (ep : ℕ) (e : EndpointConfig) (before : RingValue)
    → rings_with side d rs ≡ v → IsAt (endpoints_of v) ep e → before ≡ get_or rs ep before → slice_get rs ep ≡ Some before
read_is side d rs v ep e before view at read =
    let within : ep < length rs = subst (λ (x : CellsValue). ep < length x.rings) (sym view) (at_within v ep e at) in
    slice_get_read rs (length rs) ep before refl within read

-- the ring that was read, where there is one
pub ring_there : (side : Side) (d : Delays) (rs : List RingValue) (v : CellsValue) (ep : ℕ) (read : RingValue) → rings_with side d rs ≡ v → ep < length (endpoints_of v)
    → read ≡ get_or rs ep read → ring_of v ep ≡ Some read
ring_there side d rs v ep read view below is =
    let rings : rs ≡ v.rings = ap (λ (x : CellsValue). x.rings) view in
    let within : ep < length v.rings = subst (λ (n : ℕ). ep < n) (length-map v.rings endpoint_in) below in
    slice_get_read v.rings (length v.rings) ep read refl within (subst (λ (xs : List RingValue). read ≡ get_or xs ep read) rings is)

pub ring_at : (v : CellsValue) (ep : ℕ) (r : RingValue) → ring_of v ep ≡ Some r → IsAt (endpoints_of v) ep r.endpoint
ring_at v ep r there = slice_get-map endpoint_in v.rings ep ∙ ap (option_map endpoint_in) there

pub in_ring : (step : RingValue → RingValue → Type 0) (side : Side) (d : Delays) (rs : List RingValue) (v : CellsValue) (ep : ℕ) (e : EndpointConfig) (before after : RingValue)
    → rings_with side d rs ≡ v → IsAt (endpoints_of v) ep e → before ≡ get_or rs ep before → step before after → InRing ep step v (rings_with side d (set rs ep after))
in_ring step side d rs v ep e before after view at read stepped = record {
  before = before;
  after = after;
  was = ap (λ (x : CellsValue). ring_of x ep) (sym view) ∙ read_is side d rs v ep e before view at read;
  rings = ap (λ (x : CellsValue). set x.rings ep after) view;
  side = ap (λ (x : CellsValue). x.side) view;
  delays = ap (λ (x : CellsValue). x.delays) view;
  stepped = stepped;
}

-- the endpoints stay
pub endpoints_still : (ep : ℕ) (step : RingValue → RingValue → Type 0) (old new : CellsValue) (m : InRing ep step old new) → m.after.endpoint ≡ m.before.endpoint
    → endpoints_of new ≡ endpoints_of old
endpoints_still ep step old new m same =
    ap (map endpoint_in) m.rings
    ∙ map-set_same endpoint_in old.rings ep m.after m.before (same ∙ ap endpoint_in (sym (get_or_from_slice_get old.rings ep m.before m.before m.was)))

holds_still : (side : Side) (d : Delays) (before after : RingValue) → after.endpoint ≡ before.endpoint → length after.places ≡ length before.places → HoldsLive side d before → HoldsLive side d after
holds_still side d before after endpoint size holds =
    subst (λ (e : EndpointConfig). (clock : ℤ) (a b : Slot) → IsSlotOf e.numerology a → IsSlotOf e.numerology b → IsLiveOn side d e clock a → IsLiveOn side d e clock b
    → slot_number e.numerology b <ℤ (slot_number e.numerology a +ℤ pos (length after.places))) (sym endpoint)
    (λ clock a b is_a is_b live_a live_b.
    subst (λ (n : ℕ). slot_number before.endpoint.numerology b <ℤ (slot_number before.endpoint.numerology a +ℤ pos n)) (sym size) (holds clock a b is_a is_b live_a live_b))

pub still_rings : (side : Side) (d : Delays) (rs : List RingValue) (v : CellsValue) (ep : ℕ) (e : EndpointConfig) (slot : Slot) (before after : RingValue)
    → rings_with side d rs ≡ v → IsAt (endpoints_of v) ep e → before ≡ get_or rs ep before → TouchesOnly slot before after → AreRings (rings_with side d rs)
    → AreRings (rings_with side d (set rs ep after))
still_rings side d rs v ep e slot before after view at read touches held =
    let was = read_is side d rs v ep e before view at read in
    record {
      limits = held.limits;
      wide = λ k r is. elim (cases_eq k ep) [
        | inl own ↦
            let now : slice_get (set rs ep after) ep ≡ Some after = get_set_same rs ep after (slice_get_within rs ep before was) in
            let same : after ≡ r = some_equal after r (sym now ∙ ap (slice_get (set rs ep after)) (sym own) ∙ is) in
            subst (λ (x : RingValue). HoldsLive side d x) same (holds_still side d before after touches.endpoint touches.size (held.wide ep before was))
        | inr other ↦ held.wide k r (sym (get_set_other rs ep k after other) ∙ is)
      ];
    }

-- ---- the ring of one endpoint that is made

pub wide_is : (side : Side) (d : Delays) (e : EndpointConfig) (r : RingValue) (slots : ℕ) → r.endpoint ≡ e → length r.places ≡ slots
    → ((clock : ℤ) (a b : Slot) → IsSlotOf e.numerology a → IsSlotOf e.numerology b → IsLiveOn side d e clock a → IsLiveOn side d e clock b
    → slot_number e.numerology b <ℤ (slot_number e.numerology a +ℤ pos slots))
    → HoldsLive side d r
wide_is side d e r slots endpoint size apart =
    subst (λ (x : EndpointConfig). (clock : ℤ) (a b : Slot) → IsSlotOf x.numerology a → IsSlotOf x.numerology b → IsLiveOn side d x clock a → IsLiveOn side d x clock b
    → slot_number x.numerology b <ℤ (slot_number x.numerology a +ℤ pos (length r.places))) (sym endpoint)
    (λ clock a b is_a is_b live_a live_b.
    subst (λ (n : ℕ). slot_number e.numerology b <ℤ (slot_number e.numerology a +ℤ pos n)) (sym size) (apart clock a b is_a is_b live_a live_b))

pub wide_ok : {E : Type 0} (side : Side) (d : Delays) (e : EndpointConfig) (slots : ℕ) (before after : ℤ) (result : Result RingValue E)
    → IfOk result (λ r. r.endpoint ≡ e) → IfOk result (λ r. length r.places ≡ slots) → before ≡ (reach_of side d).before → after ≡ (reach_of side d).after
    → ((clock : ℤ) (a b : Slot) → IsSlotOf e.numerology a → IsSlotOf e.numerology b → IsLive e.numerology before after clock a → IsLive e.numerology before after clock b
    → slot_number e.numerology b <ℤ (slot_number e.numerology a +ℤ pos slots))
    → IfOk result (λ r. HoldsLive side d r)
wide_ok side d e slots before after (Ok r) endpoint size before_is after_is apart =
    wide_is side d e r slots endpoint size (λ clock a b is_a is_b live_a live_b. apart clock a b is_a is_b (along clock a live_a) (along clock b live_b))
  where
    along : (clock : ℤ) (s : Slot) → IsLiveOn side d e clock s → IsLive e.numerology before after clock s
    along clock s live =
        subst (λ (x : ℤ). IsLive e.numerology x after clock s) (sym before_is)
        (subst (λ (x : ℤ). IsLive e.numerology (reach_of side d).before x clock s) (sym after_is) live)
wide_ok side d e slots before after (Err x) endpoint size before_is after_is apart = tt

-- a bound of a reach, passed by value
pub bound_passed : (x : ℤ) → IsBound x → to_z w64 (of_z w64 x) ≡ x
bound_passed x is = omega (arith, ints, is.low, is.high)

-- ---- all rings, as they are made

pub record IsFresh (side : Side) (d : Delays) (r : RingValue) : Type 0 where
  pub wide : HoldsLive side d r
  pub empty : IsEmpty r

fresh_at : (side : Side) (d : Delays) (rs : List RingValue) (k : ℕ) (r : RingValue) → All (IsFresh side d) rs → slice_get rs k ≡ Some r → IsFresh side d r
fresh_at side d rs k r all is = subst (IsFresh side d) (get_or_from_slice_get rs k r r is) (all k r (slice_get_within rs k r is))

pub fresh_rings : (side : Side) (d : Delays) (rs : List RingValue) → IsWithinLimits d → All (IsFresh side d) rs → AreRings (rings_with side d rs)
fresh_rings side d rs limits all = record { limits = limits; wide = λ k r is. (fresh_at side d rs k r all is).wide }

pub pushed_rings : (rs : List RingValue) (r : RingValue) (es : List EndpointConfig) (i : ℕ) (other : EndpointConfig) → map endpoint_in rs ≡ take i es
    → i < length es → r.endpoint ≡ get_or es i other → map endpoint_in (rs ++ r ∷ []) ≡ take (i + 1) es
pushed_rings rs r es i other so_far below endpoint =
    map-append endpoint_in rs (r ∷ [])
    ∙ ap (λ (xs : List EndpointConfig). xs ++ r.endpoint ∷ []) so_far
    ∙ ap (λ (x : EndpointConfig). take i es ++ x ∷ []) endpoint
    ∙ sym (take_more es i other below)

-- of each lookup: nothing is known
fresh_of : (side : Side) (d : Delays) (rs : List RingValue) (k : ℕ) (o : Option RingValue) → All (IsFresh side d) rs → slice_get rs k ≡ o → (P : Option RingValue → Type 0)
    → P None → ((r : RingValue) → IsEmpty r → P (Some r)) → P o
fresh_of side d rs k None all is P none some = none
fresh_of side d rs k (Some r) all is P none some = some r (fresh_at side d rs k r all is).empty

module _ (side : Side) (d : Delays) (rs : List RingValue) (all : All (IsFresh side d) rs) where
  pub fresh_claims : (cell : Cell) (re : ℕ) → cells_claim (rings_with side d rs) cell re ≡ None
  fresh_claims cell re = fresh_of side d rs cell.ep (slice_get rs cell.ep) all refl (λ o. claim_from o cell re ≡ None) refl (λ r is. is.claims cell re)

  pub fresh_blocks : (cell : Cell) → cells_block (rings_with side d rs) cell ≡ None
  fresh_blocks cell = fresh_of side d rs cell.ep (slice_get rs cell.ep) all refl (λ o. block_from o cell ≡ None) refl (λ r is. is.blocks cell)

  pub fresh_reported : (cell : Cell) → cells_reported (rings_with side d rs) cell ≡ false
  fresh_reported cell = fresh_of side d rs cell.ep (slice_get rs cell.ep) all refl (λ o. reported_from o cell ≡ false) refl (λ r is. is.reported cell)

  pub fresh_uplink : (ep : ℕ) (slot : Slot) → cells_uplink (rings_with side d rs) ep slot ≡ []
  fresh_uplink ep slot = fresh_of side d rs ep (slice_get rs ep) all refl (λ o. uplink_from o slot ≡ []) refl (λ r is. is.uplink slot)

  pub fresh_has : (ep : ℕ) (slot : Slot) → cells_has (rings_with side d rs) ep slot ≡ false
  fresh_has ep slot = fresh_of side d rs ep (slice_get rs ep) all refl (λ o. has_from o slot ≡ false) refl (λ r is. is.slots slot)

  pub fresh_keeps : (c : Config) (clock : ℤ) → Keeps side c clock (rings_with side d rs) [] []
  unfolding claim_at told_block_at
  fresh_keeps c clock = record {
    claims = λ e cell re is live below. fresh_claims cell re;
    blocks = λ e cell is down live. fresh_blocks cell;
    uplink = λ e ep slot at is live. fresh_uplink ep slot;
    reached = λ e ep slot at has. absurd (unequal (cells_has (rings_with side d rs) ep slot) (fresh_has ep slot) has);
    accepted = All-nil (IsReached c.endpoints (reach_of side c.delays) clock);
    timely = All-nil (IsReachedData c.endpoints (reach_of side c.delays) clock);
  }
    where
      unequal : (b : Bool) → b ≡ false → b ≡ true → ⊥
      unequal b p q = cc
