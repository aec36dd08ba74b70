-- What a place answers, by its lists.
use Rattle.std.proofs.Common.{◌≡◌, ℕ, ◌+◌, ◌*◌, ◌<◌, ◌⊎◌, inl, inr, Bool, true, false, not, ◌&&◌, ◌==◌, if◌then◌else◌, List, length, get_or, reverse, refl, ap, sym, ◌∙◌, Option, Some, None}
use Rattle.std.proofs.lemmas.Bool.{eq-eqb, cases_Bool}
use Rattle.std.proofs.lemmas.List.{length-reverse}
use Rattle.fh_base.specs.declared.values.Slot.{Slot}
use Rattle.fh_base.specs.Carrier.{is_outside}
use Rattle.unit_model.specs.Claims.{same_slot, same_way, first_prb, prb_count, cell_of, in_mask, is_from, names, claim_of}
use Rattle.unit_model.specs.Commands.{is_uplink}
use Rattle.unit_model.specs.declared.allocations.Allocation.{Allocation}
use Rattle.unit_model.specs.declared.cells.Cell.{Cell}
use Rattle.unit_model.specs.declared.cells.Claim.{Claim}
use Rattle.unit_model.specs.declared.verdicts.CommandVerdict.TheVariants.{Accepted}
use Rattle.slot_rings.specs.Places.{PlaceValue, claim_in, claims_in, no_claims, is_place_of, claims_of, claims_seen, place_claim, place_uplink}
use Rattle.slot_rings.specs.Verdicts.{overlaps_by, verdict_by, claim_after}
use Rattle.slot_rings.specs.declared.claims.CellClaims.{CellClaims}
use Rattle.slot_rings.proofs.MaskLemmas.{in_none}
use Rattle.slot_rings.proofs.JudgeLemmas.{repeats_same, overlaps_same}
use Rattle.unit_model.specs.declared.uplink.TheConstants.{SLOT_SECTIONS}
use Rattle.unit_model.proofs.ClaimLemmas.{same_slot_is as slot_is, way_self as way_own, slot_self as slot_own}

-- ---- slots

pub of_is : (o : Option Slot) (t : Slot) → is_place_of o t ≡ true → o ≡ Some t
of_is None t is = cc
of_is (Some s) t is = ap Some (slot_is s t is)

pub of_own : (t : Slot) → is_place_of (Some t) t ≡ true
of_own t = slot_own t

-- ---- claims

pub no_claim : (re : ℕ) → claim_in no_claims re ≡ None
no_claim re = let e = in_none re in rw e refl

pub seen : (prbs : ℕ) (p : PlaceValue) (cell : Cell) (re : ℕ) → place_claim prbs p cell re ≡ claims_in prbs (claims_seen p cell.slot cell.down) cell re
seen prbs p cell re = elim (cases_Bool (is_place_of p.slot cell.slot)) [
  | inl own ↦ rw own refl
  | inr other ↦ rw other (sym (no_claim re))
]

pub verdict_same : (f g : Cell → ℕ → Option Claim) (u : ℕ) (a : Allocation) → ((y n re : ℕ) → f (cell_of a y n) re ≡ g (cell_of a y n) re) → verdict_by f u a ≡ verdict_by g u a
verdict_same f g u a same = let r = repeats_same f g a same in let o = overlaps_same f g a same in rw (r, o) refl

pub judged : (prbs : ℕ) (p : PlaceValue) (a : Allocation) (ms : List CellClaims) (us : List Allocation) → ms ≡ claims_seen p a.slot a.down → reverse us ≡ place_uplink p a.slot
    → verdict_by (claims_in prbs ms) (length us) a ≡ verdict_by (place_claim prbs p) (length (place_uplink p a.slot)) a
judged prbs p a ms us ms_is us_is =
    let count : length us ≡ length (place_uplink p a.slot) = sym (length-reverse us) ∙ ap (λ (l : List Allocation). length l) us_is in
    ap (λ (n : ℕ). verdict_by (claims_in prbs ms) n a) count
    ∙ ap (λ (l : List CellClaims). verdict_by (claims_in prbs l) (length (place_uplink p a.slot)) a) ms_is
    ∙ verdict_same (claims_in prbs (claims_seen p a.slot a.down)) (place_claim prbs p) (length (place_uplink p a.slot)) a (λ y n re. sym (seen prbs p (cell_of a y n) re))

-- what is known of an accepted allocation
pub record IsFree (claims : Cell → ℕ → Option Claim) (uplinks : ℕ) (a : Allocation) : Type 0 where
  pub inside : is_outside a.endpoint.prbs a.start_prb a.num_prb ≡ false
  pub free : overlaps_by claims a ≡ false
  pub few : is_uplink a ≡ true → uplinks < SLOT_SECTIONS

pub free_seen : (prbs : ℕ) (p : PlaceValue) (a : Allocation) (ms : List CellClaims) → is_place_of p.slot a.slot ≡ true → claims_of p a.down ≡ ms
    → overlaps_by (place_claim prbs p) a ≡ false → overlaps_by (claims_in prbs ms) a ≡ false
free_seen prbs p a ms own ms_is free =
    let there : claims_seen p a.slot a.down ≡ ms = rw own ms_is in
    ap (λ (l : List CellClaims). overlaps_by (claims_in prbs l) a) (sym there)
    ∙ overlaps_same (claims_in prbs (claims_seen p a.slot a.down)) (place_claim prbs p) a (λ y n re. sym (seen prbs p (cell_of a y n) re)) ∙ free

-- ---- a further allocation

abbrev Chosen : Bool → Option Claim → Option Claim → Option Claim
Chosen b x y = if b then x else y

abbrev was_reported : ℕ → List CellClaims → Cell → ℕ → Option Claim
was_reported prbs ms cell re = claim_in (get_or ms (cell.symbol * prbs + cell.prb) no_claims) re

own_claim : (prbs : ℕ) (p : PlaceValue) (cell : Cell) (re : ℕ) → is_place_of p.slot cell.slot ≡ true → place_claim prbs p cell re ≡ was_reported prbs (claims_of p cell.down) cell re
own_claim prbs p cell re own = rw own refl

way_other : (b : Bool) → same_way b (not b) ≡ false
way_other true = refl
way_other false = refl

ways : (d e : Bool) → (e ≡ d) ⊎ (e ≡ not d)
ways true true = inl refl
ways true false = inr refl
ways false true = inr refl
ways false false = inl refl

module _ (a : Allocation) (cell : Cell) (re : ℕ) (ep : cell.ep ≡ a.ep) (at : cell.slot ≡ a.slot) where
  ep_own : (a.ep == cell.ep) ≡ true
  ep_own = eq-eqb a.ep cell.ep (sym ep)

  slot_there : same_slot a.slot cell.slot ≡ true
  slot_there = ap (λ (s : Slot). same_slot a.slot s) at ∙ slot_own a.slot

  names_same : cell.down ≡ a.down
      → names a cell re ≡ ((is_from a.symbol a.num_symbol cell.symbol && is_from (first_prb a) (prb_count a) cell.prb) && in_mask a.mask re)
  names_same way =
      let w : same_way a.down cell.down ≡ true = ap (λ b. same_way a.down b) way ∙ way_own a.down in
      rw (ep_own, w, slot_there) refl

  names_other : cell.down ≡ not a.down → names a cell re ≡ false
  names_other way =
      let w : same_way a.down cell.down ≡ false = ap (λ b. same_way a.down b) way ∙ way_other a.down in
      rw (ep_own, w) refl

pub placed : (prbs : ℕ) (p q : PlaceValue) (a : Allocation) (old new : List CellClaims) → is_place_of p.slot a.slot ≡ true → q.slot ≡ p.slot
    → claims_of p a.down ≡ old → claims_of q a.down ≡ new → claims_of q (not a.down) ≡ claims_of p (not a.down)
    → ((symbol prb re : ℕ) → prb < prbs → re < 12 → claim_in (get_or new (symbol * prbs + prb) no_claims) re
    ≡ Chosen ((is_from a.symbol a.num_symbol symbol && is_from (first_prb a) (prb_count a) prb) && in_mask a.mask re) (Some (claim_of a)) (claim_in (get_or old (symbol * prbs + prb) no_claims) re))
    → (cell : Cell) (re : ℕ) → cell.ep ≡ a.ep → cell.slot ≡ a.slot → cell.prb < prbs → re < 12
    → place_claim prbs q cell re ≡ claim_after Accepted a cell re (place_claim prbs p cell re)
placed prbs p q a old new own slot p_is q_is other each cell re ep at below under =
    let p_own : is_place_of p.slot cell.slot ≡ true = ap (λ (s : Slot). is_place_of p.slot s) at ∙ own in
    let q_own : is_place_of q.slot cell.slot ≡ true = ap (λ (o : Option Slot). is_place_of o cell.slot) slot ∙ p_own in
    let p_claim = own_claim prbs p cell re p_own in
    let q_claim = own_claim prbs q cell re q_own in
    elim (ways a.down cell.down) [
      | inl way ↦
          let n = names_same a cell re ep at way in
          let p_there : claims_of p cell.down ≡ old = ap (λ b. claims_of p b) way ∙ p_is in
          let q_there : claims_of q cell.down ≡ new = ap (λ b. claims_of q b) way ∙ q_is in
          q_claim ∙ ap (λ (l : List CellClaims). was_reported prbs l cell re) q_there ∙ each cell.symbol cell.prb re below under
          ∙ ap (λ b. Chosen b (Some (claim_of a)) (was_reported prbs old cell re)) (sym n)
          ∙ ap (λ (o : Option Claim). Chosen (names a cell re) (Some (claim_of a)) o) (sym (p_claim ∙ ap (λ (l : List CellClaims). was_reported prbs l cell re) p_there))
      | inr way ↦
          let n = names_other a cell re ep at way in
          let same : claims_of q cell.down ≡ claims_of p cell.down = ap (λ b. claims_of q b) way ∙ other ∙ ap (λ b. claims_of p b) (sym way) in
          q_claim ∙ ap (λ (l : List CellClaims). was_reported prbs l cell re) same ∙ sym p_claim
          ∙ ap (λ b. Chosen b (Some (claim_of a)) (place_claim prbs p cell re)) (sym n)
    ]
