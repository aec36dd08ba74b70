-- The ticks from which on the places may have cells to report, as a ring changes.
use Rattle.std.proofs.Common.{◌≡◌, ◌≢◌, ℕ, ℤ, ◌<◌, ◌≤◌, ◌≤ℤ◌, inl, inr, Bool, true, false, not, ◌&&◌, List, pos, length, get_or, set, refl, ap, sym, ◌∙◌, subst, arith, length-set, get_or-set_same, get_or-set_other, Some}
use Rattle.std.proofs.lemmas.Bool.{and_parts, cases_Bool, cases_eq, cases_lt}
use Rattle.std.proofs.lemmas.List.{get_or_read}
use Rattle.fh_base.specs.Air.{air_of}
use Rattle.fh_base.specs.Numbering.{symbols_of}
use Rattle.fh_base.specs.declared.values.Slot.{Slot}
use Rattle.fh_base.specs.declared.values.Ticks.{Ticks}
use Rattle.fh_base.proofs.Orders.{both_ways as unequal, at_most}
use Rattle.unit_model.specs.Claims.{is_from}
use Rattle.unit_model.specs.declared.allocations.Allocation.{Allocation}
use Rattle.slot_rings.specs.Pending.{IsFlagged, due_in, flag_at}
use Rattle.slot_rings.specs.Places.{IsOpened, PlaceValue, blank, is_place_of}
use Rattle.slot_rings.specs.Rings.{IsRing, RingValue, has_slot, place_index, place_of}
use Rattle.slot_rings.specs.Starts.{HaveStarts, IsDueFrom, IsLeast, StartsFrom, ring_due, start_at}
use Rattle.slot_rings.proofs.PendingLemmas.{due_elsewhere, due_wiped, due_has}
use Rattle.slot_rings.proofs.PlaceLemmas.{of_is}
use Rattle.slot_rings.proofs.RingLemmas.{index_within, put, symbols_are}
use Rattle.std.proofs.lemmas.Int.{ints}
use Rattle.fh_base.specs.declared.symbols.TheConstants.{SLOT_SYMBOLS}
use Rattle.fh_base.proofs.Options.{some_is}

-- a place with a tick that is not before the earlier one of its own and another
pub least_lowered : (xs : List Ticks) (i : ℕ) (own new : Ticks) (least start next : ℤ) → i < length xs → own ≡ get_or xs i own → IsLeast xs least
    → next ≤ℤ least → next ≤ℤ start → ((t : ℤ) → t ≤ℤ own.0 → t ≤ℤ start → t ≤ℤ new.0) → IsLeast (set xs i new) next
least_lowered xs i own new least start next within read is low soon latest j below = elim (cases_eq j i) [
  | inl e ↦
      let none : Ticks = record { 0 = pos 0 } in
      let there : own ≡ get_or xs i none = get_or_read xs i own within read none in
      let first : least ≤ℤ own.0 = subst (λ (x : Ticks). least ≤ℤ x.0) (sym there) (is i within) in
      let now : get_or (set xs i new) j none ≡ new = ap (λ (k : ℕ). get_or (set xs i new) k none) e ∙ get_or-set_same xs i new none within in
      subst (λ (x : Ticks). next ≤ℤ x.0) (sym now) (latest next (at_most next least own.0 low first) soon)
  | inr ne ↦
      let none : Ticks = record { 0 = pos 0 } in
      let here = is j (omega (arith, below, length-set xs i new)) in
      subst (λ (x : Ticks). next ≤ℤ x.0) (sym (get_or-set_other xs i j new none ne)) (at_most next least (start_at xs j) low here)
]

-- another place, and other ticks
pub starts_put : (r : RingValue) (old new : List Ticks) (i : ℕ) (p q : PlaceValue) → HaveStarts r old → i < length r.places → p ≡ get_or r.places i p
    → length new ≡ length old → ((j : ℕ) → start_at new j ≤ℤ start_at old j)
    → (StartsFrom r p (start_at old i) → StartsFrom r q (start_at new i)) → HaveStarts (put r i q) new
starts_put r old new i p q starts within read size lower changed = record {
  size = size ∙ starts.size ∙ sym (length-set r.places i q);
  each = λ j below. elim (cases_eq j i) [
    | inl e ↦
        let was : StartsFrom r p (start_at old i) = subst (λ (x : PlaceValue). StartsFrom r x (start_at old i)) (sym (get_or_read r.places i p within read blank)) (starts.each i within) in
        subst (λ (k : ℕ). StartsFrom r (get_or (set r.places i q) k blank) (start_at new k)) (sym e)
        (subst (λ (x : PlaceValue). StartsFrom r x (start_at new i)) (sym (get_or-set_same r.places i q blank within)) (changed was))
    | inr ne ↦
        subst (λ (x : PlaceValue). StartsFrom r x (start_at new j)) (sym (get_or-set_other r.places i j q blank ne))
        (λ s slot is few due. at_most (start_at new j) (start_at old j) (air_of r.endpoint.numerology slot s) (lower j)
        (starts.each j (omega (arith, below, length-set r.places i q)) s slot is few due))
  ];
}

int_le_own : (a : ℤ) → a ≤ℤ a
int_le_own a = grind (arith, ints)

-- another place, in which no symbol is due that was not
pub starts_kept : (r : RingValue) (starts : List Ticks) (i : ℕ) (p q : PlaceValue) → HaveStarts r starts → i < length r.places → p ≡ get_or r.places i p
    → q.slot ≡ p.slot → ((s : ℕ) → due_in r.endpoint.prbs p s ≡ false → due_in r.endpoint.prbs q s ≡ false) → HaveStarts (put r i q) starts
starts_kept r starts i p q have within read slot quiet =
    starts_put r starts starts i p q have within read refl (λ j. int_le_own (start_at starts j)) (λ was s x is few due. elim (cases_Bool (due_in r.endpoint.prbs p s)) [
      | inl on ↦ was s x (sym slot ∙ is) few on
      | inr off ↦ absurd (unequal (due_in r.endpoint.prbs q s) due (quiet s off))
    ])

-- a place that a slot is given
pub starts_opened : (r : RingValue) (starts : List Ticks) (i : ℕ) (p q : PlaceValue) (slot : Slot) → HaveStarts r starts → i < length r.places → p ≡ get_or r.places i p
    → IsOpened slot p q → HaveStarts (put r i q) starts
starts_opened r starts i p q slot have within read is = elim (cases_Bool (is_place_of p.slot slot)) [
  | inl own ↦
      starts_kept r starts i p q have within read (ap (λ (x : PlaceValue). x.slot) (is.own own)) (λ s off. ap (λ (x : PlaceValue). due_in r.endpoint.prbs x s) (is.own own) ∙ off)
  | inr other ↦
      starts_put r starts starts i p q have within read refl (λ j. int_le_own (start_at starts j))
      (λ was s x is_x few due. absurd (unequal (due_in r.endpoint.prbs q s) due (due_wiped r.endpoint.prbs s q (is.other other).down)))
]

-- a place in which an allocation claims cells
pub starts_claimed : (r : RingValue) (old new : List Ticks) (i : ℕ) (p q : PlaceValue) (a : Allocation) → HaveStarts r old → i < length r.places → p ≡ get_or r.places i p
    → length new ≡ length old → ((j : ℕ) → start_at new j ≤ℤ start_at old j) → q.slot ≡ p.slot → is_place_of p.slot a.slot ≡ true
    → ((s : ℕ) → a.down ≡ true → a.idle ≡ false → is_from a.symbol a.num_symbol s ≡ true → s < symbols_of r.endpoint.numerology
    → start_at new i ≤ℤ air_of r.endpoint.numerology a.slot s)
    → ((s : ℕ) → (a.down ≡ true → a.idle ≡ false → is_from a.symbol a.num_symbol s ≡ true → ⊥) → due_in r.endpoint.prbs p s ≡ false → due_in r.endpoint.prbs q s ≡ false)
    → HaveStarts (put r i q) new
starts_claimed r old new i p q a have within read size lower slot own here quiet =
    starts_put r old new i p q have within read size lower (λ was s x is few due. elim (cases_Bool (due_in r.endpoint.prbs p s)) [
      | inl on ↦ at_most (start_at new i) (start_at old i) (air_of r.endpoint.numerology x s) (lower i) (was s x (sym slot ∙ is) few on)
      | inr off ↦
          let x_is : a.slot ≡ x = some_is a.slot x (sym (of_is p.slot a.slot own) ∙ sym slot ∙ is) in
          elim (cases_Bool (a.down && (not a.idle && is_from a.symbol a.num_symbol s))) [
            | inl claims ↦
                let first = and_parts _ _ claims in
                let rest = and_parts _ _ first.1 in
                subst (λ (y : Slot). start_at new i ≤ℤ air_of r.endpoint.numerology y s) x_is (here s first.0 (not_true a.idle rest.0) rest.1 few)
            | inr none ↦ absurd (unequal (due_in r.endpoint.prbs q s) due (quiet s (λ down radiates from. no_claim a.down a.idle (is_from a.symbol a.num_symbol s) down radiates from none) off))
          ]
    ])
  where
    not_true : (b : Bool) → not b ≡ true → b ≡ false
    not_true true e = cc
    not_true false e = refl

    no_claim : (d i f : Bool) → d ≡ true → i ≡ false → f ≡ true → (d && (not i && f)) ≡ false → ⊥
    no_claim true false true x y z e = cc
    no_claim false i f x y z e = cc
    no_claim true true f x y z e = cc
    no_claim true false false x y z e = cc

-- a place whose tick is found anew
pub starts_anew : (r : RingValue) (old new : List Ticks) (i : ℕ) (t : ℤ) → HaveStarts r old → length new ≡ length old → start_at new i ≡ t
    → ((j : ℕ) → j ≢ i → start_at new j ≡ start_at old j) → StartsFrom r (get_or r.places i blank) t → HaveStarts r new
starts_anew r old new i t have size here others from = record {
  size = size ∙ have.size;
  each = λ j below. elim (cases_eq j i) [
    | inl e ↦
        subst (λ (k : ℕ). StartsFrom r (get_or r.places k blank) (start_at new k)) (sym e)
        (subst (StartsFrom r (get_or r.places i blank)) (sym here) from)
    | inr ne ↦ subst (StartsFrom r (get_or r.places j blank)) (sym (others j ne)) (have.each j below)
  ];
}

-- by the first symbol that is flagged
pub first_starts : (r : RingValue) (flags : List (List Bool)) (i first : ℕ) (t : ℤ) → IsFlagged r flags
    → ((s : ℕ) → s < first → s < SLOT_SYMBOLS → flag_at flags i s ≡ false)
    → ((slot : Slot) (s : ℕ) → (get_or r.places i blank).slot ≡ Some slot → s < symbols_of r.endpoint.numerology → first ≤ s → t ≤ℤ air_of r.endpoint.numerology slot s)
    → StartsFrom r (get_or r.places i blank) t
first_starts r flags i first t flagged none from s slot is few due = elim (cases_lt s first) [
  | inl before ↦ absurd (unequal (due_in r.endpoint.prbs (get_or r.places i blank) s) due
      (flagged.quiet i s (none s before (omega (arith, symbols_are r.endpoint.numerology, few)))))
  | inr past ↦ from slot s is few (omega (arith, past))
]

-- ---- what a ring answers

due_at : (r : RingValue) (starts : List Ticks) (slot : Slot) (s ep : ℕ) → IsRing r → HaveStarts r starts → s < symbols_of r.endpoint.numerology → ring_due r ep slot s ≡ true
    → start_at starts (place_index r slot) ≤ℤ air_of r.endpoint.numerology slot s
due_at r starts slot s ep ring have few due = elim (cases_Bool (has_slot r slot)) [
  | inl has ↦
      have.each (place_index r slot) (index_within r slot ring.some) s slot (of_is (place_of r slot).slot slot has) few (sym (due_has r ep slot s has) ∙ due)
  | inr other ↦ absurd (unequal (ring_due r ep slot s) due (due_elsewhere r ep slot s other))
]

pub due_from_least : (r v : RingValue) (starts : List Ticks) (t : Ticks) → r ≡ v → IsRing r → HaveStarts r starts → IsLeast starts t.0
    → IsDueFrom v (λ slot. Unit {0}) (Some t)
due_from_least r v starts t same ring have least = subst (λ (x : RingValue). IsDueFrom x (λ slot. Unit {0}) (Some t)) same
    (λ slot s ep any few due. at_most t.0 (start_at starts (place_index r slot)) (air_of r.endpoint.numerology slot s)
    (least (place_index r slot) (omega (arith, index_within r slot ring.some, have.size))) (due_at r starts slot s ep ring have few due))

pub due_from_at : (r v : RingValue) (starts : List Ticks) (i : ℕ) (t : Ticks) → r ≡ v → IsRing r → HaveStarts r starts → t.0 ≡ start_at starts i
    → IsDueFrom v (λ slot. place_index v slot ≡ i) (Some t)
due_from_at r v starts i t same ring have is = subst (λ (x : RingValue). IsDueFrom x (λ slot. place_index x slot ≡ i) (Some t)) same
    (λ slot s ep at few due. subst (λ (x : ℤ). x ≤ℤ air_of r.endpoint.numerology slot s) (ap (start_at starts) at ∙ sym is) (due_at r starts slot s ep ring have few due))
