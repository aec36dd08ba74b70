-- A ring whose places keep nothing.
use Rattle.std.proofs.Common.{◌≡◌, ℕ, zero, suc, ◌<◌, ◌≤◌, Bool, List, [], length, get_or, replicate, refl, ap, sym, ◌∙◌, arith, Some, None}
use Rattle.std.proofs.lemmas.List.{get_or-replicate, length-replicate}
use Rattle.std.proofs.lemmas.List.Elements.{All-replicate}
use Rattle.std.proofs.lemmas.List.Folds.{sum_by-replicate}
use Rattle.fh_base.specs.declared.carrier.TheConstants.{CARRIER_PRBS}
use Rattle.fh_base.specs.declared.values.Slot.{Slot}
use Rattle.fh_base.specs.declared.values.Ticks.{Ticks}
use Rattle.unit_model.specs.declared.uplink.TheConstants.{SLOT_SECTIONS}
use Rattle.slot_rings.specs.Counts.{HasSections, uplink_sections_in}
use Rattle.slot_rings.specs.Pending.{IsFlagged}
use Rattle.slot_rings.specs.Places.{PlaceValue, blank, empty_place, no_claims}
use Rattle.slot_rings.specs.Rings.{IsEmpty, IsRing, RingValue, place_index}
use Rattle.slot_rings.specs.Starts.{HaveStarts}
use Rattle.slot_rings.specs.declared.claims.CellClaims.{CellClaims}
use Rattle.slot_rings.proofs.PendingLemmas.{due_wiped}

no_slot : (s : Slot) → None ≡ Some s → ⊥
no_slot s e = cc

-- all places of the ring are as those that were just made
abbrev AreFresh : ℕ → RingValue → Type 0
AreFresh n r = r.places ≡ replicate n (empty_place None r.endpoint.prbs)

slot_at : (n prbs i : ℕ) → (get_or (replicate n (empty_place None prbs)) i blank).slot ≡ None
slot_at zero prbs i = refl
slot_at (suc n) prbs zero = refl
slot_at (suc n) prbs (suc i) = slot_at n prbs i

down_at : (n prbs i : ℕ) → (get_or (replicate n (empty_place None prbs)) i blank).down ≡ []
down_at zero prbs i = refl
down_at (suc n) prbs zero = refl
down_at (suc n) prbs (suc i) = down_at n prbs i

slot_none : (r : RingValue) (n : ℕ) → AreFresh n r → (i : ℕ) → (get_or r.places i blank).slot ≡ None
slot_none r n fresh i = ap (λ (ps : List PlaceValue). (get_or ps i blank).slot) fresh ∙ slot_at n r.endpoint.prbs i

pub fresh_size : (r : RingValue) (n : ℕ) → AreFresh n r → length r.places ≡ n
fresh_size r n fresh = ap length fresh ∙ length-replicate n (empty_place None r.endpoint.prbs)

pub fresh_ring : (r : RingValue) (n : ℕ) → AreFresh n r → 1 ≤ n → n < 1024 → 1 ≤ r.endpoint.prbs → r.endpoint.prbs ≤ CARRIER_PRBS → IsRing r
fresh_ring r n fresh one few prbs_some prbs_few = record {
  some = omega (arith, fresh_size r n fresh, one);
  few = omega (arith, fresh_size r n fresh, few);
  prbs_some = prbs_some;
  prbs_few = prbs_few;
  widths = λ i below.
      ap (λ (ps : List PlaceValue). (get_or ps i blank).prbs) fresh
      ∙ ap (λ (p : PlaceValue). p.prbs) (get_or-replicate n i (empty_place None r.endpoint.prbs) blank (omega (arith, below, fresh_size r n fresh)));
  homes = λ i s below is. absurd (no_slot s (sym (slot_none r n fresh i) ∙ is));
}

pub fresh_flags : (r : RingValue) (n : ℕ) (flags : List (List Bool)) → AreFresh n r → length flags ≡ n → IsFlagged r flags
fresh_flags r n flags fresh size = record {
  size = size ∙ sym (fresh_size r n fresh);
  quiet = λ i s off. due_wiped r.endpoint.prbs s (get_or r.places i blank) (λ k.
      ap (λ (ps : List PlaceValue). get_or (get_or ps i blank).down k no_claims) fresh ∙ ap (λ (l : List CellClaims). get_or l k no_claims) (down_at n r.endpoint.prbs i));
}

pub fresh_sections : (r : RingValue) (n : ℕ) → AreFresh n r → HasSections r 0
fresh_sections r n fresh = rw fresh (record {
  few = All-replicate (λ p. uplink_sections_in p ≤ SLOT_SECTIONS) n (empty_place None r.endpoint.prbs) (omega arith);
  number = sym (sum_by-replicate uplink_sections_in n (empty_place None r.endpoint.prbs) ∙ omega arith);
})

pub fresh_starts : (r : RingValue) (n : ℕ) (starts : List Ticks) → AreFresh n r → length starts ≡ n → HaveStarts r starts
fresh_starts r n starts fresh size = record {
  size = size ∙ sym (fresh_size r n fresh);
  each = λ i below s slot is. absurd (no_slot slot (sym (slot_none r n fresh i) ∙ is));
}

pub fresh_empty : (r : RingValue) (n : ℕ) → AreFresh n r → IsEmpty r
fresh_empty r n fresh = record {
  claims = λ cell re. rw (slot_none r n fresh (place_index r cell.slot)) refl;
  blocks = λ cell. rw (slot_none r n fresh (place_index r cell.slot)) refl;
  reported = λ cell. rw (slot_none r n fresh (place_index r cell.slot)) refl;
  uplink = λ slot. rw (slot_none r n fresh (place_index r slot)) refl;
  slots = λ slot. rw (slot_none r n fresh (place_index r slot)) refl;
}
