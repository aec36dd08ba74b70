-- What each proposed line is.
use Rattle.std.proofs.Common.{◌≡◌, ℕ, zero, suc, ◌+◌, ◌*◌, ◌<◌, ◌≤◌, Bool, true, false, if◌then◌else◌, List, [], ◌∷◌, ◌++◌, map, refl, sym, ap, subst, ◌∙◌, inl, inr, arith}
use Rattle.std.specs.Prelude.{nat_le, nat_lt}
use Rattle.std.specs.List.{flat_map}
use Rattle.std.proofs.lemmas.Bool.Decides.{nat_tests}
use Rattle.std.proofs.lemmas.List.{map-append}
use Rattle.fh_base.proofs.Order.{symbols_few}
use Rattle.fh_base.specs.Numbering.{slots_of, symbols_of}
use Rattle.fh_base.specs.declared.values.Slot.{Slot}
use Rattle.window_config.specs.declared.endpoints.EndpointConfig.{EndpointConfig}
use Rattle.window_config.specs.declared.plan.PlanLine.{PlanLine}
use Rattle.air_source.specs.declared.events.AirCell.{AirCell}
use Rattle.fh_base.specs.Lists.{each}
use Rattle.plan_model.specs.Validity.{is_out_of_range}
use Rattle.idle_spans.proofs.NumberLemmas.{symbol_proper}
use Rattle.idle_text.specs.Lines.{idle_line}
use Rattle.idle_text.specs.Free.{free_slot, free_slots, is_free, slot_at, slot_count}
use Rattle.idle_text.specs.Listed.{Run, listed_runs}
use Rattle.idle_text.proofs.SlotLemmas.{slots_differ}
use Rattle.idle_text.specs.Proposed.{proposed, proposed_at}
use Rattle.fh_base.specs.Members.{IsIn}
use Rattle.fh_base.proofs.MemberLemmas.{in_either}
use Rattle.fh_base.proofs.MadeLists.{of_each, of_map}
use Rattle.fh_base.proofs.Orders.{not_none}

-- an idle line for a free slot of an endpoint
pub record IsProposed (es : List EndpointConfig) (first last : ℕ) (cells : List AirCell) (min : ℕ) (lines : List PlanLine) (x : PlanLine) : Type 0 where
  pub e : EndpointConfig
  pub there : IsIn e es
  pub k : ℕ
  pub below : k < slot_count e.numerology first last
  pub free : is_free e first lines (listed_runs e first last cells min) k ≡ true
  pub is : x ≡ idle_line e (slot_at e.numerology first k)

slot_in : (e : EndpointConfig) (first : ℕ) (lines : List PlanLine) (runs : List Run) (k : ℕ) (s : Slot) → IsIn s (free_slot e first lines runs k)
    → (is_free e first lines runs k ≡ true) × (s ≡ slot_at e.numerology first k)
slot_in e first lines runs k s m = go (is_free e first lines runs k) refl m
  where
    go : (b : Bool) → is_free e first lines runs k ≡ b → IsIn s (if b then slot_at e.numerology first k ∷ [] else []) → (is_free e first lines runs k ≡ true) × (s ≡ slot_at e.numerology first k)
    go true is (inl same) = (is, same)
    go true is (inr none) = absurd none
    go false is none = absurd none

module _ (first last : ℕ) (cells : List AirCell) (min : ℕ) (lines : List PlanLine) where
  line_in : (e : EndpointConfig) (x : PlanLine) → IsIn x (proposed_at first last cells min lines e) → IsProposed (e ∷ []) first last cells min lines x
  line_in e x m =
      let runs = listed_runs e first last cells min in
      let w = of_map (idle_line e) x (free_slots e first last cells min lines) m in
      let o = of_each w.0 0 (slot_count e.numerology first last) (free_slot e first lines runs) w.1 in
      let s = slot_in e first lines runs o.0 w.0 o.3 in
      record { e = e; there = inl refl; k = o.0; below = (let below = o.2 in omega arith); free = s.0; is = w.2 ∙ ap (idle_line e) s.1 }

  among : (es fs : List EndpointConfig) → ((e : EndpointConfig) → IsIn e es → IsIn e fs) → (x : PlanLine) → IsProposed es first last cells min lines x → IsProposed fs first last cells min lines x
  among es fs all x p = record { e = p.e; there = all p.e p.there; k = p.k; below = p.below; free = p.free; is = p.is }

  pub proposed_is : (es : List EndpointConfig) (x : PlanLine) → IsIn x (proposed es first last cells min lines) → IsProposed es first last cells min lines x
  proposed_is [] x m = absurd m
  proposed_is (e ∷ es) x m = elim (in_either x (proposed_at first last cells min lines e) (flat_map (proposed_at first last cells min lines) es) m) [
    | inl l ↦ among (e ∷ []) (e ∷ es) (λ f n. elim n [ inl same ↦ inl same | inr none ↦ absurd none ]) x (line_in e x l)
    | inr r ↦ among es (e ∷ es) (λ f n. inr n) x (proposed_is es x r)
  ]

-- ---- in range

lt_false : (a b : ℕ) → b ≤ a → nat_lt a b ≡ false
lt_false a b h = grind (arith, nat_tests)

le_false : (a b : ℕ) → b < a → nat_le a b ≡ false
le_false a b h = grind (arith, nat_tests)

pub line_inside : (e : EndpointConfig) (first k : ℕ) → is_out_of_range e (idle_line e (slot_at e.numerology first k)) ≡ false
line_inside e first k =
    let n = e.numerology in
    let proper = symbol_proper n first (k * symbols_of n) in
    let slot = le_false (slots_of n) (slot_at n first k).slot proper.slot in
    let some = not_none (symbols_of n) (symbols_few n).0 in
    let within = lt_false (symbols_of n) (0 + symbols_of n) (omega arith) in
    rw (slot, some, within) refl

-- ---- no two of one endpoint and slot

abbrev pub AreApart : List PlanLine → Type 0
AreApart [] = Unit {0}
AreApart (x ∷ xs) = ((y : PlanLine) → IsIn y xs → x.id ≡ y.id → x.slot ≡ y.slot → ⊥) × AreApart xs

pub apart_append : (xs ys : List PlanLine) → AreApart xs → AreApart ys → ((x y : PlanLine) → IsIn x xs → IsIn y ys → x.id ≡ y.id → x.slot ≡ y.slot → ⊥) → AreApart (xs ++ ys)
apart_append [] ys a b cross = b
apart_append (x ∷ xs) ys a b cross = (
  λ y m. elim (in_either y xs ys m) [ inl l ↦ a.0 y l | inr r ↦ cross x y (inl refl) r ],
  apart_append xs ys a.1 b (λ v y m n. cross v y (inr m) n),
)

module _ (e : EndpointConfig) (first : ℕ) (lines : List PlanLine) (runs : List Run) where
  abbrev lines_from : ℕ → ℕ → List PlanLine
  lines_from from n = map (idle_line e) (each from n (free_slot e first lines runs))

  one_apart : (k : ℕ) → AreApart (map (idle_line e) (free_slot e first lines runs k))
  one_apart k = go (is_free e first lines runs k)
    where
      go : (b : Bool) → AreApart (map (idle_line e) (if b then slot_at e.numerology first k ∷ [] else []))
      go true = (λ y m. absurd m, tt)
      go false = tt

  slot_is : (from n : ℕ) (x : PlanLine) → IsIn x (lines_from from n) → (k : ℕ) × (from ≤ k) × (x.slot ≡ slot_at e.numerology first k)
  slot_is from n x m =
      let w = of_map (idle_line e) x (each from n (free_slot e first lines runs)) m in
      let o = of_each w.0 from n (free_slot e first lines runs) w.1 in
      (o.0, o.1, ap (λ (l : PlanLine). l.slot) w.2 ∙ (slot_in e first lines runs o.0 w.0 o.3).1)

  pub slots_apart : (n from : ℕ) → AreApart (lines_from from n)
  unfolding each
  slots_apart zero from = tt
  slots_apart (suc n) from =
      subst AreApart (sym (map-append (idle_line e) (free_slot e first lines runs from) (each (from + 1) n (free_slot e first lines runs))))
      (apart_append (map (idle_line e) (free_slot e first lines runs from)) (lines_from (from + 1) n) (one_apart from) (slots_apart n (from + 1))
      (λ x y m p ids same.
      let w = of_map (idle_line e) x (free_slot e first lines runs from) m in
      let now = ap (λ (l : PlanLine). l.slot) w.2 ∙ (slot_in e first lines runs from w.0 w.1).1 in
      let later = slot_is (from + 1) n y p in
      let equal : from ≡ later.0 = slots_differ e.numerology first from later.0 (sym now ∙ same ∙ later.2) in
      let above = later.1 in
      absurd (omega (arith, equal, above))))
