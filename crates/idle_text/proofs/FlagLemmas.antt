-- Flags of slots, set and cleared.
use Rattle.std.proofs.Common.{◌≡◌, ℕ, ◌+◌, ◌-◌, ◌*◌, ◌/◌, ◌%◌, ◌<◌, ◌≤◌, Bool, true, false, not, ◌&&◌, ◌||◌, List, [], ◌∷◌, ◌++◌, length, get_or, take, Some, refl, sym, ap, ap₂, ◌∙◌, arith, inl, inr, set}
use Rattle.std.specs.Prelude.{nat_le, nat_lt, slice_get}
use Rattle.std.specs.Cmp.{both_ways as same_truth}
use Rattle.std.specs.List.{list_any}
use Rattle.std.proofs.lemmas.Bool.{and_parts, cases_eq, eq-eqb, le-leb, leb-true}
use Rattle.std.proofs.lemmas.Bool.Decides.{nat_tests}
use Rattle.std.proofs.lemmas.List.{get_or-set_other, get_or-set_same, take_more}
use Rattle.std.proofs.lemmas.List.Folds.{list_any-append}
use Rattle.std.proofs.lemmas.Nat.{div-add-mod', div_below, le-div, mod_below, mul-le}
use Rattle.std.proofs.lemmas.Option.{get_or_from_slice_get}
use Rattle.window_config.specs.declared.endpoints.EndpointConfig.{EndpointConfig}
use Rattle.window_config.specs.declared.plan.PlanLine.{PlanLine}
use Rattle.fh_base.specs.declared.values.Slot.{Slot}
use Rattle.plan_model.specs.Lines.{is_down_kind}
use Rattle.unit_model.specs.Claims.{same_slot}
use Rattle.idle_text.specs.Free.{has_slot, is_of_slot}
use Rattle.fh_base.proofs.Orders.{or_false, nat_lt_true}

-- ---- the slots that lie in some symbols

pub from_first : (first s k : ℕ) → 1 ≤ s → (first + s - 1) / s ≤ k → first ≤ k * s
from_first first s k some low =
    let all : (first + s - 1) / s * s + (first + s - 1) % s ≡ first + s - 1 = div-add-mod' (first + s - 1) s in
    let rest : (first + s - 1) % s < s = mod_below (first + s - 1) s some in
    let product : (first + s - 1) / s * s ≤ k * s = mul-le ((first + s - 1) / s) s k s low (omega arith) in
    omega (arith, all, rest, product)

pub first_from : (first s k : ℕ) → 1 ≤ s → first ≤ k * s → (first + s - 1) / s ≤ k
first_from first s k some low =
    let more : (k + 1) * s ≡ k * s + s = omega arith in
    let below : (first + s - 1) / s < k + 1 = div_below (first + s - 1) s (k + 1) some (omega (arith, more)) in
    omega (arith, below)

pub to_last : (end s k : ℕ) → 1 ≤ s → k < end / s → (k + 1) * s ≤ end
to_last end s k some below =
    let all : end / s * s + end % s ≡ end = div-add-mod' end s in
    let product : (k + 1) * s ≤ end / s * s = mul-le (k + 1) s (end / s) s (omega arith) (omega arith) in
    omega (arith, all, product)

pub last_to : (end s k : ℕ) → 1 ≤ s → (k + 1) * s ≤ end → k < end / s
last_to end s k some within =
    let least : k + 1 ≤ end / s = le-div (k + 1) end s some within in
    omega (arith, least)

under : (k at : ℕ) → nat_lt k at ≡ true → k < at
under k at e = grind (arith, nat_tests)

not_less : (k at : ℕ) → at ≤ k → nat_lt k at ≡ false
not_less k at h = grind (arith, nat_tests)

-- slot k is one of those from a to b, as far as a loop has reached
abbrev pub is_set : ℕ → ℕ → ℕ → ℕ → Bool
is_set a b at k = nat_le a k && (nat_lt k at && nat_lt k b)

-- what a loop over them has set
pub all_set : (first len s k at : ℕ) → 1 ≤ s → (first + len) / s ≤ at
    → is_set ((first + s - 1) / s) ((first + len) / s) at k ≡ has_slot s k (record { first = first; len = len })
all_set first len s k at some past =
    same_truth _ _
    (λ e.
    let both = and_parts (nat_le ((first + s - 1) / s) k) _ e in
    let low : (first + s - 1) / s ≤ k = leb-true _ _ both.0 in
    let end : k < (first + len) / s = under k ((first + len) / s) (and_parts (nat_lt k at) _ both.1).1 in
    let a = le-leb first (k * s) (from_first first s k some low) in
    let b = le-leb ((k + 1) * s) (first + len) (to_last (first + len) s k some end) in
    rw (a, b) refl)
    (λ e.
    let both = and_parts (nat_le first (k * s)) (nat_le ((k + 1) * s) (first + len)) e in
    let low : (first + s - 1) / s ≤ k = first_from first s k some (leb-true _ _ both.0) in
    let end : k < (first + len) / s = last_to (first + len) s k some (leb-true _ _ both.1) in
    let a = le-leb ((first + s - 1) / s) k low in
    let b : nat_lt k at ≡ true = nat_lt_true k at (omega (arith, end, past)) in
    let c : nat_lt k ((first + len) / s) ≡ true = nat_lt_true k ((first + len) / s) end in
    rw (a, b, c) refl)

or_true : (b t : Bool) → t ≡ true → true ≡ (b || t)
or_true true t e = refl
or_true false t e = sym e

-- one more was set
pub one_set : (a b at k : ℕ) (flags : List Bool) (old : Bool) → a ≤ at → at < b → at < length flags → get_or flags k false ≡ (old || is_set a b at k)
    → get_or (set flags at true) k false ≡ (old || is_set a b (at + 1) k)
one_set a b at k flags old low high inside before = elim (cases_eq k at) [
  | inl same ↦
      let here : get_or (set flags at true) at false ≡ true = get_or-set_same flags at true false inside in
      let x = le-leb a k (omega (arith, low, same)) in
      let y = nat_lt_true k (at + 1) (omega (arith, same)) in
      let z = nat_lt_true k b (omega (arith, same, high)) in
      let all : is_set a b (at + 1) k ≡ true = rw (x, y, z) refl in
      ap (λ (j : ℕ). get_or (set flags at true) j false) same ∙ here ∙ or_true old (is_set a b (at + 1) k) all
  | inr other ↦
      get_or-set_other flags at k true false other ∙ before
      ∙ ap (λ (t : Bool). old || (nat_le a k && (t && nat_lt k b)))
      (same_truth (nat_lt k at) (nat_lt k (at + 1))
      (λ e. nat_lt_true k (at + 1) (let h = under k at e in omega (arith, h)))
      (λ e. nat_lt_true k at (let h = under k (at + 1) e in omega (arith, h, other))))
]

-- ---- the slots that lines touch

-- a line of the endpoint that is for the downlink is of the slot that it says
pub of_slot_known : (e : EndpointConfig) (slot : Slot) (line : PlanLine) (same : Bool) → line.id ≡ e.id → is_down_kind line.kind ≡ true → same_slot line.slot slot ≡ same → is_of_slot e slot line ≡ same
of_slot_known e slot line same id down is =
    ap₂ (λ (a b : Bool). a && (b && same_slot line.slot slot)) (eq-eqb line.id e.id id) down ∙ is

neither : (a b c : Bool) → ((a && not b) && not c) ≡ (a && not (b || c))
neither true true c = refl
neither true false c = refl
neither false b c = refl

-- the flag of a slot, once one line more was looked at
pub one_cleared : (test : PlanLine → Bool) (lines : List PlanLine) (i : ℕ) (line : PlanLine) (old middle new index : Bool) → i < length lines → slice_get lines i ≡ Some line
    → middle ≡ (old && not (list_any test (take i lines))) → new ≡ (middle && not index) → test line ≡ index
    → new ≡ (old && not (list_any test (take (i + 1) lines)))
one_cleared test lines i line old middle new index below is before now same =
    now
    ∙ ap₂ (λ (m x : Bool). m && not x) before (sym same)
    ∙ neither old (list_any test (take i lines)) (test line)
    ∙ ap (λ (x : Bool). old && not (list_any test (take i lines) || x)) (sym (or_false (test line)))
    ∙ ap (λ (x : Bool). old && not x)
    (sym (list_any-append test (take i lines) (line ∷ []))
    ∙ ap (λ (l : PlanLine). list_any test (take i lines ++ l ∷ [])) (sym (get_or_from_slice_get lines i line line is))
    ∙ ap (list_any test) (sym (take_more lines i line below)))
