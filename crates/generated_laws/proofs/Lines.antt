-- The lines of a generated plan: none is refused, and no two are of one endpoint and slot.
use Rattle.std.proofs.Common.{◌≡◌, ℕ, zero, suc, ◌+◌, ◌/◌, ◌%◌, ◌<◌, ◌⊎◌, inl, inr, Bool, true, false, ◌&&◌, ◌||◌, ◌==◌, nat_le, if◌then◌else◌, List, [], ◌∷◌, Option, Some, None, refl, ap, sym, ◌∙◌, arith}
use Rattle.std.specs.List.{AllByRecursion, list_any}
use Rattle.std.proofs.lemmas.Bool.{and_parts, cases_Bool, eqb-true}
use Rattle.std.proofs.lemmas.Bool.Decides.{nat_tests}
use Rattle.fh_base.specs.declared.values.Slot.{Slot}
use Rattle.fh_base.proofs.Orders.{pos_same, and_false_3}
use Rattle.window_config.specs.declared.plan.PlanLine.{PlanLine}
use Rattle.unit_model.specs.Claims.{same_slot, same_way}
use Rattle.unit_model.specs.Commands.{is_full, is_uplink, uplink_in}
use Rattle.unit_model.specs.declared.allocations.Allocation.{Allocation}
use Rattle.unit_model.specs.declared.uplink.TheConstants.{SLOT_SECTIONS}
use Rattle.unit_model.proofs.ClaimLemmas.{same_slot_is}
use Rattle.plan_model.specs.Lines.{line_allocation, planned_at, planned_from}
use Rattle.plan_model.specs.Streams.{has_part}
use Rattle.plan_model.specs.Validity.{clash, is_out_of_range, refused_at, refused_from, share_cell, why_claimed, why_found, with_line}
use Rattle.plan_model.specs.declared.lines.PlannedLine.{PlannedLine}
use Rattle.plan_model.specs.declared.refusals.PlanWhy.{PlanWhy}
use Rattle.plan_model.specs.declared.refusals.PlanWhy.TheVariants.{Overlap, Range, TooManySections}
use Rattle.plan_model.specs.declared.streams.Stream.{Stream}
use Rattle.generated_laws.specs.Plans.{endpoint, four, line_of, lines_from, slot_of}
use Rattle.generated_laws.specs.Sparse.{AreAlone}
use Rattle.generated_laws.proofs.Sparse.{named}
use Rattle.fh_base.specs.Members.{IsIn}

-- the line of the slot n at the endpoint e, as the k-th
abbrev pub placed : ℕ → ℕ → ℕ → PlannedLine
placed k n e = record { index = k; ep = e; endpoint = endpoint e; line = line_of n e }

unfoldable pub placed_from : ℕ → ℕ → ℕ → List PlannedLine
placed_from k n zero = []
placed_from k n (suc count) =
    placed k n 0 ∷ placed (k + 1) n 1 ∷ placed (k + 1 + 1) n 2 ∷ placed (k + 1 + 1 + 1) n 3 ∷ placed_from (k + 1 + 1 + 1 + 1) (n + 1) count

pub planned_is : (k n count : ℕ) → planned_from four k (lines_from n count) ≡ placed_from k n count
unfolding planned_from lines_from placed_from
planned_is k n zero = refl
planned_is k n (suc count) =
    ap (λ (ps : List PlannedLine). placed k n 0 ∷ placed (k + 1) n 1 ∷ placed (k + 1 + 1) n 2 ∷ placed (k + 1 + 1 + 1) n 3 ∷ ps) (planned_is (k + 1 + 1 + 1 + 1) (n + 1) count)

-- ---- slots

number_is : (m n : ℕ) → 1 + m / 20 ≡ 1 + n / 20 → m / 2 % 10 ≡ n / 2 % 10 → m % 2 ≡ n % 2 → m ≡ n
number_is m n a b c = omega (arith, a, b, c)

pub slots_differ : (m n : ℕ) → m < n → slot_of m ≡ slot_of n → ⊥
slots_differ m n lt same =
    let e = number_is m n (pos_same (1 + m / 20) (1 + n / 20) (ap (λ (s : Slot). s.frame) same)) (ap (λ (s : Slot). s.subframe) same) (ap (λ (s : Slot). s.slot) same) in
    omega (arith, lt, e)

-- ---- none is refused

pub none_any : {X : Type 0} (p : X → Bool) (xs : List X) → ((x : X) → IsIn x xs → p x ≡ false) → list_any p xs ≡ false
none_any p [] h = refl
none_any p (x ∷ xs) h = ap (λ (b : Bool). b || list_any p xs) (h x (inl refl)) ∙ none_any p xs (λ y i. h y (inr i))

no_clash : (a b : Allocation) → (a.ep ≡ b.ep → a.slot ≡ b.slot → ⊥) → clash a b ≡ false
no_clash a b h = elim (cases_Bool (clash a b)) [
  | inr other ↦ other
  | inl is ↦
      let cell = (and_parts (share_cell a b) _ is).0 in
      let ep = and_parts (a.ep == b.ep) _ cell in
      let way = and_parts (same_way a.down b.down) _ ep.1 in
      let slot = and_parts (same_slot a.slot b.slot) _ way.1 in
      absurd (h (eqb-true a.ep b.ep ep.0) (same_slot_is a.slot b.slot slot.0))
]

abbrev counts : ℕ → Slot → Allocation → Bool
counts ep slot b = is_uplink b && ((b.ep == ep) && same_slot b.slot slot)

none_up : (ep : ℕ) (slot : Slot) (earlier : List Allocation) → ((b : Allocation) → IsIn b earlier → b.ep ≡ ep → b.slot ≡ slot → ⊥) → uplink_in ep slot earlier ≡ 0
none_up ep slot [] h = refl
none_up ep slot (b ∷ earlier) h =
    ap (λ n. n + (if counts ep slot b then 1 else 0)) (none_up ep slot earlier (λ x m. h x (inr m)))
    ∙ ap (λ (t : Bool). let n : ℕ = 0 + (if t then 1 else 0) in n) (other (cases_Bool (counts ep slot b)))
  where
    other : (counts ep slot b ≡ true) ⊎ (counts ep slot b ≡ false) → counts ep slot b ≡ false
    other (inr e) = e
    other (inl e) =
        let p = and_parts (b.ep == ep) (same_slot b.slot slot) (and_parts (is_uplink b) _ e).1 in
        absurd (h b (inl refl) (eqb-true b.ep ep p.0) (same_slot_is b.slot slot p.1))

-- a line of an endpoint and slot of which no line is
pub fresh : (earlier : List Allocation) (a : Allocation) → ((b : Allocation) → IsIn b earlier → a.ep ≡ b.ep → a.slot ≡ b.slot → ⊥) → why_claimed earlier a ≡ None
fresh earlier a h =
    ap (λ (b : Bool). let w : Option PlanWhy = if b then Some Overlap else (if is_full earlier a then Some TooManySections else None) in w)
    (none_any (clash a) earlier (λ b m. no_clash a b (h b m)))
    ∙ ap (λ (b : Bool). let w : Option PlanWhy = if b then Some TooManySections else None in w)
    (ap (λ n. is_uplink a && nat_le SLOT_SECTIONS n) (none_up a.ep a.slot earlier (λ b m e s. h b m (sym e) (sym s))) ∙ and_false_3 (is_uplink a))

few_slots : (x : ℕ) → x < 2 → nat_le 2 x ≡ false
few_slots x h = grind (arith, nat_tests)

in_range : (n e : ℕ) → is_out_of_range (endpoint e) (line_of n e) ≡ false
in_range n e = ap (λ (b : Bool). b || false) (few_slots (n % 2) (omega arith))

found : (k n e : ℕ) → e < 4 → planned_at four k (line_of n e) ≡ Some (placed k n e)
found k n zero h = refl
found k n (suc zero) h = refl
found k n (suc (suc zero)) h = refl
found k n (suc (suc (suc zero))) h = refl
found k n (suc (suc (suc (suc e)))) h = absurd (omega (arith, h))

-- the lines before that of the slot n at the endpoint e
abbrev IsBefore : ℕ → ℕ → Allocation → Type 0
IsBefore n e b = ((m : ℕ) × (m < n) × (b.slot ≡ slot_of m)) ⊎ ((b.slot ≡ slot_of n) × (b.ep < e))

differs : (k n e : ℕ) (b : Allocation) → IsBefore n e b → e ≡ b.ep → slot_of n ≡ b.slot → ⊥
differs k n e b (inl w) same slot = slots_differ w.0 n w.1 (sym w.2 ∙ sym slot)
differs k n e b (inr w) same slot = (let lt = w.1 in omega (arith, lt, same))

abbrev allocated : ℕ → ℕ → ℕ → Allocation
allocated k n e = line_allocation (placed k n e)

step : (earlier : List Allocation) (k n e : ℕ) (rest : List PlanLine) → e < 4 → ((b : Allocation) → IsIn b earlier → IsBefore n e b)
    → refused_from four earlier k (line_of n e ∷ rest) ≡ refused_from four (allocated k n e ∷ earlier) (k + 1) rest
unfolding refused_from
step earlier k n e rest few before =
    ap (λ (p : Option PlannedLine). refused_at k (why_found earlier p) (refused_from four (with_line p earlier) (k + 1) rest)) (found k n e few)
    ∙ ap (λ (w : Option PlanWhy). refused_at k w (refused_from four (allocated k n e ∷ earlier) (k + 1) rest))
    (ap (λ (b : Bool). let w : Option PlanWhy = if b then Some Range else why_claimed earlier (allocated k n e) in w) (in_range n e)
    ∙ fresh earlier (allocated k n e) (λ b m same slot. differs k n e b (before b m) same slot))

one_more : (earlier : List Allocation) (k n e : ℕ) → ((b : Allocation) → IsIn b earlier → IsBefore n e b) → (b : Allocation) → IsIn b (allocated k n e ∷ earlier) → IsBefore n (e + 1) b
one_more earlier k n e before b (inl here) = inr (ap (λ (a : Allocation). a.slot) here, (let ep = ap (λ (a : Allocation). a.ep) here in omega (arith, ep)))
one_more earlier k n e before b (inr there) = elim (before b there) [
  | inl w ↦ inl w
  | inr w ↦ inr (w.0, (let lt = w.1 in omega (arith, lt)))
]

next_slot : (n : ℕ) (b : Allocation) → IsBefore n 4 b → IsBefore (n + 1) 0 b
next_slot n b (inl w) = inl (w.0, (let lt = w.1 in omega (arith, lt)), w.2)
next_slot n b (inr w) = inl (n, omega arith, w.0)

pub none_refused : (earlier : List Allocation) (k n count : ℕ) → ((b : Allocation) → IsIn b earlier → IsBefore n 0 b) → refused_from four earlier k (lines_from n count) ≡ None
unfolding refused_from lines_from
none_refused earlier k n zero before = refl
none_refused earlier k n (suc count) before =
    let a0 = allocated k n 0 in
    let a1 = allocated (k + 1) n 1 in
    let a2 = allocated (k + 1 + 1) n 2 in
    let a3 = allocated (k + 1 + 1 + 1) n 3 in
    let rest = lines_from (n + 1) count in
    let b1 = one_more earlier k n 0 before in
    let b2 = one_more (a0 ∷ earlier) (k + 1) n 1 b1 in
    let b3 = one_more (a1 ∷ a0 ∷ earlier) (k + 1 + 1) n 2 b2 in
    let b4 = one_more (a2 ∷ a1 ∷ a0 ∷ earlier) (k + 1 + 1 + 1) n 3 b3 in
    step earlier k n 0 (line_of n 1 ∷ line_of n 2 ∷ line_of n 3 ∷ rest) (omega arith) before
    ∙ step (a0 ∷ earlier) (k + 1) n 1 (line_of n 2 ∷ line_of n 3 ∷ rest) (omega arith) b1
    ∙ step (a1 ∷ a0 ∷ earlier) (k + 1 + 1) n 2 (line_of n 3 ∷ rest) (omega arith) b2
    ∙ step (a2 ∷ a1 ∷ a0 ∷ earlier) (k + 1 + 1 + 1) n 3 rest (omega arith) b3
    ∙ none_refused (a3 ∷ a2 ∷ a1 ∷ a0 ∷ earlier) (k + 1 + 1 + 1 + 1) (n + 1) count (λ b m. next_slot n b (b4 b m))

-- ---- no two are of one endpoint and slot

abbrev pub NotBoth : Stream → PlannedLine → PlannedLine → Type 0
NotBoth stream p q =
    (ep : ℕ) (slot : Slot) (symbol : ℕ) → has_part stream ep slot symbol (line_allocation p) ≡ true → has_part stream ep slot symbol (line_allocation q) ≡ true → ⊥

pub not_both : (stream : Stream) (p q : PlannedLine) → (p.ep ≡ q.ep → p.line.slot ≡ q.line.slot → ⊥) → NotBoth stream p q
not_both stream p q h ep slot symbol a b =
    let x = named stream ep slot symbol (line_allocation p) a in
    let y = named stream ep slot symbol (line_allocation q) b in
    h (x.0 ∙ sym y.0) (x.1 ∙ sym y.1)

other_slot : (stream : Stream) (j k m n e f : ℕ) → m < n → NotBoth stream (placed j m e) (placed k n f)
other_slot stream j k m n e f lt = not_both stream (placed j m e) (placed k n f) (λ ep slot. slots_differ m n lt slot)

other_endpoint : (stream : Stream) (j k n e f : ℕ) → e < f → NotBoth stream (placed j n e) (placed k n f)
other_endpoint stream j k n e f lt = not_both stream (placed j n e) (placed k n f) (λ ep slot. omega (arith, lt, ep))

all_other : (stream : Stream) (j m e k n count : ℕ) → m < n → AllByRecursion (NotBoth stream (placed j m e)) (placed_from k n count)
unfolding placed_from
all_other stream j m e k n zero lt = tt
all_other stream j m e k n (suc count) lt = (
  other_slot stream j k m n e 0 lt,
  (
    other_slot stream j (k + 1) m n e 1 lt,
    (
      other_slot stream j (k + 1 + 1) m n e 2 lt,
      (other_slot stream j (k + 1 + 1 + 1) m n e 3 lt, all_other stream j m e (k + 1 + 1 + 1 + 1) (n + 1) count (omega (arith, lt))),
    ),
  ),
)

pub all_alone : (stream : Stream) (k n count : ℕ) → AreAlone stream (placed_from k n count)
unfolding placed_from
all_alone stream k n zero = tt
all_alone stream k n (suc count) =
    let later = λ (j e : ℕ). all_other stream j n e (k + 1 + 1 + 1 + 1) (n + 1) count (omega arith) in (
      (other_endpoint stream k (k + 1) n 0 1 (omega arith), (other_endpoint stream k (k + 1 + 1) n 0 2 (omega arith), (other_endpoint stream k (k + 1 + 1 + 1) n 0 3 (omega arith), later k 0))),
      (
        (other_endpoint stream (k + 1) (k + 1 + 1) n 1 2 (omega arith), (other_endpoint stream (k + 1) (k + 1 + 1 + 1) n 1 3 (omega arith), later (k + 1) 1)),
        (
          (other_endpoint stream (k + 1 + 1) (k + 1 + 1 + 1) n 2 3 (omega arith), later (k + 1 + 1) 2),
          (later (k + 1 + 1 + 1) 3, all_alone stream (k + 1 + 1 + 1 + 1) (n + 1) count),
        ),
      ),
    )

-- all are at endpoints of the one numerology
pub numerology_is : (k n count : ℕ) (p : PlannedLine) → IsIn p (placed_from k n count) → p.endpoint.numerology ≡ (endpoint 0).numerology
unfolding placed_from
numerology_is k n zero p m = absurd m
numerology_is k n (suc count) p (inl here) = ap (λ (q : PlannedLine). q.endpoint.numerology) here
numerology_is k n (suc count) p (inr (inl here)) = ap (λ (q : PlannedLine). q.endpoint.numerology) here
numerology_is k n (suc count) p (inr (inr (inl here))) = ap (λ (q : PlannedLine). q.endpoint.numerology) here
numerology_is k n (suc count) p (inr (inr (inr (inl here)))) = ap (λ (q : PlannedLine). q.endpoint.numerology) here
numerology_is k n (suc count) p (inr (inr (inr (inr there)))) = numerology_is (k + 1 + 1 + 1 + 1) (n + 1) count p there
