-- The symbols of a slot, by their numbers.
use Rattle.std.proofs.Common.{◌≡◌, ℕ, pos, ◌+◌, ◌*◌, ◌/◌, ◌%◌, ◌<◌, Bool, true, false, ◌&&◌, ◌==◌, refl, sym, ap, ap₂, ◌∙◌, arith}
use Rattle.std.specs.Cmp.{both_ways as same_truth}
use Rattle.std.specs.Ordering.{int_eq}
use Rattle.std.proofs.lemmas.Bool.{and_parts, eqb-true, eq-eqb}
use Rattle.std.proofs.lemmas.Int.{ints}
use Rattle.std.proofs.lemmas.Nat.{div-add-mod', div-mul-add, mod-mul-add, mod_below, mul-add-lt}
use Rattle.fh_base.proofs.Order.{slots_few, symbols_few}
use Rattle.fh_base.specs.Numbering.{slots_of, symbols_of}
use Rattle.fh_base.specs.declared.numerology.Numerology.{Numerology}
use Rattle.fh_base.specs.declared.values.Slot.{Slot}
use Rattle.unit_model.specs.Claims.{same_slot}
use Rattle.idle_spans.specs.Silence.{same_symbol}
use Rattle.idle_spans.specs.Symbols.{symbol_at}
use Rattle.idle_spans.specs.declared.places.Place.{Place}
use Rattle.idle_spans.proofs.NumberLemmas.{frame_is}
use Rattle.idle_text.specs.Free.{slot_at}
use Rattle.idle_spans.proofs.SameLemmas.{same_own}

-- ---- a symbol of a slot

-- symbol y of slot k, in frames of t slots of s symbols
parted : (k t s y : ℕ) → k * s + y ≡ k / t * (t * s) + (k % t * s + y)
parted k t s y =
    ap (λ (x : ℕ). x * s + y) (sym (div-add-mod' k t)) ∙ spread (k / t) t (k % t) s y
  where
    spread : (q t r s y : ℕ) → (q * t + r) * s + y ≡ q * (t * s) + (r * s + y)
    spread q t r s y = omega arith

rest_below : (k t s y : ℕ) → 0 < t → y < s → k % t * s + y < t * s
rest_below k t s y some below =
    let here : k % t * s + y < s * t = mul-add-lt (k % t) s y t (mod_below k t some) below in
    omega (arith, here)

digits : (k t s y : ℕ) → 0 < t → y < s
    → ((k * s + y) / (t * s) ≡ k / t) × ((k * s + y) % (t * s) / s ≡ k % t) × ((k * s + y) % (t * s) % s ≡ y)
digits k t s y some below =
    let rest : (k * s + y) % (t * s) ≡ k % t * s + y =
    ap (λ (x : ℕ). x % (t * s)) (parted k t s y) ∙ mod-mul-add (k / t) (t * s) (k % t * s + y) (rest_below k t s y some below) in (
      ap (λ (x : ℕ). x / (t * s)) (parted k t s y) ∙ div-mul-add (k / t) (t * s) (k % t * s + y) (rest_below k t s y some below),
      ap (λ (x : ℕ). x / s) rest ∙ div-mul-add (k % t) s y below,
      ap (λ (x : ℕ). x % s) rest ∙ mod-mul-add (k % t) s y below,
    )

abbrev place_of : Numerology → ℕ → ℕ → ℕ → Place
place_of n first k y = record {
  slot = record { frame = pos (first + k / (10 * slots_of n)); subframe = k % (10 * slots_of n) / slots_of n; slot = k % (10 * slots_of n) % slots_of n };
  symbol = y;
}

slots_some : (n : Numerology) → 0 < 10 * slots_of n
slots_some n = let few = (slots_few n).0 in omega (arith, few)

-- the symbol with this number, by its slot
pub symbol_of_slot : (n : Numerology) (first k y : ℕ) → y < symbols_of n → symbol_at n first (k * symbols_of n + y) ≡ place_of n first k y
unfolding symbol_at
symbol_of_slot n first k y below =
    let d = digits k (10 * slots_of n) (symbols_of n) y (slots_some n) below in
    rw (frame_is n, d.0, d.1, d.2) refl

-- the first symbol of a slot
pub first_of_slot : (n : Numerology) (first k : ℕ) → symbol_at n first (k * symbols_of n) ≡ place_of n first k 0
first_of_slot n first k =
    let same : k * symbols_of n ≡ k * symbols_of n + 0 = omega arith in
    ap (symbol_at n first) same ∙ symbol_of_slot n first k 0 (symbols_few n).0

-- every symbol of a slot is of it
pub in_slot : (n : Numerology) (first k y : ℕ) → y < symbols_of n → symbol_at n first (k * symbols_of n + y) ≡ record { slot = slot_at n first k; symbol = y }
in_slot n first k y below =
    symbol_of_slot n first k y below
    ∙ ap (λ (p : Place). let q : Place = record { slot = p.slot; symbol = y } in q) (sym (first_of_slot n first k))

same_frames : (first a b : ℕ) → pos (first + a) ≡ pos (first + b) → a ≡ b
same_frames first a b e = omega (arith, ints)

same_numbers : (t s j k : ℕ) → j / t ≡ k / t → j % t / s ≡ k % t / s → j % t % s ≡ k % t % s → j ≡ k
same_numbers t s j k a b c =
    let inner : j % t ≡ k % t = sym (div-add-mod' (j % t) s) ∙ ap₂ (λ (x y : ℕ). x * s + y) b c ∙ div-add-mod' (k % t) s in
    sym (div-add-mod' j t) ∙ ap₂ (λ (x y : ℕ). x * t + y) a inner ∙ div-add-mod' k t

-- two numbers of slots are of two slots
pub slots_differ : (n : Numerology) (first j k : ℕ) → slot_at n first j ≡ slot_at n first k → j ≡ k
slots_differ n first j k same =
    let t = 10 * slots_of n in
    let slots : (place_of n first j 0).slot ≡ (place_of n first k 0).slot =
    ap (λ (p : Place). p.slot) (sym (first_of_slot n first j)) ∙ same ∙ ap (λ (p : Place). p.slot) (first_of_slot n first k) in
    same_numbers t (slots_of n) j k (same_frames first (j / t) (k / t) (ap (λ (s : Slot). s.frame) slots)) (ap (λ (s : Slot). s.subframe) slots) (ap (λ (s : Slot). s.slot) slots)

-- ---- the number of a symbol

-- a test of a symbol against itself
pub own_index : (n : Numerology) (first k : ℕ) (p : Place) (b : Bool) → p ≡ symbol_at n first k → same_symbol p.slot p.symbol (symbol_at n first k) ≡ b → b ≡ true
own_index n first k p b is told = sym told ∙ ap (λ (q : Place). same_symbol p.slot p.symbol q) (sym is) ∙ same_own p

-- ---- the number of a slot

and_true : (b : Bool) → (b && true) ≡ b
and_true true = refl
and_true false = refl

-- the slot of the first symbol is tested
pub slot_tested : (n : Numerology) (first k : ℕ) (s : Slot) → same_symbol s 0 (symbol_at n first (k * symbols_of n)) ≡ same_slot s (slot_at n first k)
slot_tested n first k s =
    ap (λ (y : ℕ). int_eq s.frame (slot_at n first k).frame && ((s.subframe == (slot_at n first k).subframe) && ((s.slot == (slot_at n first k).slot) && (0 == y))))
    (ap (λ (p : Place). p.symbol) (first_of_slot n first k))
    ∙ ap (λ (b : Bool). int_eq s.frame (slot_at n first k).frame && ((s.subframe == (slot_at n first k).subframe) && b)) (and_true (s.slot == (slot_at n first k).slot))

last_part : (a b c d : Bool) → (a && (b && (c && d))) ≡ true → d ≡ true
last_part a b c d e = (and_parts c d (and_parts b _ (and_parts a _ e).1).1).1

-- a number with a symbol 0 is that of a slot's first symbol
whole_slots : (n : Numerology) (first i : ℕ) (s : Slot) → same_symbol s 0 (symbol_at n first i) ≡ true → i / symbols_of n * symbols_of n ≡ i
whole_slots n first i s e =
    let zero_is : 0 ≡ (symbol_at n first i).symbol = eqb-true 0 (symbol_at n first i).symbol (last_part (int_eq s.frame (symbol_at n first i).slot.frame) (s.subframe == (symbol_at n first i).slot.subframe) (s.slot == (symbol_at n first i).slot.slot) (0 == (symbol_at n first i).symbol) e) in
    let split : i / symbols_of n * symbols_of n + i % symbols_of n ≡ i = div-add-mod' i (symbols_of n) in
    let here : (symbol_at n first i).symbol ≡ i % symbols_of n =
    ap (λ (x : ℕ). (symbol_at n first x).symbol) (sym split)
    ∙ ap (λ (p : Place). p.symbol) (symbol_of_slot n first (i / symbols_of n) (i % symbols_of n) (mod_below i (symbols_of n) (symbols_few n).0)) in
    omega (arith, split, zero_is, here)

same_quotient : (i k s : ℕ) → 0 < s → i / s * s ≡ i → (i == k * s) ≡ (i / s == k)
same_quotient i k s some whole =
    same_truth (i == k * s) (i / s == k)
    (λ e. eq-eqb (i / s) k (ap (λ (x : ℕ). x / s) (eqb-true i (k * s) e ∙ plus k s) ∙ div-mul-add k s 0 some))
    (λ e. eq-eqb i (k * s) (sym whole ∙ ap (λ (x : ℕ). x * s) (eqb-true (i / s) k e)))
  where
    plus : (k s : ℕ) → k * s ≡ k * s + 0
    plus k s = omega arith

-- the slot of a symbol 0 that was found at a number
pub slot_found : (n : Numerology) (first i k : ℕ) (s : Slot) → same_symbol s 0 (symbol_at n first i) ≡ (i == i) → same_symbol s 0 (symbol_at n first (k * symbols_of n)) ≡ (i == k * symbols_of n)
    → same_slot s (slot_at n first k) ≡ (i / symbols_of n == k)
slot_found n first i k s here there =
    sym (slot_tested n first k s) ∙ there ∙ same_quotient i k (symbols_of n) (symbols_few n).0 (whole_slots n first i s (here ∙ eq-eqb i i refl))
