-- Symbols by their numbers.
use Rattle.std.proofs.Common.{◌≡◌, ℕ, ℤ, pos, ◌+◌, ◌-◌, ◌*◌, ◌/◌, ◌%◌, ◌^◌, ◌<◌, ◌≤◌, ◌⊎◌, inl, inr, ◌↔◌, min, Bool, true, false, IsTrue, refl, sym, ap, subst, ◌∙◌, arith, rules, to_z}
use mir.Syntax.{w64}
use Rattle.std.proofs.lemmas.Bool.{cases_order}
use Rattle.std.proofs.lemmas.Int.{ints}
use Rattle.std.proofs.lemmas.Nat.{mul-le, mul-add-lt, div-mul-add, mod-mul-add, div-add-mod', div_below, mod_below}
use Rattle.std.proofs.Math.Nat.{div-le_self}
use Rattle.fh_base.proofs.Order.{slots_few, symbols_few}
use Rattle.fh_base.specs.declared.numerology.Numerology.{Numerology}
use Rattle.fh_base.specs.Numbering.{slots_of, symbols_of}
use Rattle.idle_spans.specs.declared.places.Place.{Place}
use Rattle.idle_spans.specs.Symbols.{frame_symbols, symbol_at, number_in_frame}
use Rattle.idle_spans.specs.Places.{IsSymbol}
use Rattle.fh_base.specs.declared.symbols.TheConstants.{SLOT_SYMBOLS}

-- ---- how many symbols a frame has

pub frame_is : (n : Numerology) → frame_symbols n ≡ 10 * slots_of n * symbols_of n
unfolding frame_symbols
frame_is n = refl

frame_bounds : (s y : ℕ) → 0 < s → s ≤ 16 → 0 < y → y ≤ SLOT_SYMBOLS → (0 < 10 * s * y) × (10 * s * y ≤ 2240)
frame_bounds s y s_some s_few y_some y_few =
    let low : 1 * 1 ≤ 10 * s * y = mul-le 1 1 (10 * s) y (omega arith) y_some in
    let high : 10 * s * y ≤ 160 * SLOT_SYMBOLS = mul-le (10 * s) y 160 SLOT_SYMBOLS (omega arith) y_few in
    (omega (arith, low), omega (arith, high))

pub frame_few : (n : Numerology) → (0 < frame_symbols n) × (frame_symbols n ≤ 2240)
frame_few n =
    let s = slots_few n in
    let y = symbols_few n in
    let b = frame_bounds (slots_of n) (symbols_of n) s.0 s.1 y.0 y.1 in
    rw (frame_is n) b

-- ---- the number of a symbol in its frame

-- three digits are below their product
digits_below : (a s y b c : ℕ) → a < 10 → b < s → c < y → (a * s + b) * y + c < 10 * s * y
digits_below a s y b c a_few b_few c_few =
    let outer : a * s + b < s * 10 = mul-add-lt a s b 10 a_few b_few in
    let outer_turned : a * s + b < 10 * s = omega (arith, outer) in
    let all : (a * s + b) * y + c < y * (10 * s) = mul-add-lt (a * s + b) y c (10 * s) outer_turned c_few in
    rw (turned y (10 * s)) at all
  where
    turned : (p q : ℕ) → p * q ≡ q * p
    turned p q = omega arith

pub number_below : (n : Numerology) (p : Place) → IsSymbol n p → number_in_frame n p < frame_symbols n
number_below n p is =
    rw (frame_is n) (digits_below p.slot.subframe (slots_of n) (symbols_of n) p.slot.slot p.symbol is.subframe is.slot is.symbol)

-- the digits of a number are those of which it was made
digits_are : (a s y b c r : ℕ) → b < s → c < y → r ≡ (a * s + b) * y + c → (r / y / s ≡ a) × (r / y % s ≡ b) × (r % y ≡ c)
digits_are a s y b c r b_few c_few is =
    let outer : r / y ≡ a * s + b = ap (λ (x : ℕ). x / y) is ∙ div-mul-add (a * s + b) y c c_few in (
      ap (λ (x : ℕ). x / s) outer ∙ div-mul-add a s b b_few,
      ap (λ (x : ℕ). x % s) outer ∙ mod-mul-add a s b b_few,
      ap (λ (x : ℕ). x % y) is ∙ mod-mul-add (a * s + b) y c c_few,
    )

digits_make : (s y r : ℕ) → (r / y / s * s + r / y % s) * y + r % y ≡ r
digits_make s y r = ap (λ (x : ℕ). x * y + r % y) (div-add-mod' (r / y) s) ∙ div-add-mod' r y

abbrev pub place_at : ℤ → ℕ → ℕ → ℕ → Place
place_at f a b c = record { slot = record { frame = f; subframe = a; slot = b }; symbol = c }

-- ---- the symbol with a number

-- its number in its frame
pub number_at : (n : Numerology) (first k : ℕ) → number_in_frame n (symbol_at n first k) ≡ k % frame_symbols n
unfolding symbol_at
number_at n first k = digits_make (slots_of n) (symbols_of n) (k % frame_symbols n)

pub frame_at : (n : Numerology) (first k : ℕ) → (symbol_at n first k).slot.frame ≡ pos (first + k / frame_symbols n)
unfolding symbol_at
frame_at n first k = refl

-- a proper symbol is the one with its number
pub symbol_is : (n : Numerology) (first f k : ℕ) (p : Place) → IsSymbol n p → p.slot.frame ≡ pos (first + f) → k ≡ f * frame_symbols n + number_in_frame n p
    → symbol_at n first k ≡ p
unfolding symbol_at
symbol_is n first f k p is frame k_is =
    let below = number_below n p is in
    let quotient : k / frame_symbols n ≡ f = ap (λ (x : ℕ). x / frame_symbols n) k_is ∙ div-mul-add f (frame_symbols n) (number_in_frame n p) below in
    let rest : k % frame_symbols n ≡ number_in_frame n p = ap (λ (x : ℕ). x % frame_symbols n) k_is ∙ mod-mul-add f (frame_symbols n) (number_in_frame n p) below in
    let d = digits_are p.slot.subframe (slots_of n) (symbols_of n) p.slot.slot p.symbol (k % frame_symbols n) is.slot is.symbol rest in
    rw (quotient, d.0, d.1, d.2, ← frame) refl

-- and no other number is that of this symbol
pub number_is : (n : Numerology) (first f k : ℕ) (p : Place) → p.slot.frame ≡ pos (first + f) → p ≡ symbol_at n first k → k ≡ f * frame_symbols n + number_in_frame n p
number_is n first f k p frame is =
    let there : pos (first + f) ≡ pos (first + k / frame_symbols n) = sym frame ∙ ap (λ (q : Place). q.slot.frame) is ∙ frame_at n first k in
    let same : f ≡ k / frame_symbols n = omega (arith, ints) in
    let rest : number_in_frame n p ≡ k % frame_symbols n = ap (λ (q : Place). number_in_frame n q) is ∙ number_at n first k in
    sym (div-add-mod' k (frame_symbols n)) ∙ ap (λ (x : ℕ). x * frame_symbols n + k % frame_symbols n) (sym same) ∙ ap (λ (x : ℕ). f * frame_symbols n + x) (sym rest)

-- a symbol with a number is a proper one, of one of the frames
proper_digits : (s y r : ℕ) → 0 < s → 0 < y → r < 10 * s * y → (r / y / s < 10) × (r / y % s < s) × (r % y < y)
proper_digits s y r s_some y_some below =
    let slots : r / y < 10 * s = div_below r y (10 * s) y_some below in
    (div_below (r / y) s 10 s_some slots, mod_below (r / y) s s_some, mod_below r y y_some)

pub symbol_proper : (n : Numerology) (first k : ℕ) → IsSymbol n (symbol_at n first k)
unfolding symbol_at
symbol_proper n first k =
    let few = frame_few n in
    let below : k % frame_symbols n < frame_symbols n = mod_below k (frame_symbols n) few.0 in
    let digits : k % frame_symbols n < 10 * slots_of n * symbols_of n = subst (λ (x : ℕ). k % frame_symbols n < x) (frame_is n) below in
    let d = proper_digits (slots_of n) (symbols_of n) (k % frame_symbols n) (slots_few n).0 (symbols_few n).0 digits in
    record { subframe = d.0; slot = d.1; symbol = d.2 }

pub frames_within : (n : Numerology) (k first last : ℕ) → first ≤ last → k < (last + 1 - first) * frame_symbols n → first + k / frame_symbols n ≤ last
frames_within n k first last order below =
    let q : k / frame_symbols n < last + 1 - first = div_below k (frame_symbols n) (last + 1 - first) (frame_few n).0 below in
    omega arith

-- a proper symbol's number is below the count
pub index_below : (n : Numerology) (first last f : ℕ) (p : Place) → IsSymbol n p → first + f ≤ last → f * frame_symbols n + number_in_frame n p < (last + 1 - first) * frame_symbols n
index_below n first last f p is within =
    let below = number_below n p is in
    let more : f + 1 ≤ last + 1 - first = omega arith in
    let rows : (f + 1) * frame_symbols n ≤ (last + 1 - first) * frame_symbols n = mul-le (f + 1) (frame_symbols n) (last + 1 - first) (frame_symbols n) more (omega arith) in
    omega (arith, rows, below)

-- ---- the order

-- the first number after a place of the frame f, by its number x in the frame
pub after_number : (e f x q r : ℕ) → r < e → (f * e + min (x + 1) e ≤ q * e + r) ↔ ((f < q) ⊎ ((f ≡ q) × (x < r)))
after_number e f x q r r_few = (there, back)
  where
    there : f * e + min (x + 1) e ≤ q * e + r → (f < q) ⊎ ((f ≡ q) × (x < r))
    there h = elim (cases_order f q) [
      | inl same ↦
          let h' : q * e + min (x + 1) e ≤ q * e + r = subst (λ (y : ℕ). y * e + min (x + 1) e ≤ q * e + r) same h in
          inr (same, omega arith)
      | inr other ↦ elim other [
        | inl before ↦ inl before
        | inr behind ↦ absurd (
            let rows : (q + 1) * e ≤ f * e = mul-le (q + 1) e f e (omega arith) (omega arith) in
            omega (arith, rows)
            )
      ]
    ]

    back : (f < q) ⊎ ((f ≡ q) × (x < r)) → f * e + min (x + 1) e ≤ q * e + r
    back (inl before) =
        let rows : (f + 1) * e ≤ q * e = mul-le (f + 1) e q e (omega arith) (omega arith) in
        omega (arith, rows)
    back (inr same) =
        let h : q * e + min (x + 1) e ≤ q * e + r = let less = same.1 in omega arith in
        subst (λ (y : ℕ). y * e + min (x + 1) e ≤ q * e + r) (sym same.0) h

-- a test that failed says that its fact does not hold
pub told_not : (b : Bool) (P : Type 0) → b ≡ false → (IsTrue b ↔ P) → P → ⊥
told_not true P e h p = cc
told_not false P e h p = let t : IsTrue false = h.1 p in absurd (search rules)

pub told_so : (b : Bool) (P : Type 0) → b ≡ true → (IsTrue b ↔ P) → P
told_so true P e h = h.0 (search rules)
told_so false P e h = cc

frame_cast : (a : ℕ) → a < 2 ^ 40 → to_z w64 a ≡ pos a
frame_cast a h = omega (arith, ints)

-- the symbol that the code makes
pub made_symbol : (n : Numerology) (first k each slots symbols : ℕ) → first < 2 ^ 32 → k < 2 ^ 32 → each ≡ frame_symbols n → slots ≡ slots_of n → symbols ≡ symbols_of n
    → place_at (to_z w64 (first + k / each)) (k % each / symbols / slots) (k % each / symbols % slots) (k % each % symbols) ≡ symbol_at n first k
unfolding symbol_at
made_symbol n first k each slots symbols first_few k_few each_is slots_is symbols_is =
    let quotient : k / frame_symbols n ≤ k = div-le_self k (frame_symbols n) in
    let frame = frame_cast (first + k / frame_symbols n) (omega arith) in
    rw (each_is, slots_is, symbols_is) (ap (λ (z : ℤ). place_at z (k % frame_symbols n / symbols_of n / slots_of n) (k % frame_symbols n / symbols_of n % slots_of n) (k % frame_symbols n % symbols_of n)) frame)
