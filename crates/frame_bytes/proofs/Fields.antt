-- Bytes and the fields that they spell.
use Rattle.std.proofs.Common.{◌≡◌, ℕ, ◌+◌, ◌*◌, ◌/◌, ◌%◌, ◌^◌, ◌<◌, ◌≤◌, Bool, true, false, eqb, List, [], ◌∷◌, length, take, inl, inr, refl, sym, ap, ◌∙◌, arith, add-zero, add_assoc, zero-add}
use Rattle.std.proofs.lemmas.Nat.{shr_high, mod_low, pow-add, mul-add-lt}
use Rattle.std.proofs.Math.Nat.{mul_comm, mod-eq_of_lt}
use Rattle.std.proofs.lemmas.List.{get_or-take, get_or_past, length-take, length-take-le}
use Rattle.std.proofs.lemmas.Bool.{cases_lt}
use Rattle.std.proofs.lemmas.Bool.Decides.{nat_tests}
use Rattle.bfp_codec.specs.Field.{field, flag}
use Rattle.bfp_codec.proofs.Field.{field_split, field_fits, field_take}
use Rattle.bfp_codec.specs.Layout.{AreBytes, be_bytes}
use Rattle.bfp_codec.proofs.Spelled.{bytes_are, field_be_bytes, length-be_bytes, be_bytes_small}
use Rattle.frame_bytes.specs.Spelled.{Field, width_of, spelled_behind, in_bytes}

-- the fields are one after the other from bit i on
unfoldable pub AreAt : List ℕ → ℕ → List Field → Type 0
AreAt bytes i [] = Unit {0}
AreAt bytes i ((w, x) ∷ fields) = (field bytes i w ≡ x) × AreAt bytes (i + w) fields

-- each in its width
unfoldable pub AreSmall : List Field → Type 0
AreSmall [] = Unit {0}
AreSmall ((w, x) ∷ fields) = (x < 2 ^ w) × AreSmall fields

spelled_is : (bytes : List ℕ) (i : ℕ) (fields : List Field) → AreAt bytes i fields → field bytes 0 (i + width_of fields) ≡ spelled_behind (field bytes 0 i) fields
unfolding AreAt
spelled_is bytes i [] h = ap (field bytes 0) (add-zero i)
spelled_is bytes i ((w, x) ∷ fields) (e, h) =
    let there : field bytes (0 + i) w ≡ x = ap (λ k. field bytes k w) (zero-add i) ∙ e in
    let next : field bytes 0 (i + w) ≡ field bytes 0 i * 2 ^ w + x = field_split bytes 0 i w ∙ ap (λ n. field bytes 0 i * 2 ^ w + n) there in
    ap (field bytes 0) (sym (add_assoc i w (width_of fields))) ∙ spelled_is bytes (i + w) fields h ∙ ap (λ n. spelled_behind n fields) next

-- bytes are what their fields spell
pub fields_are : (n : ℕ) (bytes : List ℕ) (fields : List Field) → length bytes ≡ n → AreBytes bytes → width_of fields ≡ 8 * n → AreAt bytes 0 fields → bytes ≡ in_bytes fields
unfolding field
fields_are n bytes fields len small whole h =
    let count : width_of fields / 8 ≡ n = omega arith in
    let is = spelled_is bytes 0 fields h in
    bytes_are n (spelled_behind 0 fields) bytes len small (ap (field bytes 0) (sym whole ∙ sym (zero-add (width_of fields))) ∙ is) ∙ ap (λ k. be_bytes k (spelled_behind 0 fields)) (sym count)

-- the same number after more fields
digits_split : (a b w x y : ℕ) → x < 2 ^ w → y < 2 ^ w → a * 2 ^ w + x ≡ b * 2 ^ w + y → (a ≡ b) × (x ≡ y)
digits_split a b w x y hx hy e =
    (sym (shr_high a w x hx) ∙ ap (λ n. n / 2 ^ w) e ∙ shr_high b w y hy, sym (mod_low a w x hx) ∙ ap (λ n. n % 2 ^ w) e ∙ mod_low b w y hy)

stands_at : (bytes : List ℕ) (i n : ℕ) (fields : List Field) → AreSmall fields → field bytes 0 (i + width_of fields) ≡ spelled_behind n fields → (field bytes 0 i ≡ n) × AreAt bytes i fields
unfolding AreAt AreSmall
stands_at bytes i n [] h e = (ap (field bytes 0) (sym (add-zero i)) ∙ e, tt)
stands_at bytes i n ((w, x) ∷ fields) (small, h) e =
    let rest = stands_at bytes (i + w) (n * 2 ^ w + x) fields h (ap (field bytes 0) (add_assoc i w (width_of fields)) ∙ e) in
    let here = digits_split (field bytes 0 i) n w (field bytes (0 + i) w) x (field_fits bytes (0 + i) w) small (sym (field_split bytes 0 i w) ∙ rest.0) in
    (here.0, (ap (λ k. field bytes k w) (sym (zero-add i)) ∙ here.1, rest.1))

spelled_small : (i n : ℕ) (fields : List Field) → n < 2 ^ i → AreSmall fields → spelled_behind n fields < 2 ^ (i + width_of fields)
unfolding AreSmall
spelled_small i n [] h a = rw (add-zero i) h
spelled_small i n ((w, x) ∷ fields) h (small, a) =
    let power : 2 ^ (i + w) ≡ 2 ^ w * 2 ^ i = pow-add 2 i w ∙ mul_comm (2 ^ i) (2 ^ w) in
    let next : n * 2 ^ w + x < 2 ^ (i + w) = omega (arith, power, mul-add-lt n (2 ^ w) x (2 ^ i) h small) in
    rw (sym (add_assoc i w (width_of fields))) (spelled_small (i + w) (n * 2 ^ w + x) fields next a)

-- the fields are in the bytes that they spell
pub at_fields : (n : ℕ) (fields : List Field) → width_of fields ≡ 8 * n → AreSmall fields → AreAt (in_bytes fields) 0 fields
at_fields n fields whole a =
    let count : width_of fields / 8 ≡ n = omega arith in
    let x = spelled_behind 0 fields in
    let bits : 0 + width_of fields ≡ 8 * n = zero-add (width_of fields) ∙ whole in
    let fits : x < 2 ^ (8 * n) = rw bits at (spelled_small 0 0 fields (omega arith) a) in
    let is : field (in_bytes fields) 0 (0 + width_of fields) ≡ x = rw (count, bits) (field_be_bytes n x ∙ mod-eq_of_lt fits) in
    (stands_at (in_bytes fields) 0 0 fields a is).1

pub length-in_bytes : (n : ℕ) (fields : List Field) → width_of fields ≡ 8 * n → length (in_bytes fields) ≡ n
length-in_bytes n fields whole =
    let count : width_of fields / 8 ≡ n = omega arith in
    length-be_bytes (width_of fields / 8) (spelled_behind 0 fields) ∙ count

pub are_bytes : (fields : List Field) → AreBytes (in_bytes fields)
are_bytes fields = λ i. be_bytes_small (width_of fields / 8) (spelled_behind 0 fields) i

-- flags
pub bit_read : (n : ℕ) (b : Bool) → n < 2 → eqb n 1 ≡ b → n ≡ flag b
bit_read n true h e = grind (arith, nat_tests)
bit_read n false h e = grind (arith, nat_tests)

pub bit_small : (b : Bool) → flag b < 2
bit_small true = omega arith
bit_small false = omega arith

pub bit_back : (b : Bool) → eqb (flag b) 1 ≡ b
bit_back true = refl
bit_back false = refl

at_front : (n : ℕ) (bytes : List ℕ) (i : ℕ) (fields : List Field) → i + width_of fields ≤ 8 * n → AreAt bytes i fields → AreAt (take n bytes) i fields
unfolding AreAt
at_front n bytes i [] fits h = tt
at_front n bytes i ((w, x) ∷ fields) fits (e, h) = (field_take bytes n i w (omega arith) ∙ e, at_front n bytes (i + w) fields (omega arith) h)

front_small : (n : ℕ) (bytes : List ℕ) → AreBytes bytes → AreBytes (take n bytes)
front_small n bytes small i = elim (cases_lt i n) [
  | inl lt ↦ rw (get_or-take n bytes i 0 lt) (small i)
  | inr ge ↦ let short : length (take n bytes) ≤ n = omega (arith, length-take n bytes) in rw (get_or_past (take n bytes) i 0 (omega arith)) (omega arith)
]

-- the first bytes are what their fields spell
pub front_is : (n : ℕ) (bytes : List ℕ) (fields : List Field) → n ≤ length bytes → AreBytes bytes → width_of fields ≡ 8 * n → AreAt bytes 0 fields → take n bytes ≡ in_bytes fields
front_is n bytes fields room small whole h =
    fields_are n (take n bytes) fields (length-take-le n bytes room) (front_small n bytes small) whole (at_front n bytes 0 fields (omega arith) h)
