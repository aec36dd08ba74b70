-- A field is a number cut from the one list of bits.
use Rattle.std.proofs.Common.{◌≡◌, ℕ, zero, suc, ◌+◌, ◌-◌, ◌*◌, ◌/◌, ◌%◌, ◌^◌, ◌<◌, ◌≤◌, List, [], ◌∷◌, length, get_or, take, drop, refl, sym, ap, ◌∙◌, arith, add-one, length-drop}
use Rattle.std.proofs.lemmas.List.{get_or-drop}
use Rattle.std.proofs.lemmas.Nat.{shr_le}
use Rattle.std.proofs.lemmas.Int.Digits.{number_more}
use Rattle.std.specs.Int.Digits.{number_from_digits}
use Rattle.bfp_codec.specs.Field.{bit, field}
use Rattle.bfp_codec.specs.Cut.{bits_of, cut}

length-bits_of : (bytes : List ℕ) → length (bits_of bytes) ≡ 8 * length bytes
length-bits_of [] = refl
length-bits_of (b ∷ bytes) = omega (arith, length-bits_of bytes)

no_bit : (k : ℕ) → 0 / 2 ^ k % 2 ≡ 0
no_bit k = omega (arith, shr_le 0 k)

get_or-nil : (xs : List ℕ) (k : ℕ) → xs ≡ [] → get_or xs k 0 ≡ 0
get_or-nil [] k e = refl
get_or-nil (x ∷ xs) k e = absurd cc

bit_is : (bytes : List ℕ) (i : ℕ) → get_or (bits_of bytes) i 0 ≡ bit bytes i
bit_is [] i = sym (rw (get_or-nil [] (i / 8) refl) (no_bit (7 - i % 8)))
bit_is (b ∷ bytes) zero = refl
bit_is (b ∷ bytes) (suc zero) = refl
bit_is (b ∷ bytes) (suc (suc zero)) = refl
bit_is (b ∷ bytes) (suc (suc (suc zero))) = refl
bit_is (b ∷ bytes) (suc (suc (suc (suc zero)))) = refl
bit_is (b ∷ bytes) (suc (suc (suc (suc (suc zero))))) = refl
bit_is (b ∷ bytes) (suc (suc (suc (suc (suc (suc zero)))))) = refl
bit_is (b ∷ bytes) (suc (suc (suc (suc (suc (suc (suc zero))))))) = omega arith
bit_is (b ∷ bytes) (suc (suc (suc (suc (suc (suc (suc (suc i)))))))) =
    let high : suc (suc (suc (suc (suc (suc (suc (suc i))))))) / 8 ≡ suc (i / 8) = omega arith in
    let low : suc (suc (suc (suc (suc (suc (suc (suc i))))))) % 8 ≡ i % 8 = omega arith in
    bit_is bytes i ∙ sym (rw (high, low) refl)

pub field_is_cut : (bytes : List ℕ) (i n : ℕ) → i + n ≤ 8 * length bytes → field bytes i n ≡ cut i n (bits_of bytes)
unfolding field
field_is_cut bytes i zero h = refl
field_is_cut bytes i (suc n) h =
    let before = field_is_cut bytes i n (omega arith) in
    let room : n < length (drop i (bits_of bytes)) = omega (arith, length-drop i (bits_of bytes), length-bits_of bytes) in
    let more = number_more 2 (drop i (bits_of bytes)) n room in
    let here : get_or (drop i (bits_of bytes)) n 0 ≡ bit bytes (i + n) = get_or-drop i (bits_of bytes) n 0 ∙ bit_is bytes (i + n) in
    let both : field bytes i n * 2 + bit bytes (i + n) ≡ number_from_digits 2 (take (n + 1) (drop i (bits_of bytes))) = omega (arith, before, more, here) in
    both ∙ ap (λ k. number_from_digits 2 (take k (drop i (bits_of bytes)))) (add-one n)
