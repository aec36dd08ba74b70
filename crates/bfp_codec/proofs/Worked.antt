-- The definitions at values worked out by hand, each by computing.
use Rattle.std.proofs.Common.{◌≡◌, ℕ, pos, negsuc, List, [], ◌∷◌, refl}
use Rattle.bfp_codec.specs.Field.{field, signed, digits}
use Rattle.bfp_codec.specs.Cut.{bits_of, cut}

-- ab cd ef in base 16
some_bytes : List ℕ
some_bytes = 171 ∷ 205 ∷ 239 ∷ []

-- the second to the fourth of six digits: bcd
field_worked : field some_bytes 4 12 ≡ 3021
unfolding field some_bytes
field_worked = refl

cut_worked : cut 4 12 (bits_of some_bytes) ≡ 3021
unfolding some_bytes
cut_worked = refl

-- past the end there are zeros
field_past_the_end : field some_bytes 20 8 ≡ 240
unfolding field some_bytes
field_past_the_end = refl

-- the signed numbers of 24 bits end at 7fffff and begin at 800000
signed_greatest : signed 24 8388607 ≡ pos 8388607
signed_greatest = refl

signed_least : signed 24 8388608 ≡ negsuc 8388607
signed_least = refl

signed_minus_one : signed 16 65535 ≡ negsuc 0
signed_minus_one = refl

-- three digits of 9 bits: 0, 1 and 2
digits_worked : digits 9 (λ k. k) 3 ≡ 514
unfolding digits
digits_worked = refl
