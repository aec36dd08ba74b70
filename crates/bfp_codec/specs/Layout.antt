-- The bytes of a packed PRB (O-RAN.WG4.CUS, U-plane section: udCompParam and iSample, qSample).
use Rattle.std.specs.Prelude.{ℕ, zero, suc, ℤ, pos, negsuc, ◌+◌, ◌-◌, ◌*◌, ◌/◌, ◌%◌, ◌^◌, ◌<◌, ◌≤◌, ◌≡◌, ◌*ℤ◌, List, [], ◌∷◌, length, slice_index}
use Rattle.bfp_codec.specs.Field.{field, signed, digits}
use Rattle.bfp_codec.specs.declared.samples.Iq.{Iq}
use Rattle.bfp_codec.specs.declared.samples.Wide.{Wide}
use Rattle.bfp_codec.specs.declared.methods.Method.{Method}
use Rattle.bfp_codec.specs.declared.methods.Method.TheVariants.{Plain, Bfp}
use Rattle.bfp_codec.specs.Samples.{component, wide_block}
use Rattle.bfp_codec.specs.Exponent.{exponent_of, mantissa}

-- the widths that udIqWidth can say
abbrev pub HasWidth : Method → Type 0
HasWidth Plain = Unit {0}
HasWidth (Bfp w) = (1 ≤ w) × (w ≤ 16)

-- the bytes of a packed block are so many
abbrev pub length_of : Method → ℕ
length_of Plain = 48
length_of (Bfp w) = 1 + 3 * w

-- each is a byte
abbrev pub AreBytes : List ℕ → Type 0
AreBytes xs = (i : ℕ) → slice_index xs i < 256

-- the number of w bits that a signed number is written as
abbrev pub twos : ℕ → ℤ → ℕ
twos w (pos n) = n
twos w (negsuc n) = 2 ^ w - suc n

-- a number as n bytes, the most significant first
unfoldable pub be_bytes : ℕ → ℕ → List ℕ
be_bytes zero x = []
be_bytes (suc n) x = (x / 2 ^ (8 * n) % 256) ∷ be_bytes n x

-- 24 signed numbers of w bits each, without gaps: 3 * w bytes
unfoldable pub number_bytes : ℕ → (ℕ → ℤ) → List ℕ
number_bytes w f = be_bytes (3 * w) (digits w (λ k. twos w (f k)) 24)

-- the bytes of a block: udCompParam, whose low four bits are the exponent, and then the mantissas
unfoldable pub packed_of : Method → List Iq → List ℕ
packed_of Plain block = number_bytes 16 (component block)
packed_of (Bfp w) block = exponent_of w block ∷ number_bytes w (mantissa w block)

-- the samples that bytes encode
unfoldable pub unpacked_of : Method → List ℕ → List Wide
unpacked_of Plain bytes = wide_block (λ k. signed 16 (field bytes (16 * k) 16))
unpacked_of (Bfp w) bytes = wide_block (λ k. signed w (field bytes (8 + w * k) w) *ℤ pos (2 ^ field bytes 4 4))

-- 4 reserved bits, 4 of exponent, and 24 signed numbers of w bits without gaps, as a reader finds them
pub record Spells (w e : ℕ) (mantissas : ℕ → ℤ) (bytes : List ℕ) : Type 0 where
  pub len : length bytes ≡ 1 + 3 * w
  pub reserved : field bytes 0 4 ≡ 0
  pub exponent : field bytes 4 4 ≡ e
  pub numbers : (k : ℕ) → k < 24 → signed w (field bytes (8 + w * k) w) ≡ mantissas k

-- 24 signed numbers of 16 bits
pub record SpellsPlain (given : ℕ → ℤ) (bytes : List ℕ) : Type 0 where
  pub len : length bytes ≡ 48
  pub numbers : (k : ℕ) → k < 24 → signed 16 (field bytes (16 * k) 16) ≡ given k

-- the fields of a block's bytes
abbrev pub IsLaidOut : Method → List Iq → List ℕ → Type 0
IsLaidOut Plain block bytes = SpellsPlain (component block) bytes
IsLaidOut (Bfp w) block bytes = Spells w (exponent_of w block) (mantissa w block) bytes
