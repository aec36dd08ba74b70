-- What compression leaves of a block.
use Rattle.std.specs.Prelude.{ℕ, ℤ, pos, ◌+ℤ◌, ◌*ℤ◌, ◌≤ℤ◌, ◌<ℤ◌, ◌^◌, ◌<◌, ◌≤◌, List}
use Rattle.bfp_codec.specs.declared.samples.Iq.{Iq}
use Rattle.bfp_codec.specs.declared.samples.Wide.{Wide}
use Rattle.bfp_codec.specs.declared.methods.Method.{Method}
use Rattle.bfp_codec.specs.declared.methods.Method.TheVariants.{Plain, Bfp}
use Rattle.bfp_codec.specs.Samples.{component, wide_block}
use Rattle.bfp_codec.specs.Exponent.{floor_of, exponent_of, Within, IsExponent}

-- z with its last e binary digits dropped
abbrev pub shrunk_at : ℕ → ℤ → ℤ
shrunk_at e z = floor_of z e *ℤ pos (2 ^ e)

-- the exponent of a block, 0 where it is not compressed
abbrev pub step_of : Method → List Iq → ℕ
step_of Plain block = 0
step_of (Bfp w) block = exponent_of w block

-- number k of the block of mantissas times 2 ^ exponent, or of the block itself where it is not compressed
abbrev pub shrunk_number : Method → List Iq → ℕ → ℤ
shrunk_number Plain block k = component block k
shrunk_number (Bfp w) block k = shrunk_at (exponent_of w block) (component block k)

unfoldable pub shrunk : Method → List Iq → List Wide
shrunk method block = wide_block (shrunk_number method block)

-- a number is at most what it was, and has lost less than a step of 2 ^ e
pub record IsNear (e : ℕ) (z was : ℤ) : Type 0 where
  pub most : z ≤ℤ was
  pub lost : was <ℤ (z +ℤ pos (2 ^ e))

-- the methods that write a shrunk block by the bytes of the block that it was made from: one bit has no room for 1
abbrev pub KeepsBytes : Method → Type 0
KeepsBytes Plain = Unit {0}
KeepsBytes (Bfp w) = 2 ≤ w

-- what the numbers of a block meet before they are written: 16 bits each, or an exponent that 4 bits hold
abbrev pub CanPack : Method → List Iq → Type 0
CanPack Plain block = (k : ℕ) → k < 24 → Within 16 (component block k)
CanPack (Bfp w) block = (1 ≤ w) × IsExponent w block (exponent_of w block)
