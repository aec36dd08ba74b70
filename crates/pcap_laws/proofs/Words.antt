-- Numbers of 32 bits, written and read.
use Rattle.std.proofs.Common.{◌≡◌, ℕ, zero, suc, ◌^◌, ◌<◌, Bool, true, false, List, [], ◌∷◌, ◌++◌, drop, arith, refl}
use Rattle.std.specs.Prelude.{All, slice_index}
use Rattle.std.proofs.lemmas.List.Elements.{All-head, All-tail}
use Rattle.std.proofs.lemmas.Nat.{from_be_bytes-to_be_bytes_4, from_le_bytes-to_le_bytes_4}
use Rattle.pcap_frames.specs.Files.{word_of}
use Rattle.pcap_frames.specs.Numbers.{number}
use Rattle.pcap_laws.specs.Classic.{word_bytes}

-- what was written is read
pub word_back : (little : Bool) (n : ℕ) (rest : List ℕ) → n < 2 ^ 32 → word_of little (word_bytes little n ++ rest) ≡ n
word_back true n rest small = omega (arith, from_le_bytes-to_le_bytes_4 n small)
word_back false n rest small = omega (arith, from_be_bytes-to_be_bytes_4 n small)

pub behind_word : (little : Bool) (n : ℕ) (rest : List ℕ) → drop 4 (word_bytes little n ++ rest) ≡ rest
behind_word true n rest = refl
behind_word false n rest = refl

-- what four bytes say is under 2 ^ 32
abbrev pub AreBytes : List ℕ → Type 0
AreBytes bytes = All (λ b. b < 256) bytes

byte_at : (bytes : List ℕ) (i : ℕ) → AreBytes bytes → slice_index bytes i < 256
byte_at [] i h = omega arith
byte_at (b ∷ bytes) zero h = All-head (λ b. b < 256) b bytes h
byte_at (b ∷ bytes) (suc i) h = byte_at bytes i (All-tail (λ b. b < 256) b bytes h)

pub word_small : (little : Bool) (bytes : List ℕ) → AreBytes bytes → number little 4 bytes < 2 ^ 32
word_small true bytes h = omega (arith, byte_at bytes 0 h, byte_at bytes 1 h, byte_at bytes 2 h, byte_at bytes 3 h)
word_small false bytes h = omega (arith, byte_at bytes 0 h, byte_at bytes 1 h, byte_at bytes 2 h, byte_at bytes 3 h)
