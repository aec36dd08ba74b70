-- Words are ASCII.
use Rattle.std.proofs.Common.{◌≡◌, ℕ, ◌%◌, ◌/◌, ◌<◌, Bool, true, List, [], ◌∷◌, refl, arith}
use Rattle.std.specs.Prelude.{nat_lt, ◌&&◌, codes}
use Rattle.std.specs.Str.{IsAscii, IsUtf8}
use Rattle.std.specs.Char.{digit_char}
use Rattle.std.proofs.lemmas.Str.{IsUtf8-from_ascii}
use Rattle.std.proofs.lemmas.Str.Ascii.{IsAscii-cons, IsAscii-nil}
use Rattle.std.proofs.lemmas.Nat.{mod_below}
use Rattle.std.proofs.lemmas.Bool.{and_parts}
use Rattle.std.proofs.lemmas.Bool.Decides.{nat_tests}
use Rattle.std.proofs.lemmas.Grind.{common_steps}
use Rattle.air_source.specs.declared.events.Side.TheVariants.{Ru, Du}
use Rattle.cplane_sections.specs.declared.values.CWhy.TheVariants as command
use Rattle.ecpri_frames.specs.declared.refusals.PduWhy.TheVariants as frame
use Rattle.capture_show.specs.declared.values.Word.{Word}
use Rattle.capture_show.specs.declared.values.Word.TheVariants.{Hex2, Hex3, Hex4, Way, Command, Fragmented, Frame}
use Rattle.fh_base.specs.Words.{hex2_text, hex3_text}
use Rattle.capture_show.specs.Lines.{word_text}

-- a test of a text that is written out
abbrev all_ascii : List ℕ → Bool
all_ascii [] = true
all_ascii (x ∷ xs) = nat_lt x 128 && all_ascii xs

small : (x : ℕ) → nat_lt x 128 ≡ true → x < 128
small x e = grind (arith, nat_tests)

tested : (xs : List ℕ) → all_ascii xs ≡ true → IsAscii xs
tested [] e = IsAscii-nil
tested (x ∷ xs) e =
    let both = and_parts (nat_lt x 128) (all_ascii xs) e in
    IsAscii-cons x xs (small x both.0) (tested xs both.1)

digit_small : (n : ℕ) → n < 16 → digit_char n < 128
digit_small n h = grind (arith, nat_tests, common_steps)

digit_of : (n : ℕ) → digit_char (n % 16) < 128
digit_of n = digit_small (n % 16) (mod_below n 16 (omega arith))

two : (m n : ℕ) → IsAscii (digit_char (m % 16) ∷ digit_char (n % 16) ∷ [])
two m n = IsAscii-cons (digit_char (m % 16)) (digit_char (n % 16) ∷ []) (digit_of m) (IsAscii-cons (digit_char (n % 16)) [] (digit_of n) IsAscii-nil)

word_ascii : (w : Word) → IsAscii (word_text w)
word_ascii (Hex2 n) = two (n / 16) n
word_ascii (Hex3 n) = IsAscii-cons (digit_char (n / 256 % 16)) (hex2_text n) (digit_of (n / 256)) (two (n / 16) n)
word_ascii (Hex4 n) =
    IsAscii-cons (digit_char (n / 4096 % 16)) (hex3_text n) (digit_of (n / 4096))
    (IsAscii-cons (digit_char (n / 256 % 16)) (hex2_text n) (digit_of (n / 256)) (two (n / 16) n))
word_ascii (Way Ru) = tested (codes "dl") refl
word_ascii (Way Du) = tested (codes "ul") refl
word_ascii (Command command.Truncated) = tested (codes "Truncated") refl
word_ascii (Command command.Version) = tested (codes "Version") refl
word_ascii (Command command.SectionType) = tested (codes "SectionType") refl
word_ascii (Command command.SlotRange) = tested (codes "SlotRange") refl
word_ascii (Command command.SymbolRange) = tested (codes "SymbolRange") refl
word_ascii (Command command.NoSections) = tested (codes "NoSections") refl
word_ascii (Command command.EveryOtherRb) = tested (codes "EveryOtherRb") refl
word_ascii (Command command.Extension) = tested (codes "Extension") refl
word_ascii (Command command.Trailing) = tested (codes "Trailing") refl
word_ascii Fragmented = tested (codes "Fragmented") refl
word_ascii (Frame frame.Revision) = tested (codes "Revision") refl
word_ascii (Frame frame.Truncated) = tested (codes "Truncated") refl
word_ascii (Frame frame.NoPadding) = tested (codes "NoPadding") refl

pub word_utf8 : (w : Word) → IsUtf8 (word_text w)
word_utf8 w = IsUtf8-from_ascii (word_text w) (word_ascii w)
