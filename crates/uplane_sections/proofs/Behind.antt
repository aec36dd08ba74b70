-- What the definition makes of a unit and of what is after it.
use Rattle.std.proofs.Common.{◌≡◌, ℕ, zero, suc, ◌+◌, ◌-◌, ◌*◌, ◌<◌, ◌≤◌, inl, inr, cond, ltb, List, [], ◌∷◌, ◌++◌, length, drop, refl, ap, arith, length-append, length-drop, zero-add, add-zero}
use Rattle.std.proofs.lemmas.List.{take_at, drop_at, get_or_append_left}
use Rattle.std.proofs.lemmas.Bool.{lt-ltb, le-ltb, cases_lt}
use Rattle.std.proofs.lemmas.Bool.Decides.{nat_tests}
use Rattle.bfp_codec.specs.Field.{field}
use Rattle.bfp_codec.proofs.Field.{field_same}
use Rattle.fh_base.specs.declared.values.Shape.{Shape}
use Rattle.bfp_codec.specs.declared.methods.Method.{Method}
use Rattle.bfp_codec.specs.declared.methods.Format.{Format}
use Rattle.bfp_codec.specs.Layout.{length_of, unpacked_of}
use Rattle.uplane_sections.specs.declared.values.UWhy.TheVariants.{Truncated}
use Rattle.uplane_sections.specs.Section.{symInc, size_of, header_size}
use Rattle.uplane_sections.specs.Messages.{Block, fault, after, section_at, sections}
use Rattle.uplane_sections.specs.Phases.{in_blocks}

-- the fields of bytes are those of the bytes before others
pub field_front : (xs rest : List ℕ) (i n : ℕ) → i + n ≤ 8 * length xs → field (xs ++ rest) i n ≡ field xs i n
field_front xs rest i n h = field_same (xs ++ rest) xs i n (λ k low high. get_or_append_left xs rest 0 k (omega arith))

module _ (format : Format) (prbs : ℕ) (shape : Shape) where
  -- after bytes that belong to a section that was read
  pub skip : (k n at symbol : ℕ) (bytes : List ℕ) → k ≤ length bytes → sections format prbs shape at symbol (k + n) bytes ≡ sections format prbs shape (at + k) symbol n (drop k bytes)
  skip zero n at symbol bytes h = rw (zero-add, add-zero) refl
  skip (suc k) n at symbol [] h = absurd (omega arith)
  skip (suc k) n at symbol (b ∷ bytes) h =
      let e : suc k + n ≡ suc (k + n) = omega arith in
      let f : at + 1 + k ≡ at + suc k = omega arith in
      rw (e, skip k n (at + 1) symbol bytes (omega arith), f) refl

  -- the rest of a section after k of its bytes
  pub behind : (bytes : List ℕ) (k n at symbol all : ℕ) → all ≡ k + n → k ≤ length bytes →
      cond (ltb (length bytes) all) (fault (at + length bytes) Truncated) (sections format prbs shape at symbol all bytes)
      ≡ cond (ltb (length (drop k bytes)) n) (fault (at + k + length (drop k bytes)) Truncated) (sections format prbs shape (at + k) symbol n (drop k bytes))
  behind bytes k n at symbol all is h =
      let l : length (drop k bytes) ≡ length bytes - k = length-drop k bytes in
      let place : at + length bytes ≡ at + k + length (drop k bytes) = omega arith in
      elim (cases_lt (length (drop k bytes)) n) [
        | inl p ↦ rw (lt-ltb (length bytes) all (omega arith), lt-ltb (length (drop k bytes)) n p, place) refl
        | inr p ↦ rw (le-ltb (length bytes) all (omega arith), le-ltb (length (drop k bytes)) n p, is, skip k n at symbol bytes h) refl
      ]

  next_is : (at symbol size b : ℕ) (bytes : List ℕ) → 0 < size → sections format prbs shape (at + 1) symbol (size - 1) bytes ≡ sections format prbs shape at symbol size (b ∷ bytes)
  next_is at symbol zero b bytes h = absurd (omega arith)
  next_is at symbol (suc m) b bytes h =
      let e : suc m - 1 ≡ m = omega arith in
      rw e refl

  some_header : (n : ℕ) → 0 < header_size format + n
  some_header n = grind (arith, nat_tests)

  pub sections_start : (at before : ℕ) (bytes : List ℕ) → 0 < length bytes → sections format prbs shape at before 0 bytes
      ≡ section_at format prbs shape at before bytes (sections format prbs shape at (before + symInc bytes) (size_of format prbs bytes) bytes)
  sections_start at before [] h = absurd (omega arith)
  sections_start at before (b ∷ bytes) h =
      ap (section_at format prbs shape at before (b ∷ bytes)) (next_is at (before + symInc (b ∷ bytes)) (size_of format prbs (b ∷ bytes)) b bytes (some_header _))

  pub block_step : (method : Method) (symbol at prb n : ℕ) (xs rest : List ℕ) → length xs ≡ length_of method →
      in_blocks format prbs shape method symbol at prb (suc n) (xs ++ rest)
      ≡ after (Block prb (unpacked_of method xs) ∷ []) (in_blocks format prbs shape method symbol (at + length_of method) (prb + 1) n rest)
  block_step method symbol at prb n xs rest h =
      let len = length_of method in
      let l : length (xs ++ rest) ≡ length xs + length rest = length-append xs rest in
      let b = behind (xs ++ rest) len (n * len) at symbol (suc n * len) (omega arith) (omega arith) in
      rw (le-ltb (length (xs ++ rest)) len (omega arith), take_at xs rest len h, b, drop_at xs rest len h) refl

  pub block_step_at : (method : Method) (symbol at prb left : ℕ) (xs rest : List ℕ) → 0 < left → length xs ≡ length_of method →
      in_blocks format prbs shape method symbol at prb left (xs ++ rest)
      ≡ after (Block prb (unpacked_of method xs) ∷ []) (in_blocks format prbs shape method symbol (at + length_of method) (prb + 1) (left - 1) rest)
  block_step_at method symbol at prb zero xs rest some h = absurd (omega arith)
  block_step_at method symbol at prb (suc n) xs rest some h =
      let e : suc n - 1 ≡ n = omega arith in
      rw e (block_step method symbol at prb n xs rest h)
