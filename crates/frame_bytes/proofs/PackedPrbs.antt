-- Packed PRBs, and sections one after the other.
use Rattle.std.proofs.Common.{◌≡◌, ℕ, zero, suc, ◌+◌, ◌-◌, ◌*◌, ◌<◌, ◌≤◌, List, ◌++◌, length, inl, inr, sym, ap, ◌∙◌, arith, add-zero, append-nil, append_assoc, length-append}
use Rattle.std.proofs.lemmas.Bool.{cases_lt}
use Rattle.bfp_codec.specs.declared.samples.Iq.{Iq}
use Rattle.bfp_codec.specs.declared.methods.Method.{Method}
use Rattle.bfp_codec.specs.Layout.{length_of, packed_of}
use Rattle.bfp_codec.proofs.Laws.{length_packed}
use Rattle.frame_bytes.specs.declared.pieces.Span.{Span}
use Rattle.frame_bytes.specs.Messages.{packed_prbs}
use Rattle.frame_bytes.specs.Written.{Stands}
use Rattle.frame_bytes.proofs.CutBytes.{stands_done, stands_none}

pub packed_split : (method : Method) (block : ℕ → List Iq) (prb n k : ℕ) → packed_prbs method block prb (n + k) ≡ packed_prbs method block prb n ++ packed_prbs method block (prb + n) k
packed_split method block prb zero k = ap (packed_prbs method block prb) (omega arith) ∙ ap (λ m. packed_prbs method block m k) (sym (add-zero prb))
packed_split method block prb (suc n) k =
    let more : suc n + k ≡ suc (n + k) = omega arith in
    let place : prb + 1 + n ≡ prb + suc n = omega arith in
    ap (packed_prbs method block prb) more
    ∙ ap (λ xs. packed_of method (block prb) ++ xs) (packed_split method block (prb + 1) n k)
    ∙ sym (append_assoc (packed_of method (block prb)) (packed_prbs method block (prb + 1) n) (packed_prbs method block (prb + 1 + n) k))
    ∙ ap (λ m. packed_prbs method block prb (suc n) ++ packed_prbs method block m k) place

pub packed_last : (method : Method) (block : ℕ → List Iq) (prb n : ℕ) → packed_prbs method block prb (n + 1) ≡ packed_prbs method block prb n ++ packed_of method (block (prb + n))
packed_last method block prb n = packed_split method block prb n 1 ∙ ap (λ xs. packed_prbs method block prb n ++ xs) (append-nil (packed_of method (block (prb + n))))

pub length_prbs : (method : Method) (block : ℕ → List Iq) (prb n : ℕ) → length (packed_prbs method block prb n) ≡ n * length_of method
length_prbs method block prb zero = omega arith
length_prbs method block prb (suc n) =
    omega (arith, length-append (packed_of method (block prb)) (packed_prbs method block (prb + 1) n), length_packed method (block prb), length_prbs method block (prb + 1) n)

-- the blocks before the first that a span touches
pub prbs_begin : (span : Span) (method : Method) (block : ℕ → List Iq) (prb begin place : ℕ) (before room : List ℕ) → length before ≡ place → (0 < begin → place + begin * length_of method ≤ span.from)
    → Stands span before room → Stands span (before ++ packed_prbs method block prb begin) room
prbs_begin span method block prb zero place before room at none stood = let same = append-nil before in rw same stood
prbs_begin span method block prb (suc n) place before room at none stood =
    stands_none span (before ++ packed_prbs method block prb (suc n)) room
    (let h = none (omega arith) in omega (arith, length-append before (packed_prbs method block prb (suc n)), length_prbs method block prb (suc n)))

-- and those after the last
pub prbs_end : (span : Span) (method : Method) (block : ℕ → List Iq) (prb end count place : ℕ) (before room : List ℕ) → span.from ≤ span.to → length before ≡ place → end ≤ count
    → (end < count → span.to ≤ place + end * length_of method) → Stands span (before ++ packed_prbs method block prb end) room → Stands span (before ++ packed_prbs method block prb count) room
prbs_end span method block prb end count place before room order at most done stood = elim (cases_lt end count) [
  | inr ge ↦ let same : end ≡ count = omega arith in rw same at stood
  | inl lt ↦
      let here = packed_prbs method block prb end in
      let rest = packed_prbs method block (prb + end) (count - end) in
      let split : packed_prbs method block prb count ≡ here ++ rest = ap (packed_prbs method block prb) (omega arith) ∙ packed_split method block prb end (count - end) in
      let all : before ++ packed_prbs method block prb count ≡ (before ++ here) ++ rest = ap (λ xs. before ++ xs) split ∙ sym (append_assoc before here rest) in
      let passed = done lt in
      rw all (stands_done span (before ++ here) rest room order (omega (arith, length-append before here, length_prbs method block prb end)) stood)
]
