-- The bytes of a message from one place to another.
use Rattle.std.proofs.Common.{◌≡◌, ℕ, ◌+◌, ◌-◌, ◌<◌, ◌≤◌, min, max, List, [], ◌++◌, length, take, drop, inl, inr, refl, sym, ap, ◌∙◌, arith, append-nil, length-drop}
use Rattle.std.proofs.lemmas.List.{length-take, take_all, drop-take, take-append-le, drop-append-le}
use Rattle.std.proofs.Math.Seq.{take-append-add, drop-append-add, take-append_seam, take-length}
use Rattle.std.proofs.lemmas.Bool.{cases_lt}
use Rattle.frame_bytes.specs.declared.pieces.Span.{Span}
use Rattle.frame_bytes.specs.Cuts.{cut}
use Rattle.frame_bytes.specs.Written.{Stands}
use Rattle.uplane_sections.proofs.Runs.{no_bytes as nil_is}

pub length_cut : (from to : ℕ) (xs : List ℕ) → length (cut from to xs) ≡ min to (length xs) - from
length_cut from to xs = length-drop from (take to xs) ∙ ap (λ n. n - from) (length-take to xs)

pub cut_none : (from to : ℕ) (xs : List ℕ) → length xs ≤ from → cut from to xs ≡ []
cut_none from to xs h = nil_is (cut from to xs) (omega (arith, length_cut from to xs))

cut_empty : (from to : ℕ) (xs : List ℕ) → to ≤ from → cut from to xs ≡ []
cut_empty from to xs h = nil_is (cut from to xs) (omega (arith, length_cut from to xs))

pub cut_append : (from to : ℕ) (xs ys : List ℕ) → from ≤ to → cut from to (xs ++ ys) ≡ cut from to xs ++ cut (from - length xs) (to - length xs) ys
cut_append from to xs ys order = elim (cases_lt (length xs) to) [
  | inr ge ↦
      let none : cut (from - length xs) (to - length xs) ys ≡ [] = cut_empty (from - length xs) (to - length xs) ys (omega arith) in
      ap (drop from) (take-append-le to xs ys ge) ∙ sym (append-nil (cut from to xs)) ∙ ap (λ zs. cut from to xs ++ zs) (sym none)
  | inl lt ↦
      let m = to - length xs in
      let all : take to xs ≡ xs = ap (λ k. take k xs) (omega arith) ∙ take_all to xs (omega arith) in
      let front : take to (xs ++ ys) ≡ xs ++ take m ys = ap (λ k. take k (xs ++ ys)) (omega arith) ∙ take-append-add xs ys m in
      elim (cases_lt from (length xs)) [
        | inl inside ↦
            let left : from - length xs ≡ 0 = omega arith in
            ap (drop from) front ∙ drop-append-le from xs (take m ys) (omega arith) ∙ rw (all, left) refl
        | inr outside ↦
            let none : drop from xs ≡ [] = nil_is (drop from xs) (omega (arith, length-drop from xs)) in
            ap (drop from) front ∙ ap (λ k. drop k (xs ++ take m ys)) (omega arith) ∙ drop-append-add xs (take m ys) (from - length xs) ∙ rw (all, none) refl
      ]
]

-- nothing more of a message that has passed the span
pub stands_done : (span : Span) (before more room : List ℕ) → span.from ≤ span.to → span.to ≤ length before → Stands span before room → Stands span (before ++ more) room
stands_done span before more room order passed h =
    let same : cut span.from span.to (before ++ more) ≡ cut span.from span.to before = ap (drop span.from) (take-append-le span.to before more passed) in
    rw same h

-- nothing of a message before the span
pub stands_none : (span : Span) (before room : List ℕ) → length before ≤ span.from → Stands span before room
stands_none span before room h = rw (cut_none span.from span.to before h) refl

pub take_same : (n : ℕ) (xs : List ℕ) → take n xs ≡ take (min n (length xs)) xs
take_same n xs = elim (cases_lt n (length xs)) [
  | inl lt ↦ ap (λ k. take k xs) (omega arith)
  | inr ge ↦ take_all n xs ge ∙ sym (ap (λ k. take k xs) (omega arith) ∙ take-length xs)
]

-- the bytes that a span holds of those after `before`, as a slice of them
slice_is : (from to place start end : ℕ) (bytes : List ℕ) → start ≡ max place from → end ≡ min (place + length bytes) to → start < end
    → take (end - place - (start - place)) (drop (start - place) bytes) ≡ cut (from - place) (to - place) bytes
slice_is from to place start end bytes start_is end_is some =
    let a = from - place in
    let b = to - place in
    let first : start - place ≡ a = omega arith in
    let split : min b (length bytes) ≡ a + (end - place - (start - place)) = omega arith in
    let whole : take b bytes ≡ take (a + (end - place - (start - place))) bytes = take_same b bytes ∙ ap (λ k. take k bytes) split in
    ap (λ k. take (end - place - (start - place)) (drop k bytes)) first ∙ sym (drop-take a (end - place - (start - place)) bytes) ∙ ap (drop a) (sym whole)

pub stands_written : (span : Span) (place start end : ℕ) (before bytes old rest new : List ℕ) → span.from ≤ span.to → length before ≡ place
    → start ≡ max place span.from → end ≡ min (place + length bytes) span.to → start < end
    → new ≡ (take (start - span.from) old ++ take (end - place - (start - place)) (drop (start - place) bytes)) ++ rest
    → Stands span before old → Stands span (before ++ bytes) new
stands_written span place start end before bytes old rest new order at start_is end_is some new_is stood =
    let from = span.from in
    let to = span.to in
    let here = cut from to before in
    let more = cut (from - place) (to - place) bytes in
    let mid = slice_is from to place start end bytes start_is end_is some in
    let all : cut from to (before ++ bytes) ≡ here ++ more = cut_append from to before bytes order ∙ ap (λ n. here ++ cut (from - n) (to - n) bytes) at in
    let count : start - from ≡ length here = omega (arith, length_cut from to before) in
    let front : take (start - from) old ≡ here = ap (λ n. take n old) count ∙ stood in
    let room : new ≡ (here ++ more) ++ rest = new_is ∙ rw (front, mid) refl in
    rw (all, room) (take-append_seam (here ++ more) rest)
