-- What a whole header, or the first bytes of a section, tell.
use Rattle.std.proofs.Common.{◌≡◌, ℕ, ◌+◌, ◌-◌, ◌*◌, ◌≤◌, inl, inr, Bool, true, false, not, ◌&&◌, cond, ltb, List, [], ◌∷◌, ◌++◌, length, drop, refl, ap, ◌∙◌, arith, length-append, Ok, Err}
use Rattle.std.proofs.Math.Seq.{drop-append-add}
use Rattle.std.proofs.lemmas.List.{drop_at}
use Rattle.std.proofs.lemmas.Bool.{lt-ltb, le-ltb, cases_lt}
use Rattle.fh_base.specs.declared.values.Shape.{Shape}
use Rattle.bfp_codec.specs.declared.methods.Method.{Method}
use Rattle.bfp_codec.specs.declared.methods.Format.{Format}
use Rattle.bfp_codec.specs.Layout.{length_of}
use Rattle.uplane_sections.specs.declared.values.UHead.{UHead}
use Rattle.uplane_sections.specs.declared.values.USection.{USection}
use Rattle.uplane_sections.specs.declared.values.UWhy.{UWhy}
use Rattle.uplane_sections.specs.declared.values.UWhy.TheVariants.{Truncated, Version, SlotRange, SymbolRange, EveryOtherRb, PrbRange, Method as UnknownMethod}
use Rattle.uplane_sections.specs.Header.{head_of}
use Rattle.fh_base.specs.Carrier.{first_of, count_of}
use Rattle.uplane_sections.specs.Section.{symInc, startPrbu, numPrbu, is_method, method_in, section_with, size_of}
use Rattle.uplane_sections.specs.Messages.{Head, Section, Telling, fault, after, blocks, section_at, sections, message_from}
use Rattle.uplane_sections.specs.Phases.{checked, head_checked, symbol_checked, with_method, in_section, behind_first}
use Rattle.uplane_sections.proofs.Behind.{field_front, behind, sections_start}

-- three tests, one after the other
three : {A : Type 0} (a b c : Bool) (at : ℕ) (u v w : UWhy) (x : A) (f : A → Telling) (t : Telling) → t ≡ f x →
    cond a (fault at u) (cond b (fault at v) (cond c (fault at w) t)) ≡ checked at (cond a (Err u) (cond b (Err v) (cond c (Err w) (Ok x)))) f
three true b c at u v w x f t e = refl
three false true c at u v w x f t e = refl
three false false true at u v w x f t e = refl
three false false false at u v w x f t e = e

three_more : {A : Type 0} (a b c : Bool) (at : ℕ) (u v w : UWhy) (x : A) (f g : A → Telling) → f x ≡ g x →
    checked at (cond a (Err u) (cond b (Err v) (cond c (Err w) (Ok x)))) f ≡ checked at (cond a (Err u) (cond b (Err v) (cond c (Err w) (Ok x)))) g
three_more true b c at u v w x f g e = refl
three_more false true c at u v w x f g e = refl
three_more false false true at u v w x f g e = refl
three_more false false false at u v w x f g e = e

module _ (format : Format) (prbs : ℕ) (shape : Shape) where
  pub head_step : (at : ℕ) (xs rest : List ℕ) → length xs ≡ 4 →
      message_from format prbs shape at (xs ++ rest) ≡ checked at (head_checked shape xs) (λ (h : UHead). after (Head h ∷ []) (sections format prbs shape (at + 4) h.symbol 0 rest))
  head_step at xs rest h =
      let l : length (xs ++ rest) ≡ length xs + length rest = length-append xs rest in
      let f = λ (i : ℕ) (n : ℕ) (fits : i + n ≤ 32). field_front xs rest i n (omega arith) in
      rw (le-ltb (length (xs ++ rest)) 4 (omega arith), f 0 1 (omega arith), f 1 3 (omega arith), f 4 4 (omega arith), f 8 8 (omega arith), f 16 4 (omega arith), f 20 6 (omega arith), f 26 6 (omega arith), drop_at xs rest 4 h)
      (three _ _ _ at Version SlotRange SymbolRange (head_of xs) (λ (h : UHead). after (Head h ∷ []) (sections format prbs shape (at + 4) h.symbol 0 rest)) _ refl)

  -- a section whose headers are there
  whole_section : (at size : ℕ) (s : USection) (bytes : List ℕ) (all n : ℕ) → n ≡ count_of prbs s.num_prb * length_of s.method → all ≡ size + n → size ≤ length bytes →
      after (Section s ∷ blocks s.method (first_of s.start_prb s.num_prb) (count_of prbs s.num_prb) (drop size bytes))
      (cond (ltb (length bytes) all) (fault (at + length bytes) Truncated) (sections format prbs shape at s.symbol all bytes))
      ≡ in_section format prbs shape (at + size) s (drop size bytes)
  whole_section at size s bytes all n is sum h =
      rw (behind format prbs shape bytes size n at s.symbol all sum h, is) refl

  static_step : (at : ℕ) (s : USection) (xs rest : List ℕ) → length xs ≡ 4 →
      after (Section s ∷ blocks s.method (first_of s.start_prb s.num_prb) (count_of prbs s.num_prb) (drop 4 (xs ++ rest)))
      (cond (ltb (length (xs ++ rest)) (4 + count_of prbs s.num_prb * length_of s.method)) (fault (at + length (xs ++ rest)) Truncated)
      (sections format prbs shape at s.symbol (4 + count_of prbs s.num_prb * length_of s.method) (xs ++ rest)))
      ≡ in_section format prbs shape (at + 4) s rest
  static_step at s xs rest h =
      let l : length (xs ++ rest) ≡ length xs + length rest = length-append xs rest in
      whole_section at 4 s (xs ++ rest) _ _ refl refl (omega arith) ∙ ap (in_section format prbs shape (at + 4) s) (drop_at xs rest 4 h)

  six : (xs rest : List ℕ) → length xs ≡ 4 → drop 6 (xs ++ rest) ≡ drop 2 rest
  six xs rest h =
      let e : length xs + 2 ≡ 6 = omega arith in
      rw e at (drop-append-add xs rest 2)

  dynamic_step : (at : ℕ) (s t : USection) (xs rest : List ℕ) → length xs ≡ 4 → t ≡ with_method s (method_in rest) →
      cond (ltb (length (xs ++ rest)) 6) (fault (at + length (xs ++ rest)) Truncated) (cond (not (is_method (drop 4 (xs ++ rest)))) (fault at UnknownMethod)
      (after (Section t ∷ blocks t.method (first_of t.start_prb t.num_prb) (count_of prbs t.num_prb) (drop 6 (xs ++ rest)))
      (cond (ltb (length (xs ++ rest)) (6 + count_of prbs t.num_prb * length_of t.method)) (fault (at + length (xs ++ rest)) Truncated)
      (sections format prbs shape at t.symbol (6 + count_of prbs t.num_prb * length_of t.method) (xs ++ rest)))))
      ≡ behind_first format prbs shape (at + 4) s rest
  dynamic_step at s t xs rest h is =
      let l : length (xs ++ rest) ≡ length xs + length rest = length-append xs rest in
      let place : at + length (xs ++ rest) ≡ at + 4 + length rest = omega arith in
      let back : at + 4 - 4 ≡ at = omega arith in
      let on : at + 6 ≡ at + 4 + 2 = omega arith in
      elim (cases_lt (length rest) 2) [
        | inl p ↦ rw (lt-ltb (length (xs ++ rest)) 6 (omega arith), lt-ltb (length rest) 2 p, place) refl
        | inr p ↦
            let w = whole_section at 6 t (xs ++ rest) _ _ refl refl (omega arith) in
            rw (le-ltb (length (xs ++ rest)) 6 (omega arith), le-ltb (length rest) 2 p, back, w, drop_at xs rest 4 h, six xs rest h, on, is) refl
      ]

  -- what is told of a section that passes the tests of its first four bytes
  tail : Bool → ℕ → ℕ → List ℕ → Telling
  tail dyn at symbol bytes =
      cond (dyn && ltb (length bytes) 6) (fault (at + length bytes) Truncated)
      (cond (dyn && not (is_method (drop 4 bytes))) (fault at UnknownMethod)
      (after
      (Section (section_with symbol (cond dyn (method_in (drop 4 bytes)) format.method) bytes)
      ∷ blocks (cond dyn (method_in (drop 4 bytes)) format.method) (first_of (startPrbu bytes) (numPrbu bytes)) (count_of prbs (numPrbu bytes)) (drop (cond dyn 6 4) bytes))
      (cond (ltb (length bytes) (cond dyn 6 4 + count_of prbs (numPrbu bytes) * length_of (cond dyn (method_in (drop 4 bytes)) format.method))) (fault (at + length bytes) Truncated)
      (sections format prbs shape at symbol (cond dyn 6 4 + count_of prbs (numPrbu bytes) * length_of (cond dyn (method_in (drop 4 bytes)) format.method)) bytes))))

  goes_on : Bool → ℕ → List ℕ → List ℕ → ℕ → Telling
  goes_on dyn at xs rest symbol = cond dyn (behind_first format prbs shape (at + 4) (section_with symbol format.method xs) rest) (in_section format prbs shape (at + 4) (section_with symbol format.method xs) rest)

  tail_is : (dyn : Bool) (at symbol : ℕ) (xs rest : List ℕ) → length xs ≡ 4 → tail dyn at symbol (xs ++ rest) ≡ goes_on dyn at (xs ++ rest) rest symbol
  unfolding tail goes_on
  tail_is true at symbol xs rest h =
      let s = section_with symbol format.method (xs ++ rest) in
      dynamic_step at s (with_method s (method_in (drop 4 (xs ++ rest)))) xs rest h (ap (λ ys. with_method s (method_in ys)) (drop_at xs rest 4 h))
  tail_is false at symbol xs rest h = static_step at (section_with symbol format.method (xs ++ rest)) xs rest h

  tested : (at before : ℕ) (bytes : List ℕ) → 4 ≤ length bytes →
      section_at format prbs shape at before bytes (sections format prbs shape at (before + symInc bytes) (size_of format prbs bytes) bytes)
      ≡ checked at (symbol_checked prbs shape before bytes) (λ symbol. tail format.dynamic at (before + symInc bytes) bytes)
  unfolding tail
  tested at before bytes h =
      rw (le-ltb (length bytes) 4 h)
      (three _ _ _ at EveryOtherRb SymbolRange PrbRange (before + symInc bytes) (λ symbol. tail format.dynamic at (before + symInc bytes) bytes) _ refl)

  -- the first four bytes of a section
  pub section_step : (at before : ℕ) (xs rest : List ℕ) → length xs ≡ 4 →
      sections format prbs shape at before 0 (xs ++ rest) ≡ checked at (symbol_checked prbs shape before xs) (λ symbol.
      cond format.dynamic (behind_first format prbs shape (at + 4) (section_with symbol format.method xs) rest) (in_section format prbs shape (at + 4) (section_with symbol format.method xs) rest))
  unfolding goes_on
  section_step at before xs rest h =
      let l : length (xs ++ rest) ≡ length xs + length rest = length-append xs rest in
      let f = λ (i : ℕ) (n : ℕ) (fits : i + n ≤ 32). field_front xs rest i n (omega arith) in
      let id = f 0 12 (omega arith) in
      let rb_is = f 12 1 (omega arith) in
      let inc = f 13 1 (omega arith) in
      let prb = f 14 10 (omega arith) in
      let num = f 24 8 (omega arith) in
      let test : symbol_checked prbs shape before (xs ++ rest) ≡ symbol_checked prbs shape before xs = rw (rb_is, inc, prb, num) refl in
      let same : (symbol : ℕ) (method : Method) → section_with symbol method (xs ++ rest) ≡ section_with symbol method xs = λ symbol method. rw (id, inc, prb, num) refl in
      let on : tail format.dynamic at (before + symInc (xs ++ rest)) (xs ++ rest) ≡ goes_on format.dynamic at xs rest (before + symInc xs) =
      ap (λ n. tail format.dynamic at (before + n) (xs ++ rest)) inc ∙ tail_is format.dynamic at (before + symInc xs) xs rest h
      ∙ ap (λ (s : USection). cond format.dynamic (behind_first format prbs shape (at + 4) s rest) (in_section format prbs shape (at + 4) s rest)) (same (before + symInc xs) format.method) in
      sections_start format prbs shape at before (xs ++ rest) (omega arith)
      ∙ tested at before (xs ++ rest) (omega arith)
      ∙ ap (λ r. checked at r (λ symbol. tail format.dynamic at (before + symInc (xs ++ rest)) (xs ++ rest))) test
      ∙ three_more _ _ _ at EveryOtherRb SymbolRange PrbRange (before + symInc xs) (λ symbol. tail format.dynamic at (before + symInc (xs ++ rest)) (xs ++ rest)) (goes_on format.dynamic at xs rest) on

  -- the compression header of a section
  pub compression_step : (at : ℕ) (s : USection) (xs rest : List ℕ) → length xs ≡ 2 →
      behind_first format prbs shape at s (xs ++ rest)
      ≡ cond (not (is_method xs)) (fault (at - 4) UnknownMethod) (in_section format prbs shape (at + 2) (with_method s (method_in xs)) rest)
  compression_step at s xs rest h =
      let l : length (xs ++ rest) ≡ length xs + length rest = length-append xs rest in
      let f = λ (i : ℕ) (n : ℕ) (fits : i + n ≤ 16). field_front xs rest i n (omega arith) in
      rw (le-ltb (length (xs ++ rest)) 2 (omega arith), f 0 4 (omega arith), f 4 4 (omega arith), drop_at xs rest 2 h) refl
