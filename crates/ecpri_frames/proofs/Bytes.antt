-- What each phase makes of the next bytes.
use Rattle.std.proofs.Common.{◌≡◌, ℕ, zero, suc, ◌+◌, ◌-◌, ◌<◌, ◌≤◌, ◌≢◌, ◌⊎◌, inl, inr, Bool, true, false, cond, ltb, List, [], ◌∷◌, ◌++◌, length, take, drop, Option, refl, ap, arith, length-append, length-drop, append_assoc, add-zero, zero-add}
use Rattle.std.proofs.lemmas.List.{append-nil, map-append, length-take-le, take_at, drop_at}
use Rattle.std.proofs.Math.Seq.{take-append-add, drop-append-add}
use Rattle.std.proofs.lemmas.Bool.{lt-ltb, le-ltb, eq-eqb}
use Rattle.std.proofs.lemmas.Bool.Decides.{nat_tests}
use Rattle.ecpri_frames.specs.declared.heads.Head.{Head}
use Rattle.ecpri_frames.specs.declared.refusals.PduRefusal.{PduRefusal}
use Rattle.ecpri_frames.specs.declared.refusals.PduWhy.{PduWhy}
use Rattle.ecpri_frames.specs.declared.refusals.PduWhy.TheVariants.{NoPadding}
use Rattle.ecpri_frames.specs.Messages.{Reading, over, fault, before, padding, behind_head, behind_first, read_from}
use Rattle.ecpri_frames.specs.Phases.{Item, Start, Byte, Close, Telling, bytes_told, closes, telling, after, in_padding, behind_payload, in_payload, behind_second, behind_third}

pub lt_tells : (m n : ℕ) → ((ltb m n ≡ true) × (m < n)) ⊎ ((ltb m n ≡ false) × (n ≤ m))
lt_tells m n = grind (arith, nat_tests)

-- what is read after the bytes of a message is read from there
pub read_skip : (k n at : ℕ) (rest : List ℕ) → k ≤ length rest → read_from at (k + n) rest ≡ read_from (at + k) n (drop k rest)
read_skip zero n at rest h = rw (zero-add, add-zero) refl
read_skip (suc k) n at [] h = absurd (omega arith)
read_skip (suc k) n at (b ∷ rest) h =
    let e : suc k + n ≡ suc (k + n) = omega arith in
    let f : at + 1 + k ≡ at + suc k = omega arith in
    rw (e, read_skip k n (at + 1) rest (omega arith), f) refl

mk : (i j : List Item) (r s : Option PduRefusal) → i ≡ j → r ≡ s → (let x : Telling = record { items = i; refusal = r } in x) ≡ record { items = j; refusal = s }
mk i j r s p q = rw (p, q) refl

fault_at : (at here : ℕ) (why : PduWhy) → at ≡ here → telling (fault at why) ≡ telling (fault here why)
fault_at at here why e = rw e refl

pub second : (place at a b : ℕ) (rest : List ℕ) → place ≡ at - 1 → telling (behind_first place at a (b ∷ rest) (λ n. read_from at n (b ∷ rest))) ≡ behind_second (at + 1) a b rest
second place at a b [] h = fault_at _ _ _ (omega arith)
second place at a b (c ∷ []) h = fault_at _ _ _ (omega arith)
second place at a b (c ∷ d ∷ rest) h =
    let e : at + 3 ≡ at + 1 + 2 = omega arith in
    let f : at + 1 + 1 + 1 ≡ at + 1 + 2 = omega arith in
    let g : place ≡ at + 1 - 2 = omega arith in
    rw (e, f, g) refl

pub third : (at a b c : ℕ) (rest : List ℕ) → behind_second at a b (c ∷ rest) ≡ behind_third (at + 1) a b c rest
third at a b c [] = fault_at _ _ _ (omega arith)
third at a b c (d ∷ rest) =
    let e : at + 2 ≡ at + 1 + 1 = omega arith in
    let f : at - 2 ≡ at + 1 - 3 = omega arith in
    rw (e, f) refl

-- after a complete header
pub closed : (size there : ℕ) → 0 < size → there ≡ size → closes size there ≡ Close ∷ []
closed size there p e = rw (lt-ltb 0 size p, eq-eqb there size e) refl

pub open_yet : (size there : ℕ) → there ≢ size → closes size there ≡ []
open_yet size there e = grind (arith, nat_tests)

-- the rest of the frame after a complete payload of `size` bytes
behind : (at : ℕ) (head : Head) (rest : List ℕ) (more : Bool) (size pad : ℕ) → size ≤ length rest →
    telling (cond more (cond (ltb (length rest) (size + pad)) (fault (at + length rest) NoPadding) (read_from at (size + pad) rest)) over)
    ≡ cond more (in_padding (at + size) pad (drop size rest)) (telling over)
behind at head rest false size pad h = refl
behind at head rest true size pad h =
    let l : length (drop size rest) ≡ length rest - size = length-drop size rest in
    elim (lt_tells (length rest) (size + pad)) [
      | inl p ↦
          let q : ltb (length (drop size rest)) pad ≡ true = lt-ltb _ _ (omega arith) in
          let e : at + length rest ≡ at + size + length (drop size rest) = omega arith in
          rw (p.0, q, e) refl
      | inr p ↦
          let q : ltb (length (drop size rest)) pad ≡ false = le-ltb _ _ (omega arith) in
          rw (p.0, q, read_skip size pad at rest h) refl
    ]

pub shut : (size there : ℕ) → size ≡ 0 → closes size there ≡ []
shut size there e = grind (arith, nat_tests)

-- one told part after another
pub after_after : (xs ys : List Item) (t : Telling) → after (xs ++ ys) t ≡ after xs (after ys t)
after_after xs ys t = mk _ _ _ _ (append_assoc xs ys t.items) refl

told_before : (place : ℕ) (head : Head) (payload : List ℕ) (r : Reading) → telling (before place head payload r) ≡ after (Start place head ∷ (bytes_told payload ++ closes head.size (length payload))) (telling r)
told_before place head payload r = refl

pub opened : (place at : ℕ) (head : Head) (rest : List ℕ) → 0 < head.size →
    telling (behind_head place at head rest (λ n. read_from at n rest)) ≡ after (Start place head ∷ []) (in_payload at head head.size rest)
opened place at head rest h =
    elim (lt_tells (length rest) head.size) [
      | inl p ↦ rw (p.0, open_yet head.size (length rest) (omega arith))
          (mk _ _ _ _ (ap (λ (ys : List Item). Start place head ∷ (ys ++ [])) (append-nil (bytes_told rest))) refl)
      | inr p ↦
          let l : length (take head.size rest) ≡ head.size = length-take-le head.size rest p.1 in
          let b = behind at head rest head.more head.size (padding head.size) p.1 in
          rw (p.0, closed head.size (length (take head.size rest)) h l)
          (ap (λ (t : Telling). after (Start place head ∷ (bytes_told (take head.size rest) ++ Close ∷ [])) t) b)
    ]

pub opened_empty : (place at : ℕ) (head : Head) (rest : List ℕ) → head.size ≡ 0 →
    telling (behind_head place at head rest (λ n. read_from at n rest)) ≡ after (Start place head ∷ []) (behind_payload at head rest)
opened_empty place at head rest h =
    let p : head.size ≤ length rest = omega arith in
    let t : take head.size rest ≡ [] = ap (λ n. take n rest) h in
    let d : drop head.size rest ≡ rest = ap (λ n. drop n rest) h in
    let e : at + head.size ≡ at = omega arith in
    let b = rw (d, e) at (behind at head rest head.more head.size (padding head.size) p) in
    rw (le-ltb (length rest) head.size p, t, shut head.size 0 h) (ap (λ (t : Telling). after (Start place head ∷ []) t) b)

pub payload_more : (at : ℕ) (head : Head) (left : ℕ) (xs rest : List ℕ) → length xs < left →
    in_payload at head left (xs ++ rest) ≡ after (bytes_told xs) (in_payload (at + length xs) head (left - length xs) rest)
payload_more at head left xs rest h =
    let l : length (xs ++ rest) ≡ length xs + length rest = length-append xs rest in
    elim (lt_tells (length rest) (left - length xs)) [
      | inl p ↦
          let q : ltb (length (xs ++ rest)) left ≡ true = lt-ltb _ _ (omega arith) in
          let e : at + length (xs ++ rest) ≡ at + length xs + length rest = omega arith in
          rw (q, p.0, e, map-append Byte xs rest) (after_after (bytes_told xs) (bytes_told rest) _)
      | inr p ↦
          let q : ltb (length (xs ++ rest)) left ≡ false = le-ltb _ _ (omega arith) in
          let e : at + length xs + (left - length xs) ≡ at + left = omega arith in
          let f : length xs + (left - length xs) ≡ left = omega arith in
          let t : take left (xs ++ rest) ≡ xs ++ take (left - length xs) rest = rw f at (take-append-add xs rest (left - length xs)) in
          let d : drop left (xs ++ rest) ≡ drop (left - length xs) rest = rw f at (drop-append-add xs rest (left - length xs)) in
          rw (q, p.0, e, t, d, map-append Byte xs (take (left - length xs) rest), append_assoc (bytes_told xs) (bytes_told (take (left - length xs) rest)) (Close ∷ []))
          (after_after (bytes_told xs) (bytes_told (take (left - length xs) rest) ++ Close ∷ []) _)
    ]

pub payload_done : (at : ℕ) (head : Head) (xs rest : List ℕ) →
    in_payload at head (length xs) (xs ++ rest) ≡ after (bytes_told xs ++ Close ∷ []) (behind_payload (at + length xs) head rest)
payload_done at head xs rest =
    let l : length (xs ++ rest) ≡ length xs + length rest = length-append xs rest in
    rw (le-ltb (length (xs ++ rest)) (length xs) (omega arith), take_at xs rest (length xs) refl, drop_at xs rest (length xs) refl) refl

pub padding_more : (at n b : ℕ) (rest : List ℕ) → in_padding at (suc n) (b ∷ rest) ≡ in_padding (at + 1) n rest
padding_more at n b rest =
    let e : at + length (b ∷ rest) ≡ at + 1 + length rest = omega arith in
    elim (lt_tells (length rest) n) [
      | inl p ↦ rw (lt-ltb (length (b ∷ rest)) (suc n) (omega arith), p.0, e) refl
      | inr p ↦ rw (le-ltb (length (b ∷ rest)) (suc n) (omega arith), p.0) refl
    ]

pub padding_none : (at : ℕ) (rest : List ℕ) → in_padding at 0 rest ≡ telling (read_from at 0 rest)
padding_none at rest = rw (le-ltb (length rest) 0 (omega arith)) refl
