-- What is read without a refusal is what the bytes spell.
use Rattle.std.proofs.Common.{◌≡◌, ℕ, zero, suc, ◌+◌, ◌%◌, ◌≤◌, ◌==◌, Bool, true, false, cond, ltb, inl, inr, List, [], ◌∷◌, ◌++◌, length, take, drop, None, refl, sym, ap, ◌∙◌, arith, length-append, length-drop}
use Rattle.std.proofs.lemmas.List.{take-append-drop, drop-drop, length-take-le, take_at, drop_at}
use Rattle.std.proofs.Math.Seq.{drop-append-add}
use Rattle.std.proofs.lemmas.Bool.{le-ltb, eq-eqb, eqb-true}
use Rattle.bfp_codec.proofs.Field.{field_in_byte}
use Rattle.ecpri_frames.specs.declared.heads.Head.{Head}
use Rattle.ecpri_frames.specs.declared.refusals.PduWhy.TheVariants.{Revision, NoPadding}
use Rattle.ecpri_frames.specs.Headers.{revision, head_of}
use Rattle.ecpri_frames.specs.Messages.{Message, Reading, over, fault, before, padding, behind_head, behind_first, read_from}
use Rattle.ecpri_frames.specs.Spelling.{IsMessage, GoesOn, Spells}
use Rattle.ecpri_frames.proofs.Bytes.{lt_tells, read_skip}

-- the padding is the one number from 0 to 3 that leads to a multiple of 4
pub padding_is : (size n : ℕ) → n ≤ 3 → (4 + size + n) % 4 ≡ 0 → n ≡ padding size
padding_is size n h e = omega arith

pub padding_short : (size : ℕ) → padding size ≤ 3
padding_short size = omega arith

pub padding_aligns : (size : ℕ) → (4 + size + padding size) % 4 ≡ 0
padding_aligns size = omega arith

-- the revision is in the first byte
pub revision_of_first : (a : ℕ) (xs ys : List ℕ) → revision (a ∷ xs) ≡ revision (a ∷ ys)
revision_of_first a xs ys = field_in_byte (a ∷ xs) 0 4 (omega arith) ∙ sym (field_in_byte (a ∷ ys) 0 4 (omega arith))

go_on : (place : ℕ) (bytes : List ℕ) (m : Message) (ms : List Message) → GoesOn place bytes m (λ at rest. Spells at rest ms) → Spells place bytes (m ∷ ms)
go_on place bytes m [] g = absurd (g.next)
go_on place bytes m (n ∷ ms) g = g

-- after a complete payload
whole : (place at : ℕ) (header : List ℕ) (head : Head) (rest : List ℕ) (next : ℕ → Reading) (more : Bool) → head.more ≡ more →
    length header ≡ 4 → revision header ≡ 1 → head_of header ≡ head → head.size ≤ length rest →
    ((n : ℕ) → n ≤ length rest → (next n).refusal ≡ None → Spells (place + 4 + n) (drop n rest) (next n).messages) →
    (cond more (cond (ltb (length rest) (head.size + padding head.size)) (fault (at + length rest) NoPadding) (next (head.size + padding head.size))) over).refusal ≡ None →
    Spells place (header ++ rest) (record { place = place; head = head; payload = take head.size rest }
    ∷ (cond more (cond (ltb (length rest) (head.size + padding head.size)) (fault (at + length rest) NoPadding) (next (head.size + padding head.size))) over).messages)
whole place at header head rest next false m four rev is fits ih h = record {
  header = header;
  beyond = drop head.size rest;
  bytes_are = ap (λ (xs : List ℕ). header ++ xs) (sym (take-append-drop head.size rest));
  message = record { at = refl; four = four; revision = rev; head = is; payload = length-take-le head.size rest fits };
  last = m;
}
whole place at header head rest next true m four rev is fits ih h =
    let pad = padding head.size in
    elim (lt_tells (length rest) (head.size + pad)) [
      | inl p ↦ absurd (let q = rw p.0 at h in cc)
      | inr p ↦
          let l : length (take pad (drop head.size rest)) ≡ pad = length-take-le pad (drop head.size rest) (omega (arith, length-drop head.size rest)) in
          let q : (next (head.size + pad)).refusal ≡ None = rw p.0 at h in
          let s = ih (head.size + pad) p.1 q in
          let e : place + 4 + (head.size + pad) ≡ place + (4 + head.size + length (take pad (drop head.size rest))) = omega arith in
          let parts : rest ≡ take head.size rest ++ (take pad (drop head.size rest) ++ drop (head.size + pad) rest) =
          rw (← drop-drop pad head.size rest) (sym (ap (λ (xs : List ℕ). take head.size rest ++ xs) (take-append-drop pad (drop head.size rest)) ∙ take-append-drop head.size rest)) in
          rw p.0 (go_on place (header ++ rest) _ (next (head.size + pad)).messages record {
            header = header;
            pad = take pad (drop head.size rest);
            beyond = drop (head.size + pad) rest;
            bytes_are = ap (λ (xs : List ℕ). header ++ xs) parts;
            message = record { at = refl; four = four; revision = rev; head = is; payload = length-take-le head.size rest fits };
            more = m;
            short = rw l (padding_short head.size);
            aligned = rw l (padding_aligns head.size);
            next = rw e at s;
          })
    ]

behind : (place at : ℕ) (header : List ℕ) (head : Head) (rest : List ℕ) (next : ℕ → Reading) →
    length header ≡ 4 → revision header ≡ 1 → head_of header ≡ head →
    ((n : ℕ) → n ≤ length rest → (next n).refusal ≡ None → Spells (place + 4 + n) (drop n rest) (next n).messages) →
    (behind_head place at head rest next).refusal ≡ None → Spells place (header ++ rest) (behind_head place at head rest next).messages
behind place at header head rest next four rev is ih h =
    elim (lt_tells (length rest) head.size) [
      | inl p ↦ absurd (let q = rw p.0 at h in cc)
      | inr p ↦ rw p.0 (whole place at header head rest next head.more refl four rev is p.1 ih (rw p.0 at h))
    ]

by_revision : (at b : ℕ) (bytes : List ℕ) (first : Bool) → (revision (b ∷ []) == 1) ≡ first →
    ((n : ℕ) → n ≤ length bytes → (read_from (at + 1) n bytes).refusal ≡ None → Spells (at + 1 + n) (drop n bytes) (read_from (at + 1) n bytes).messages) →
    (cond first (behind_first at (at + 1) b bytes (λ n. read_from (at + 1) n bytes)) (fault at Revision)).refusal ≡ None →
    Spells at (b ∷ bytes) (cond first (behind_first at (at + 1) b bytes (λ n. read_from (at + 1) n bytes)) (fault at Revision)).messages
by_revision at b bytes false e ih h = absurd (cc)
by_revision at b [] true e ih h = absurd (cc)
by_revision at b (c ∷ []) true e ih h = absurd (cc)
by_revision at b (c ∷ d ∷ []) true e ih h = absurd (cc)
by_revision at b (c ∷ d ∷ f ∷ rest) true e ih h =
    let header = b ∷ c ∷ d ∷ f ∷ [] in
    let rev : revision header ≡ 1 = revision_of_first b (c ∷ d ∷ f ∷ []) [] ∙ eqb-true (revision (b ∷ [])) 1 e in
    behind at (at + 1 + 3) header (head_of header) rest (λ n. read_from (at + 1) (suc (suc (suc n))) (c ∷ d ∷ f ∷ rest)) refl rev refl
    (λ n fits q.
    let s = ih (suc (suc (suc n))) (omega arith) q in
    let i : at + 1 + suc (suc (suc n)) ≡ at + 4 + n = omega arith in
    rw i at s)
    h

-- Bytes that are read without a refusal spell the messages that are read.
pub spelled_from : (at skip : ℕ) (bytes : List ℕ) → (read_from at skip bytes).refusal ≡ None → (skip ≤ length bytes) × Spells (at + skip) (drop skip bytes) (read_from at skip bytes).messages
spelled_from at skip [] h = absurd (cc)
spelled_from at (suc skip) (b ∷ bytes) h =
    let s = spelled_from (at + 1) skip bytes h in
    let e : at + 1 + skip ≡ at + suc skip = omega arith in
    (omega (arith, s.0), rw e at s.1)
spelled_from at zero (b ∷ bytes) h =
    let e : at + 0 ≡ at = omega arith in
    (omega arith, rw e (by_revision at b bytes (revision (b ∷ []) == 1) refl (λ n fits q. (spelled_from (at + 1) n bytes q).1) h))

read_header : (place : ℕ) (header rest : List ℕ) → length header ≡ 4 → revision header ≡ 1 →
    read_from place 0 (header ++ rest) ≡ behind_head place (place + 4) (head_of header) rest (λ n. read_from (place + 4) n rest)
read_header place [] rest four rev = absurd (omega arith)
read_header place (a ∷ []) rest four rev = absurd (omega arith)
read_header place (a ∷ b ∷ []) rest four rev = absurd (omega arith)
read_header place (a ∷ b ∷ c ∷ []) rest four rev = absurd (omega arith)
read_header place (a ∷ b ∷ c ∷ d ∷ []) rest four rev =
    let e : place + 1 + 3 ≡ place + 4 = omega arith in
    let f : place + 1 + 1 + 1 + 1 ≡ place + 4 = omega arith in
    let r : (revision (a ∷ []) == 1) ≡ true = eq-eqb _ _ (revision_of_first a [] (b ∷ c ∷ d ∷ []) ∙ rev) in
    rw (r, e, f) refl
read_header place (a ∷ b ∷ c ∷ d ∷ x ∷ xs) rest four rev = absurd (omega arith)

read_message : (place : ℕ) (header beyond : List ℕ) (m : Message) → IsMessage place header m →
    read_from place 0 (header ++ (m.payload ++ beyond)) ≡ before m.place m.head m.payload
    (cond m.head.more (cond (ltb (length (m.payload ++ beyond)) (m.head.size + padding m.head.size)) (fault (place + 4 + length (m.payload ++ beyond)) NoPadding) (read_from (place + 4) (m.head.size + padding m.head.size) (m.payload ++ beyond))) over)
read_message place header beyond m i =
    let rest = m.payload ++ beyond in
    let l : length rest ≡ length m.payload + length beyond = length-append m.payload beyond in
    read_header place header rest i.four i.revision
    ∙ ap (λ (head : Head). behind_head place (place + 4) head rest (λ n. read_from (place + 4) n rest)) i.head
    ∙ rw (i.at, le-ltb (length rest) m.head.size (omega (arith, i.payload)), take_at m.payload beyond m.head.size i.payload) refl

-- The messages that bytes spell are the ones that are read.
pub read_spelled : (place : ℕ) (ms : List Message) (bytes : List ℕ) → Spells place bytes ms →
    read_from place 0 bytes ≡ (let r : Reading = record { messages = ms; refusal = None } in r)
read_spelled place [] bytes s = absurd s
read_spelled place (m ∷ []) bytes s = rw s.bytes_are (read_message place s.header s.beyond m s.message ∙ rw s.last refl)
read_spelled place (m ∷ n ∷ ms) bytes s =
    let rest = m.payload ++ (s.pad ++ s.beyond) in
    let p : length s.pad ≡ padding m.head.size = padding_is m.head.size (length s.pad) s.short s.aligned in
    let l1 = length-append m.payload (s.pad ++ s.beyond) in
    let l2 = length-append s.pad s.beyond in
    let k : m.head.size + padding m.head.size ≡ length m.payload + length s.pad = omega (arith, s.message.payload) in
    let fits : m.head.size + padding m.head.size ≤ length rest = omega arith in
    let d : drop (m.head.size + padding m.head.size) rest ≡ s.beyond = rw k (drop-append-add m.payload (s.pad ++ s.beyond) (length s.pad) ∙ drop_at s.pad s.beyond (length s.pad) refl) in
    let z : m.head.size + padding m.head.size + 0 ≡ m.head.size + padding m.head.size = omega arith in
    let e : place + 4 + (m.head.size + padding m.head.size) ≡ place + (4 + m.head.size + length s.pad) = omega arith in
    let skipped : read_from (place + 4) (m.head.size + padding m.head.size) rest ≡ read_from (place + (4 + m.head.size + length s.pad)) 0 s.beyond =
    rw (z, e, d) at (read_skip (m.head.size + padding m.head.size) 0 (place + 4) rest fits) in
    rw s.bytes_are (read_message place s.header (s.pad ++ s.beyond) m s.message
    ∙ rw (s.more, le-ltb (length rest) (m.head.size + padding m.head.size) fits, skipped, read_spelled (place + (4 + m.head.size + length s.pad)) (n ∷ ms) s.beyond s.next) refl)
